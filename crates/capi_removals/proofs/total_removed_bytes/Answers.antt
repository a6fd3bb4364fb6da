-- The call's own answer is told, or 11. Assumes nothing.
use mathlib.Core.Path.{refl, sym, ap, ◌∙◌}
use Rattle.capi_spec.proofs.Telling.{when_true, when_false}
use Rattle.capi_spec.specs.Told.{count_told}
use Rattle.capi_removals.proofs.total_removed_bytes.Goals as goal

pub returns-then-is_removal : goal.returns-then-is_removal
returns-then-is_removal c = c.total_told.ensures ∙ ap count_told (when_true _ _ _ (sym c.is_removal.ensures ∙ c.if-is_removal.true)
    (c.total_removed_bytes.ensures ∙ simp c.removal_given.ensures))

pub returns-else-is_removal : goal.returns-else-is_removal
returns-else-is_removal c = c.total_told-else-is_removal.ensures ∙ ap count_told (when_false _ _ _ (sym c.is_removal.ensures ∙ c.if-is_removal.false) refl)
