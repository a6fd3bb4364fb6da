-- The call's own answer is told, or 11. Assumes nothing.
use mathlib.Core.Path.{refl, sym, ap, ◌∙◌}
use Rattle.capi_spec.proofs.Telling.{when_true, when_false}
use Rattle.capi_spec.specs.Told.{count_told}
use Rattle.capi.proofs.writing.petasunok_serialized_size.Goals as goal

pub returns-then-is_kind : goal.returns-then-is_kind
returns-then-is_kind c = c.count_told.ensures ∙ ap count_told (when_true _ _ _ (sym c.is_kind.ensures ∙ c.if-is_kind.true)
    (c.serialized_size.ensures ∙ simp c.head_given.ensures))

pub returns-else-is_kind : goal.returns-else-is_kind
returns-else-is_kind c = c.count_told-else-is_kind.ensures ∙ ap count_told (when_false _ _ _ (sym c.is_kind.ensures ∙ c.if-is_kind.false) refl)
