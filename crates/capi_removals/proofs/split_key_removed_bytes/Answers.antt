-- The call's own answer is told, or 11. Assumes nothing.
use Rattle.rows_spec.specs.Calls.{told_removal}
use Rattle.capi_spec.specs.Told.{sum_answer}
use Rattle.records_spec.specs.declared.refusal.Refusal.TheVariants.{BadTable}
use Rattle.std.specs.Prelude.{Err}
use mathlib.Core.Path.{refl, sym, ◌∙◌}
use Rattle.capi_spec.proofs.Telling.{when_true, when_false, told_as_lem}
use Rattle.capi_removals.proofs.split_key_removed_bytes.Goals as goal

pub returns-then-is_kind : goal.returns-then-is_kind
returns-then-is_kind c =
    told_as_lem sum_answer _ (told_removal c.split_key_removed_bytes.result) _ _ c.sum_told.ensures
    (when_true _ _ _ (sym c.is_kind.ensures ∙ c.if-is_kind.true)
    (c.split_key_removed_bytes.ensures ∙ simp c.head_given.ensures))

pub returns-else-is_kind : goal.returns-else-is_kind
returns-else-is_kind c = told_as_lem sum_answer _ (told_removal (Err BadTable)) _ _ c.sum_told-else-is_kind.ensures
    (when_false _ _ _ (sym c.is_kind.ensures ∙ c.if-is_kind.false) refl)
