-- The call's own answer is told, or 11. Assumes nothing.
use Rattle.rows_spec.specs.Calls.{told_removal}
use Rattle.capi_spec.specs.Told.{sum_answer}
use Rattle.records_spec.specs.declared.refusal.Refusal.TheVariants.{BadTable}
use Rattle.std.specs.Prelude.{Err}
use mathlib.Core.Path.{refl, sym, ◌∙◌}
use Rattle.capi_spec.proofs.Telling.{when_true, when_false, told_as_lem}
use Rattle.capi_removals.proofs.add_assign.Goals as goal

pub returns-then-can_sum : goal.returns-then-can_sum
returns-then-can_sum c =
    told_as_lem sum_answer _ (told_removal c.add_assign.result) _ _ c.sum_told.ensures
    (when_true _ _ _ (sym c.can_sum.ensures ∙ c.if-can_sum.true)
    (c.add_assign.ensures ∙ simp (c.removal_given.ensures, c.removal_given-then-can_sum.ensures)))

pub returns-else-can_sum : goal.returns-else-can_sum
returns-else-can_sum c = told_as_lem sum_answer _ (told_removal (Err BadTable)) _ _ c.sum_told-else-can_sum.ensures
    (when_false _ _ _ (sym c.can_sum.ensures ∙ c.if-can_sum.false) refl)
