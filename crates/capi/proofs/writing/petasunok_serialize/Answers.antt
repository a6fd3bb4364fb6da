-- The call's own answer is told, or 11. Assumes nothing.
use Rattle.records_spec.specs.Outcomes.{answered}
use Rattle.capi_spec.specs.Told.{count_told}
use Rattle.records_spec.specs.declared.refusal.Refusal.TheVariants.{BadTable}
use Rattle.std.specs.Prelude.{Err}
use mathlib.Core.Path.{refl, sym, ◌∙◌}
use Rattle.capi_spec.proofs.Telling.{when_true, when_false, told_as_lem}
use Rattle.capi.proofs.writing.petasunok_serialize.Goals as goal

pub returns-then-is_kind : goal.returns-then-is_kind
returns-then-is_kind c =
    told_as_lem count_told _ (answered c.serialize.result) _ _ c.count_told.ensures
    (when_true _ _ _ (sym c.is_kind.ensures ∙ c.if-is_kind.true)
    (c.serialize.ensures ∙ simp c.head_given.ensures))

pub returns-else-is_kind : goal.returns-else-is_kind
returns-else-is_kind c =
    told_as_lem count_told _ (answered (Err BadTable)) _ _ c.count_told-else-is_kind.ensures
    (when_false _ _ _ (sym c.is_kind.ensures ∙ c.if-is_kind.false) refl)
