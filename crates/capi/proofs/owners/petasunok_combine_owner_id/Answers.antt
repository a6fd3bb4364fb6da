-- The call's own choice is told, or 11. Assumes nothing.
use mathlib.Core.Path.{refl, sym, ap, ◌∙◌}
use Rattle.capi_spec.proofs.Telling.{when_true, when_false}
use Rattle.capi_spec.specs.Told.{owner_told}
use Rattle.capi.proofs.owners.petasunok_combine_owner_id.Goals as goal

pub returns-then-is_strategy : goal.returns-then-is_strategy
returns-then-is_strategy c = c.owner_told.ensures ∙ ap owner_told (when_true _ _ _ (sym c.is_strategy.ensures ∙ c.if-is_strategy.true)
    (c.choose_owner_id.ensures ∙ simp c.strategy_given.ensures))

pub returns-else-is_strategy : goal.returns-else-is_strategy
returns-else-is_strategy c = c.owner_told-else-is_strategy.ensures ∙ ap owner_told (when_false _ _ _ (sym c.is_strategy.ensures ∙ c.if-is_strategy.false) refl)
