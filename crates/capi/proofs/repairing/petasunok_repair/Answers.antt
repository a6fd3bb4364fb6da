-- The call's own answer is told. Assumes nothing.
use Rattle.repair_spec.specs.Calls.{repair_lent}
use Rattle.records_spec.specs.Outcomes.{answered}
use Rattle.capi_spec.specs.Told.{repair_answer}
use Rattle.capi_spec.proofs.Telling.{told_as_lem}
use Rattle.capi.proofs.repairing.petasunok_repair.Goals as goal

pub returns : goal.returns
returns c =
    told_as_lem repair_answer _ (answered c.repair.result) (repair_lent _ _ _) _ c.repair_told.ensures c.repair.ensures
