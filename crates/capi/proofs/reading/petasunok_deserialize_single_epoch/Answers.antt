-- The call's own answer is told. Assumes nothing.
use Rattle.records_spec.specs.Flags.{lending}
use Rattle.capi_spec.proofs.Telling.{flags_told_lem}
use Rattle.capi.proofs.reading.petasunok_deserialize_single_epoch.Goals as goal

pub returns : goal.returns
returns c =
    flags_told_lem _ c.deserialize_single_epoch.result (lending _ _) _ c.flags_told.ensures
    c.deserialize_single_epoch.ensures
