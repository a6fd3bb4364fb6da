-- `repair::repairing::repair_faulty` meets its contract: byte 0 names the kind by which the bytes are repaired. Assumes nothing.
use Rattle.std.proofs.Common.{◌∙◌}
use Rattle.std.proofs.lemmas.Result.{err_from_is_err_and}
use Rattle.records_spec.proofs.Naming.{kind_named, kind_unnamed}
use Rattle.repair_spec.proofs.Calling.{call_known, call_unknown}
use Rattle.repair.proofs.repairing.repair_faulty.Goals as goal

pub returns-in_err-kind : goal.returns-in_err-kind
returns-in_err-kind c =
    let a = c.args in
    let none = kind_unnamed _ _ c.in_err-kind.ensures in
    let passed = err_from_is_err_and c.from_residual.result c.from_residual.ensures.1 in
    rw (passed.1, passed.2, none.1) (call_unknown a.src.now a.out.now a.offsets.now a.changes.now c.requires none.0)

pub returns : goal.returns
returns c =
    let a = c.args in
    let named = kind_named _ _ c.in_ok-kind.ensures in
    c.repair_as.ensures ∙ call_known a.src.now a.out.now a.offsets.now a.changes.now c.requires _ named
