-- `repair::repairing::repair_as` meets its contract: the head is not complete, or the kind leads on. Assumes nothing.
use Rattle.std.proofs.Common.{arith}
use Rattle.repair_spec.proofs.Calling.{call_short}
use Rattle.repair.proofs.repairing.repair_as.Goals as goal

pub returns-then-src-head_size : goal.returns-then-src-head_size
returns-then-src-head_size c =
    let a = c.args in
    call_short a.src.now a.out.now a.offsets.now a.changes.now a.kind (omega (arith, c.head_size.ensures))
