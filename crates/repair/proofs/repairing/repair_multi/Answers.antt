-- `repair::repairing::repair_multi` meets its contract: the tables come as zeros. Assumes nothing.
use Rattle.std.proofs.Common.{arith}
use Rattle.repair_spec.specs.Limits.{all_epochs}
use Rattle.repair_spec.proofs.Readying.{blank_zeros}
use Rattle.repair.proofs.repairing.repair_multi.Goals as goal

pub repair_by-requires-clause-blank : goal.repair_by-requires-clause-blank
repair_by-requires-clause-blank c =
    let zeros = blank_zeros all_epochs (omega arith) in
    (zeros, zeros, zeros.wide)
