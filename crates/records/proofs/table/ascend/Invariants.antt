-- The whole ascends if what is passed is good and what is left ascends from the epoch before it. Assumes nothing.
use Rattle.std.proofs.Common.{◌≡◌, ◌&&◌, drop}
use Rattle.records_spec.specs.Tables.{ascending}
use Rattle.records.proofs.table.ascend.Given as goal

abbrev pub invariant-loop-epoch : goal.invariant-loop-epoch
invariant-loop-epoch l = ascending l.base l.epochs ≡ (l.good && ascending l.prev (drop l.epoch-index l.epochs))
