-- The records of the block were taken, and are not too many. Assumes nothing.
use Rattle.std.proofs.Common.{◌≤◌, ◌-◌}
use Rattle.codec_spec.specs.Inner.Blocks.{block_records, Taken}
use Rattle.codec_judging.proofs.block.read_block.Given as goal

abbrev pub invariant-loop-block : goal.invariant-loop-block
invariant-loop-block l =
    (l.block.n ≤ block_records)
    × Taken l.src l.start l.base l.block.n l.block.next l.block.last l.initial.epochs l.initial.counts l.epochs l.counts

abbrev pub decreases-loop-block : goal.decreases-loop-block
decreases-loop-block l = block_records - l.block.n
