-- `repair::repairing::keep` meets its contract. The loop's invariant: the bytes left are left to write, at the place reached.
-- Assumes nothing.
use Rattle.std.proofs.Common.{arith}
use lib.ListN.{drop_of_length-le}
use Rattle.records_spec.proofs.Rising.{drop_next}
use Rattle.fields_spec.proofs.Parts.{parts_start, parts_byte, parts_done}
use Rattle.repair_spec.proofs.Calling.{kept_long, kept_whole}
use Rattle.repair.proofs.repairing.keep.Goals as goal

pub returns-then-out-src : goal.returns-then-out-src
returns-then-out-src c = λ os cs. kept_long _ _ os cs c.if-out-src.true

pub loop-k-init : goal.loop-k-init
loop-k-init c = parts_start _ _ _

pub loop-k-preserved : goal.loop-k-preserved
loop-k-preserved c = parts_byte c.loop-k.invariant (drop_next _ _ c.loop-k-test.true)

pub returns : goal.returns
returns c = λ os cs. kept_whole _ _ os cs _ _ c.if-out-src.false
    (record { behind = omega arith; wrote = (parts_done c.loop-k.invariant (drop_of_length-le _ c.loop-k-test.false)).wrote })
