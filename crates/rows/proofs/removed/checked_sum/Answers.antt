-- `checked_sum`: where the loop ends, nothing is left to add. Assumes nothing.
use Rattle.std.proofs.Common.{ap, sum, arith}
use lib.ListN.{drop_of_length-le}
use Rattle.rows.proofs.removed.checked_sum.Goals as goal

pub returns : goal.returns
returns c =
    let counts = c.args.counts.now in
    let none_left = drop_of_length-le counts {i = c.loop-count.count-index} (omega arith) in
    (omega (arith, c.loop-count.invariant.0, ap sum none_left), c.loop-count.invariant.1)
