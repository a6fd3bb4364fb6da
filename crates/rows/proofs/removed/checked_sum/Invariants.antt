-- `checked_sum` keeps: what was added, and the numbers from the place on, make the sum; what was added fits. Assumes nothing.
use Rattle.std.proofs.Common.{◌≡◌, ◌+◌, ◌≤◌, drop, sum}
use Rattle.fields_spec.specs.Varint.{largest}
use Rattle.rows.proofs.removed.checked_sum.Given as goal

abbrev pub invariant-loop-count : goal.invariant-loop-count
invariant-loop-count l = (l.total + sum (drop l.count-index l.counts) ≡ sum l.counts) × (l.total ≤ largest)
