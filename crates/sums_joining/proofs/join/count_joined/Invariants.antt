-- `count_joined` keeps: what was counted, and the join of what is left, make the join. Assumes nothing.
use Rattle.std.proofs.Common.{◌+◌}
use Rattle.rows_spec.specs.Rows.{tables}
use Rattle.sums_spec.proofs.Lasts.{Counting}
use Rattle.sums_joining.proofs.join.count_joined.Given as goal

abbrev pub invariant-loop-j : goal.invariant-loop-j
invariant-loop-j l = Counting (tables l.ids l.epochs l.bytes) (tables l.rhs_ids l.rhs_epochs l.rhs_bytes) l.n l.m l.i l.j l.count

abbrev pub decreases-loop-j : goal.decreases-loop-j
decreases-loop-j l = l.i + l.j
