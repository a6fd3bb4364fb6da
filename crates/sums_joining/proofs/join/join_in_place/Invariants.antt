-- `join_in_place` keeps: from place k on the tables are as they end, and before it as they began. Assumes nothing.
use Rattle.std.proofs.Common.{◌+◌}
use Rattle.rows_spec.specs.Rows.{tables}
use Rattle.sums_spec.proofs.Lasts.{Walking}
use Rattle.sums_joining.proofs.join.join_in_place.Given as goal

abbrev pub invariant-loop-j : goal.invariant-loop-j
invariant-loop-j l =
    let began = tables l.initial.ids l.initial.epochs l.initial.bytes in
    Walking began (tables l.ids l.epochs l.bytes) (tables l.rhs_ids l.rhs_epochs l.rhs_bytes) l.n l.m l.i l.j l.k

abbrev pub decreases-loop-j : goal.decreases-loop-j
decreases-loop-j l = l.i + l.j
