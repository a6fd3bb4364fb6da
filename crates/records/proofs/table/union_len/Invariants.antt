-- The number of records passed, with that of what is left, is the number of all. Assumes nothing.
use Rattle.std.proofs.Common.{◌≡◌, ◌+◌, ◌-◌, ◌≤◌, length, drop}
use Rattle.records_spec.specs.Tables.{records_of, union}
use Rattle.records_spec.proofs.Unions.{Walking}
use Rattle.records.proofs.table.union_len.Given as goal

abbrev pub invariant-loop-a : goal.invariant-loop-a
invariant-loop-a l =
    let ours = records_of l.our_epochs l.our_counts in
    let theirs = records_of l.their_epochs l.their_counts in
    record {
      walking : Walking ours theirs l.end l.a l.b;
      at_most : l.n ≤ l.a + l.b;
      whole : l.n + length (union (drop l.a ours) (drop l.b theirs)) ≡ length (union (drop l.i ours) (drop l.j theirs));
    }

abbrev pub decreases-loop-a : goal.decreases-loop-a
decreases-loop-a l = l.end - (l.a + l.b)
