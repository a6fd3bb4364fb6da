-- What is left of the union at the places reached makes of the tables what all of it makes of those lent. Assumes nothing.
use Rattle.std.proofs.Common.{ℕ, ◌+◌, ◌-◌, List, drop}
use Rattle.records_spec.specs.Tables.{At, records_of, union}
use Rattle.records_spec.proofs.Tables.{Filling}
use Rattle.records_spec.proofs.Unions.{Walking}
use Rattle.records.proofs.table.union_into.Given as goal

abbrev pub invariant-loop-a : goal.invariant-loop-a
invariant-loop-a l =
    let ours = records_of l.our_epochs l.our_counts in
    let theirs = records_of l.their_epochs l.their_counts in
    let left : ℕ → ℕ → List At = λ a b. union (drop a ours) (drop b theirs) in
    record {
      walking : Walking ours theirs (l.our_end + l.their_end) l.a l.b;
      filling : Filling (left l.i l.j) (left l.a l.b) l.at l.k l.fn.epochs l.fn.counts l.epochs l.counts;
    }

abbrev pub decreases-loop-a : goal.decreases-loop-a
decreases-loop-a l = l.our_end + l.their_end - (l.a + l.b)
