-- What remains of what is left makes of the tables what all that remains makes of the tables lent. Assumes nothing.
use Rattle.std.proofs.Common.{◌+◌, ◌-◌, drop}
use Rattle.records_spec.specs.Tables.{records_of, union}
use Rattle.records_spec.proofs.Tables.{Filling}
use Rattle.records_spec.proofs.Unions.{Walking}
use Rattle.removal_spec.specs.Removing.{minus}
use Rattle.removal.proofs.remaining.remaining_into.Given as goal

abbrev pub invariant-loop-a : goal.invariant-loop-a
invariant-loop-a l =
    let ours = records_of l.our_epochs l.our_counts in
    let theirs = records_of l.their_epochs l.their_counts in
    let sections = records_of l.removed_epochs l.removed_bytes in
    let left = minus (union (drop l.a ours) (drop l.b theirs)) sections in
    record {
      walking : Walking ours theirs l.end l.a l.b;
      filling : Filling (minus (union ours theirs) sections) left 0 l.k l.initial.epochs l.initial.counts l.epochs l.counts;
    }

abbrev pub decreases-loop-a : goal.decreases-loop-a
decreases-loop-a l = l.end - (l.a + l.b)
