-- The number that stayed, with what remains of what is left, is that of all. Assumes nothing.
use Rattle.std.proofs.Common.{◌≡◌, ◌+◌, ◌-◌, ◌≤◌, length, drop}
use Rattle.records_spec.specs.Tables.{records_of, union}
use Rattle.records_spec.proofs.Unions.{Walking}
use Rattle.removal_spec.specs.Removing.{minus}
use Rattle.removal.proofs.remaining.remaining_len.Given as goal

abbrev pub invariant-loop-a : goal.invariant-loop-a
invariant-loop-a l =
    let ours = records_of l.our_epochs l.our_counts in
    let theirs = records_of l.their_epochs l.their_counts in
    let sections = records_of l.removed_epochs l.removed_bytes in
    record {
      walking : Walking ours theirs l.end l.a l.b;
      few : l.n ≤ l.a + l.b;
      counted : l.n + length (minus (union (drop l.a ours) (drop l.b theirs)) sections) ≡ length (minus (union ours theirs) sections);
    }

abbrev pub decreases-loop-a : goal.decreases-loop-a
decreases-loop-a l = l.end - (l.a + l.b)
