-- Of the records, the first j were not visited yet. Those visited, and those of the first j that what is left asks, are all that have a section.
-- Assumes nothing.
use Rattle.std.proofs.Common.{◌≡◌, ℕ, ◌+◌, length}
use Rattle.splitting_spec.proofs.Visiting.{Visiting}
use Rattle.splitting.proofs.giving.visit.Given as goal

abbrev pub invariant-loop-count : goal.invariant-loop-count
invariant-loop-count l = record {
  j : ℕ;
  turns : length l.yielded + j ≡ length l.counts;
  visiting : Visiting l.epochs l.counts l.amount l.records l.left j;
}
