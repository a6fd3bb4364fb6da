-- `repair::repairing::keep` meets its contract. The loop's invariant: the bytes left are left to write, at the place reached.
-- Assumes nothing.
use Rattle.std.proofs.Common.{drop}
use Rattle.fields_spec.proofs.Parts.{Parts}
use Rattle.repair.proofs.repairing.keep.Given as goal

abbrev pub invariant-loop-k : goal.invariant-loop-k
invariant-loop-k l = Parts l.src 0 l.initial.out (drop l.k l.src) l.k l.out
