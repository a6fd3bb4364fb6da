-- Each column is filled from its front, a place in a turn. Assumes nothing.
use Rattle.std.proofs.Common.{◌≡◌}
use Rattle.totals_index_spec.specs.Structs.{owners_of, total_epochs_of, totals_of}
use Rattle.totals_index_spec.proofs.Filling.{filled}
use Rattle.totals_index_work.proofs.structs.take_apart.Given as goal

abbrev pub invariant-loop-i : goal.invariant-loop-i
invariant-loop-i l = record {
  owners_filled : l.owners ≡ filled l.i (owners_of l.table) l.initial.owners;
  epochs_filled : l.epochs ≡ filled l.i (total_epochs_of l.table) l.initial.epochs;
  totals_filled : l.totals ≡ filled l.i (totals_of l.table) l.initial.totals;
}
