-- Of the records, the first j were not asked yet. What is still to be placed, in the first k places, is the split of what is left over these.
-- Assumes nothing.
use Rattle.std.proofs.Common.{◌≡◌, ℕ, ◌+◌, length}
use Rattle.rows_spec.specs.Rows.{tables}
use Rattle.splitting_spec.proofs.Placing.{Placing}
use Rattle.splitting.proofs.value.sectioned_storage_removal.Given as goal

abbrev pub invariant-loop-epoch : goal.invariant-loop-epoch
invariant-loop-epoch l = record {
  j : ℕ;
  turns : length l.yielded + j ≡ length l.counts;
  placing : Placing l.id l.base l.epochs l.counts l.removed_bytes l.left j l.k (tables l.fn.ids l.fn.row_epochs l.fn.row_bytes)
      (tables l.ids l.row_epochs l.row_bytes);
}
