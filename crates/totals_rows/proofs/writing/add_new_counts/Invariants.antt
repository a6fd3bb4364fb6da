-- The counts that the iterator has left are still to be added. From the place `end` on the tables are as they end, and before `upto` as they began.
-- Assumes nothing.
use Rattle.std.proofs.Common.{length}
use Rattle.rows_spec.specs.Rows.{tables}
use Rattle.totals_spec.proofs.AddingRows.{Adding}
use Rattle.totals_rows.proofs.Turns.{LeftOf}
use Rattle.totals_rows.proofs.writing.add_new_counts.Given as goal

abbrev pub invariant-loop-epoch : goal.invariant-loop-epoch
invariant-loop-epoch l =
    let left = length l.epoch-iterator.iter.a.rest.now in
    record {
      to_come : LeftOf l.new_epochs l.new_counts l.epoch-iterator.iter.a.rest.now l.epoch-iterator.iter.b.rest.now;
      adding : Adding l.owner l.new_epochs l.new_counts (tables l.initial.owners l.initial.epochs l.initial.totals)
          (tables l.owners l.epochs l.totals) l.n l.upto l.end left;
    }
