-- The place stays between the bounds, whichever way a look goes. Assumes nothing.
use Rattle.std.proofs.Common.{◌+◌, ◌≤◌}
use Rattle.records_spec.proofs.Halving.{Between}
use Rattle.rows_spec.specs.Rows.{row, tables}
use Rattle.totals_spec.specs.Inner.Steps.{place_in, rows_between}
use Rattle.totals_rows.proofs.finding.find_row.Given as goal

abbrev pub invariant-loop-left : goal.invariant-loop-left
invariant-loop-left l =
    let place = place_in (row l.owner l.epoch 0) (rows_between l.from l.upto (tables l.owners l.epochs l.totals)) in
    record {
      between : Between (l.from + place) l.upto l.at l.left;
      behind : l.from ≤ l.at;
    }

abbrev pub decreases-loop-left : goal.decreases-loop-left
decreases-loop-left l = l.left
