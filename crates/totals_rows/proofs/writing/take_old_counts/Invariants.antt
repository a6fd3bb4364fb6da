-- The rows before one place are as they end, those from another on as they began. Assumes nothing.
use Rattle.std.proofs.Common.{length}
use Rattle.rows_spec.specs.Rows.{tables}
use Rattle.totals_spec.proofs.Taking.{Taking}
use Rattle.totals_rows.proofs.writing.take_old_counts.Given as goal

abbrev pub invariant-loop-epoch : goal.invariant-loop-epoch
invariant-loop-epoch l =
    Taking l.n (tables l.initial.owners l.initial.epochs l.initial.totals) l.owner l.old_epochs l.old_counts
    (tables l.owners l.epochs l.totals) l.at l.to (length l.yielded)
