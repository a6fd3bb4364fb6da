-- What was seen so far, and what is still to come, is all. Assumes nothing.
use Rattle.std.proofs.Common.{◌≡◌, ◌&&◌, drop}
use Rattle.rows_spec.specs.Rows.{tables, rows_in}
use Rattle.totals_spec.specs.Table.{all_positive}
use Rattle.totals_rows.proofs.table.none_is_zero.Given as goal

abbrev pub invariant-loop-total : goal.invariant-loop-total
invariant-loop-total l =
    let rows = rows_in l.n (tables l.owners l.epochs l.totals) in
    all_positive rows ≡ (l.good && all_positive (drop l.total-index rows))
