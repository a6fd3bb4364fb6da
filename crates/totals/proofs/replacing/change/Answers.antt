-- Refused as it was judged. Assumes nothing.
use Rattle.std.proofs.lemmas.Result.{err_from_is_err_and}
use Rattle.rows_spec.specs.Rows.{tables}
use Rattle.totals_spec.proofs.Written.{refused_change}
use Rattle.totals.proofs.replacing.change.Goals as goal

pub returns-in_err-count : goal.returns-in_err-count
returns-in_err-count c =
    let a = c.args in
    let passed = err_from_is_err_and c.from_residual.result c.from_residual.ensures.1 in
    rw (passed.1, passed.2) (refused_change _ _ (tables a.owners.now a.epochs.now a.totals.now) c.in_err-count.ensures)
