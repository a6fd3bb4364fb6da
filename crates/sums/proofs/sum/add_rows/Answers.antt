-- `add_rows` meets its contract: the join is counted, and joined where it has room. Assumes nothing.
use Rattle.std.proofs.Common.{sym, ap, ◌∙◌}
use Rattle.records_spec.specs.Outcomes.{Answer, after}
use Rattle.rows_spec.specs.Rows.{tables, rows_in}
use Rattle.rows_spec.specs.declared.removed.Removed.{Removed}
use Rattle.rows_spec.proofs.Outcomes.{placing_fits, placing_short}
use Rattle.sums_spec.specs.Joins.{joined}
use Rattle.sums.proofs.sum.add_rows.Goals as goal

pub returns-then-not-rows_fit : goal.returns-then-not-rows_fit
returns-then-not-rows_fit c =
    let a = c.args in
    let ours = tables a.ids.now a.epochs.now a.bytes.now in
    let rows = joined (rows_in a.n ours) (rows_in a.m (tables a.rhs_ids.now a.rhs_epochs.now a.rhs_bytes.now)) in
    placing_short rows _ ours c.count_joined-count.ensures (sym c.rows_fit.ensures ∙ c.if-not-rows_fit.true)

pub returns : goal.returns
returns c =
    let a = c.args in
    let ours = tables a.ids.now a.epochs.now a.bytes.now in
    let rows = joined (rows_in a.n ours) (rows_in a.m (tables a.rhs_ids.now a.rhs_epochs.now a.rhs_bytes.now)) in
    let left = c.join_in_place.new in
    ap (λ (x : Answer Removed). after x (tables left.ids left.epochs left.bytes)) c.done.ensures
    ∙ placing_fits rows _ ours c.count_joined-count.ensures _ (sym c.rows_fit.ensures ∙ c.if-not-rows_fit.false) c.join_in_place.ensures
