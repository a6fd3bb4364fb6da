-- `total_removed_bytes` answers by the state's cases; rows come to the sum of their column. Assumes nothing.
use Rattle.std.proofs.Common.{sym, ap, ◌∙◌, arith}
use Rattle.std.proofs.lemmas.List.{length-take-le}
use Rattle.records_spec.specs.Outcomes.{answered}
use Rattle.rows_spec.specs.Rows.{tables}
use Rattle.rows_spec.proofs.Removals.{sectioned_long, sectioned_total, total_summed}
use Rattle.rows.proofs.removed.total_removed_bytes.Goals as goal

pub slice_bounds-checked_sum-end : goal.slice_bounds-checked_sum-end
slice_bounds-checked_sum-end c =
    let a = c.args in
    let proper = sym c.removal_is_proper.ensures ∙ c.if-not-removal_is_proper.false in
    omega (arith, length-take-le c.in-Sectioned.n a.bytes.now (sectioned_long (tables a.ids.now a.epochs.now a.bytes.now) proper c.in-Sectioned.is))

pub returns-in-Sectioned : goal.returns-in-Sectioned
returns-in-Sectioned c =
    let a = c.args in
    let t = tables a.ids.now a.epochs.now a.bytes.now in
    let proper = sym c.removal_is_proper.ensures ∙ c.if-not-removal_is_proper.false in
    let summed = sectioned_total t proper c.in-Sectioned.is in
    ap answered c.ok_or.ensures.value ∙ total_summed a.removal.removed t proper c.checked_sum.result summed c.checked_sum.ensures
