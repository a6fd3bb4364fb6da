-- `has_removal` answers by the state's cases; rows have bytes where their column has. Assumes nothing.
use Rattle.std.proofs.Common.{sym, ◌∙◌, arith}
use Rattle.std.proofs.lemmas.List.{length-take-le}
use Rattle.rows_spec.specs.Rows.{tables}
use Rattle.rows_spec.proofs.Removals.{sectioned_long, sectioned_any, has_proper}
use Rattle.rows.proofs.removed.has_removal.Goals as goal

pub slice_bounds-any_bytes-end : goal.slice_bounds-any_bytes-end
slice_bounds-any_bytes-end c =
    let a = c.args in
    let proper = sym c.removal_is_proper.ensures ∙ c.if-removal_is_proper.true in
    omega (arith, length-take-le c.in-Sectioned.n a.bytes.now (sectioned_long (tables a.ids.now a.epochs.now a.bytes.now) proper c.in-Sectioned.is))

pub returns-in-Sectioned : goal.returns-in-Sectioned
returns-in-Sectioned c =
    let a = c.args in
    let t = tables a.ids.now a.epochs.now a.bytes.now in
    let proper = sym c.removal_is_proper.ensures ∙ c.if-removal_is_proper.true in
    has_proper a.removal.removed t proper (c.any_bytes.ensures ∙ sym (sectioned_any t proper c.in-Sectioned.is))
