-- `add_rows_to_basic_for_version` meets its contract, by the version and by how many rows are lost. Assumes nothing.
use Rattle.std.proofs.Common.{sym, ◌∙◌, arith}
use Rattle.rows_spec.specs.Rows.{tables, rows_in}
use Rattle.rows_spec.proofs.Outcomes.{placed_rows}
use Rattle.rows_spec.proofs.Rows.{proper_none}
use Rattle.rows_spec.proofs.Columns.{part_rows, part_proper}
use Rattle.sums_spec.proofs.Joining.{joined_nothing}
use Rattle.sums_spec.proofs.Losing.{lost_first, basic_later, basic_made, basic_lost}
use Rattle.sums.proofs.sum.add_rows_to_basic_for_version.Goals as goal
use Rattle.sums.proofs.sum.add_rows_to_basic_for_version.Goals.{then-version-eq0+else-lost-gt0, else-version-eq0}

pub add_rows-requires-clause-proper : goal.add_rows-requires-clause-proper
add_rows-requires-clause-proper c = proper_none _

pub add_rows-requires-clause-proper_2 : goal.add_rows-requires-clause-proper_2
add_rows-requires-clause-proper_2 c =
    let a = c.args in
    let lost = lost_first c.requires c.told-rhs_ids c.count_zeros-lost.ensures.value in
    part_proper _ a.m (tables a.rhs_ids.now a.rhs_epochs.now a.rhs_bytes.now) lost.within c.requires

pub returns-then-lost-gt0 : goal.returns-then-lost-gt0
returns-then-lost-gt0 c =
    let a = c.args in
    let theirs = tables a.rhs_ids.now a.rhs_epochs.now a.rhs_bytes.now in
    let lost = lost_first c.requires c.told-rhs_ids c.count_zeros-lost.ensures.value in
    placed_rows _ c.add_rows.ensures
    (joined_nothing _ ∙ part_rows _ a.m theirs lost.within
    ∙ sym (basic_lost a.version a.removed_bytes lost (omega (arith, c.if-version-eq0.true)) c.if-lost-gt0.true))

pub returns : goal.returns
returns c =
    let a = c.args in
    let theirs = rows_in a.m (tables a.rhs_ids.now a.rhs_epochs.now a.rhs_bytes.now) in
    placed_rows _ c.add_rows_to_basic.ensures
    (sym (elim c.if-version-eq0.branch [
      | then-version-eq0+else-lost-gt0 w ↦
          basic_made a.version a.removed_bytes (lost_first c.requires c.told-rhs_ids w.count_zeros-lost.ensures.value) w.if-lost-gt0.false
      | else-version-eq0 w ↦ basic_later a.version a.removed_bytes theirs (omega (arith, w.if-version-eq0.false))
    ]))
