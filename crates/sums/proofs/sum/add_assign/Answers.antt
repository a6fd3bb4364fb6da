-- `add_assign` meets its contract, by whether both operands are proper. Assumes nothing.
use Rattle.std.proofs.Common.{sym, ◌∙◌}
use Rattle.rows_spec.specs.Rows.{tables}
use Rattle.rows_spec.specs.Removals.{holding_rows}
use Rattle.sums_spec.proofs.Answering.{summed_proper, summed_left_bad, summed_right_bad}
use Rattle.sums.proofs.sum.add_assign.Goals as goal
use Rattle.sums.proofs.sum.add_assign.Goals.{else-removal_is_proper-via-then-removal_is_proper+else-removal_is_proper-2}
use Rattle.sums.proofs.sum.add_assign.Goals.{else-removal_is_proper-via-else-removal_is_proper}

pub returns-then-removal_is_proper-2 : goal.returns-then-removal_is_proper-2
returns-then-removal_is_proper-2 c =
    let a = c.args in
    let ours = holding_rows a.lhs.removed (tables a.ids.now a.epochs.now a.bytes.now) in
    let theirs = holding_rows a.rhs.removed (tables a.rhs_ids.now a.rhs_epochs.now a.rhs_bytes.now) in
    c.add_proper.ensures
    ∙ summed_proper a.version ours theirs
    (sym c.removal_is_proper.ensures ∙ c.if-removal_is_proper.true)
    (sym c.removal_is_proper-then-removal_is_proper.ensures ∙ c.if-removal_is_proper-2.true)

pub returns-else-removal_is_proper : goal.returns-else-removal_is_proper
returns-else-removal_is_proper c =
    let a = c.args in
    let ours = holding_rows a.lhs.removed (tables a.ids.now a.epochs.now a.bytes.now) in
    let theirs = holding_rows a.rhs.removed (tables a.rhs_ids.now a.rhs_epochs.now a.rhs_bytes.now) in
    elim c.else-removal_is_proper.branch [
      | else-removal_is_proper-via-then-removal_is_proper+else-removal_is_proper-2 w ↦
          summed_right_bad a.version ours theirs (sym w.removal_is_proper-then-removal_is_proper.ensures ∙ w.if-removal_is_proper-2.false)
      | else-removal_is_proper-via-else-removal_is_proper w ↦
          summed_left_bad a.version ours theirs (sym c.removal_is_proper.ensures ∙ w.if-removal_is_proper.false)
    ]
