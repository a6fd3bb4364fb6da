-- No more rows go than there are, and no more are made than there are new counts; the rows that stay and those made are those afterwards.
-- Assumes nothing.
use Rattle.std.proofs.Common.{arith}
use Rattle.rows_spec.specs.Rows.{tables, rows_in}
use Rattle.rows_spec.proofs.Rows.{length_rows}
use Rattle.totals_spec.specs.Inner.Steps.{under}
use Rattle.totals_spec.proofs.UnderOwner.{under_ascends, under_long}
use Rattle.totals_spec.proofs.Verdicts.{verdict_rows, gone_most, made_within}
use Rattle.totals.proofs.replacing.judge_change.Goals as goal

pub overflow_sub-result : goal.overflow_sub-result
overflow_sub-result c =
    let a = c.args in
    let rows = rows_in a.n (tables a.owners.now a.epochs.now a.totals.now) in
    let olds = under a.old_owner a.old_epochs.now a.old_counts.now in
    let news = under a.new_owner a.new_epochs.now a.new_counts.now in
    let s = c.requires.standing in
    rw (length_rows s.room) at (gone_most olds news rows c.in_ok-gone.ensures s.rises s.full (under_ascends a.old_owner c.requires.table)
    (under_ascends a.new_owner c.requires.table_2))

pub overflow_add-result : goal.overflow_add-result
overflow_add-result c =
    let a = c.args in
    let rows = rows_in a.n (tables a.owners.now a.epochs.now a.totals.now) in
    let olds = under a.old_owner a.old_epochs.now a.old_counts.now in
    let news = under a.new_owner a.new_epochs.now a.new_counts.now in
    let few = made_within olds news rows c.in_ok-made.ensures in
    let long = under_long a.new_owner c.requires.table_2 in
    omega (arith, c.requires.standing.room.ids_long, c.well_formed)

pub returns : goal.returns
returns c =
    let a = c.args in
    let rows = rows_in a.n (tables a.owners.now a.epochs.now a.totals.now) in
    let olds = under a.old_owner a.old_epochs.now a.old_counts.now in
    let news = under a.new_owner a.new_epochs.now a.new_counts.now in
    let s = c.requires.standing in
    rw (length_rows s.room) at (verdict_rows olds news rows c.in_ok-gone.ensures s.rises s.full (under_ascends a.old_owner c.requires.table)
    (under_ascends a.new_owner c.requires.table_2) c.in_ok-made.ensures)
