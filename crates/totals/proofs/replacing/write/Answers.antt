-- The old counts are taken, and what is left stands and has room for the new ones. Assumes nothing.
use Rattle.std.proofs.Common.{sym}
use Rattle.rows_spec.specs.Rows.{tables, rows_in}
use Rattle.totals_spec.specs.Inner.Steps.{under}
use Rattle.totals_spec.proofs.UnderOwner.{under_ascends}
use Rattle.totals_spec.proofs.Written.{counted, left_standing, left_fits, left_count, left_room, all_written, not_written}
use Rattle.totals.proofs.replacing.write.Goals as goal

pub returns-then-not-totals_fit : goal.returns-then-not-totals_fit
returns-then-not-totals_fit c =
    let a = c.args in
    let t = tables a.owners.now a.epochs.now a.totals.now in
    let olds = under a.old_owner a.old_epochs.now a.old_counts.now in
    let news = under a.new_owner a.new_epochs.now a.new_counts.now in
    not_written olds news a.n t (counted olds news (rows_in a.n t) a.count c.requires.count_value) (sym c.if-not-totals_fit.ensures)

pub add_new_counts-requires : goal.add_new_counts-requires
add_new_counts-requires c =
    let a = c.args in
    let q = c.requires in
    let t = tables a.owners.now a.epochs.now a.totals.now in
    let olds = under a.old_owner a.old_epochs.now a.old_counts.now in
    let news = under a.new_owner a.new_epochs.now a.new_counts.now in
    let judged = counted olds news (rows_in a.n t) a.count q.count_value in
    let old_rise = under_ascends a.old_owner q.table in
    let new_rise = under_ascends a.new_owner q.table_2 in
    let fit = sym c.if-not-totals_fit.ensures in
    let left = c.take_old_counts-left.ensures in
    record {
      standing = left_standing olds news q.standing old_rise new_rise judged fit left.totals_value_2 left.value;
      table = q.table_2;
      totals_value = left_fits olds news q.standing old_rise new_rise judged fit left.totals_value_2 left.value;
      count_value = left_count olds news q.standing old_rise new_rise judged fit left.totals_value_2 left.value;
      room = left_room olds news q.standing old_rise new_rise judged fit left.totals_value_2 left.value;
    }

pub returns : goal.returns
returns c =
    let a = c.args in
    let q = c.requires in
    let t = tables a.owners.now a.epochs.now a.totals.now in
    let olds = under a.old_owner a.old_epochs.now a.old_counts.now in
    let news = under a.new_owner a.new_epochs.now a.new_counts.now in
    let judged = counted olds news (rows_in a.n t) a.count q.count_value in
    let left = c.take_old_counts-left.ensures in
    all_written olds news q.standing (under_ascends a.old_owner q.table) (under_ascends a.new_owner q.table_2) judged
    (sym c.if-not-totals_fit.ensures) left.totals_value_2 left.value c.add_new_counts.ensures
