-- Where all three are proper, what the flags name stands in their tables, and `change` does the rest; else it is 11. Assumes nothing.
use Rattle.std.proofs.Common.{◌∙◌, sym}
use Rattle.rows_spec.specs.Rows.{tables}
use Rattle.totals_spec.specs.Calls.{given}
use Rattle.records_spec.specs.Flags.{holding}
use Rattle.totals_spec.proofs.GivenFlags.{given_names, given_table, given_even, table_standing, replacing_proper, table_bad, old_bad, new_bad}
use Rattle.totals.proofs.replacing.replace.Goals as goal
use Rattle.totals.proofs.replacing.replace.Goals.{else-table_is_proper-via-then-table_is_proper+then-is_good+else-is_good-2}
use Rattle.totals.proofs.replacing.replace.Goals.{else-table_is_proper-via-then-table_is_proper+else-is_good}
use Rattle.totals.proofs.replacing.replace.Goals.{else-table_is_proper-via-else-table_is_proper}

pub slice_bounds-change-end : goal.slice_bounds-change-end
slice_bounds-change-end c =
    let a = c.args in
    (given_even a.old_flags a.old_epochs.now a.old_counts.now a.old_present _ c.names_of-taken.ensures (sym c.if-is_good.ensures)).0

pub slice_bounds-change-end-then-is_good-2 : goal.slice_bounds-change-end-then-is_good-2
slice_bounds-change-end-then-is_good-2 c =
    let a = c.args in
    (given_even a.old_flags a.old_epochs.now a.old_counts.now a.old_present _ c.names_of-taken.ensures (sym c.if-is_good.ensures)).1

pub slice_bounds-change-end-then-is_good-2-2 : goal.slice_bounds-change-end-then-is_good-2-2
slice_bounds-change-end-then-is_good-2-2 c =
    let a = c.args in
    (given_even a.new_flags a.new_epochs.now a.new_counts.now a.new_present _ c.names_of-added.ensures (sym c.if-is_good-2.ensures)).0

pub slice_bounds-change-end-then-is_good-2-3 : goal.slice_bounds-change-end-then-is_good-2-3
slice_bounds-change-end-then-is_good-2-3 c =
    let a = c.args in
    (given_even a.new_flags a.new_epochs.now a.new_counts.now a.new_present _ c.names_of-added.ensures (sym c.if-is_good-2.ensures)).1

pub change-requires : goal.change-requires
change-requires c =
    let a = c.args in record {
      standing = table_standing a.rows (tables a.owners.now a.epochs.now a.totals.now) (sym c.if-table_is_proper.ensures);
      table = given_table a.old_flags a.old_epochs.now a.old_counts.now a.old_present _ c.names_of-taken.ensures (sym c.if-is_good.ensures);
      table_2 = given_table a.new_flags a.new_epochs.now a.new_counts.now a.new_present _ c.names_of-added.ensures (sym c.if-is_good-2.ensures);
    }

pub returns-then-is_good-2 : goal.returns-then-is_good-2
returns-then-is_good-2 c =
    let a = c.args in
    let t = tables a.owners.now a.epochs.now a.totals.now in
    let old = given_names a.old_flags a.old_epochs.now a.old_counts.now a.old_present _ c.names_of-taken.ensures in
    let new = given_names a.new_flags a.new_epochs.now a.new_counts.now a.new_present _ c.names_of-added.ensures in
    let proper = replacing_proper a.rows t _ _ (sym c.if-table_is_proper.ensures) _ _ (sym c.if-is_good.ensures) (sym c.if-is_good-2.ensures) in
    c.change.ensures ∙ rw (← old, ← new) proper

pub returns-else-table_is_proper : goal.returns-else-table_is_proper
returns-else-table_is_proper c =
    let a = c.args in
    let t = tables a.owners.now a.epochs.now a.totals.now in
    let old = holding a.old_flags a.old_epochs.now a.old_counts.now in
    let new = holding a.new_flags a.new_epochs.now a.new_counts.now in
    elim c.else-table_is_proper.branch [
      | else-table_is_proper-via-then-table_is_proper+then-is_good+else-is_good-2 w ↦
          new_bad a.rows t (given a.old_present old) (given a.new_present new) _ _ (sym w.if-is_good-2.ensures)
      | else-table_is_proper-via-then-table_is_proper+else-is_good w ↦
          old_bad a.rows t (given a.old_present old) (given a.new_present new) _ _ (sym w.if-is_good.ensures)
      | else-table_is_proper-via-else-table_is_proper w ↦
          table_bad a.rows t (given a.old_present old) (given a.new_present new) _ (sym w.if-table_is_proper.ensures)
    ]
