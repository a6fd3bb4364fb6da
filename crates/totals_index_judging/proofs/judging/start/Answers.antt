-- Where all is proper it starts with what the flags name; else with none, whichever test says so. Assumes nothing.
use Rattle.std.proofs.Common.{sym, ◌∙◌}
use mathlib.Core.Logic.{inl, inr}
use Rattle.totals_spec.proofs.GivenFlags.{given_even}
use Rattle.totals_index_spec.proofs.Starting.{started_good, started_bad}
use Rattle.totals_index_judging.proofs.judging.start.Goals as goal
use Rattle.totals_index_judging.proofs.judging.start.Goals.{else-n-size-via-then-n-size+then-is_good+else-is_good-2}
use Rattle.totals_index_judging.proofs.judging.start.Goals.{else-n-size-via-then-n-size+else-is_good, else-n-size-via-else-n-size}

pub slice_bounds-count_positives-end : goal.slice_bounds-count_positives-end
slice_bounds-count_positives-end c =
    let a = c.args in
    (given_even a.old_flags a.old_epochs.now a.old_counts.now a.old_present _ c.names_of-taken.ensures (sym c.if-is_good.ensures)).1

pub slice_bounds-count_positives-end-then-is_good-2 : goal.slice_bounds-count_positives-end-then-is_good-2
slice_bounds-count_positives-end-then-is_good-2 c =
    let a = c.args in
    (given_even a.new_flags a.new_epochs.now a.new_counts.now a.new_present _ c.names_of-added.ensures (sym c.if-is_good-2.ensures)).1

pub returns-then-is_good-2-clause-result_value : goal.returns-then-is_good-2-clause-result_value
returns-then-is_good-2-clause-result_value c =
    let a = c.args in
    c.begin.ensures
    ∙ started_good a.n a.size a.old_present a.old_flags a.old_epochs.now a.old_counts.now
    a.new_present a.new_flags a.new_epochs.now a.new_counts.now
    c.if-n-size.true (sym c.if-is_good.ensures) (sym c.if-is_good-2.ensures) c.names_of-taken.ensures c.names_of-added.ensures
    c.count_positives-owed.ensures c.count_positives-made.ensures

pub returns-else-n-size-clause-result_value : goal.returns-else-n-size-clause-result_value
returns-else-n-size-clause-result_value c =
    let a = c.args in
    c.begin_with_none.ensures
    ∙ started_bad a.n a.size a.old_present a.old_flags a.old_epochs.now a.old_counts.now
    a.new_present a.new_flags a.new_epochs.now a.new_counts.now
    (elim c.else-n-size.branch [
      | else-n-size-via-then-n-size+then-is_good+else-is_good-2 w ↦ inr (inr (sym w.if-is_good-2.ensures))
      | else-n-size-via-then-n-size+else-is_good w ↦ inr (inl (sym w.if-is_good.ensures))
      | else-n-size-via-else-n-size w ↦ inl w.if-n-size.false
    ])
