-- `totals_index_judging::judging::judge_row` meets its contract: what its callees found of the row makes the next state.
-- Assumes nothing.
use native.Mathlib.Omega.{arith}
use Rattle.totals_index_spec.proofs.OneRow.{found_next}
use Rattle.totals_index_judging.proofs.judging.judge_row.Goals as goal

pub returns-clause-judged : goal.returns-clause-judged
returns-clause-judged c =
    found_next {j = c.args.seen} {t = c.args.row} record {
      old_found = c.count_named-old_count.ensures;
      new_found = c.count_named-new_count.ensures;
      left_found = c.saturating_sub-left.ensures;
      small = omega arith;
      behind_found = c.comes_behind.ensures;
      owed_found = c.less_if.ensures;
      left_rows = c.less_if-2.ensures;
      made_rows = c.less_if-3.ensures;
    }
