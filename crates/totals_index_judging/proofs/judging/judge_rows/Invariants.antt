-- Every total so far is one of 64 bits, and what was seen is what the rows before the place make of what was seen at first. Assumes nothing.
use Rattle.std.proofs.Common.{◌≡◌}
use Rattle.totals_index_spec.specs.Inner.Judging.{TotalsFit}
use Rattle.totals_index_spec.proofs.Folding.{seen_at}
use Rattle.totals_index_judging.proofs.judging.judge_rows.Given as goal

abbrev pub invariant-loop-row : goal.invariant-loop-row
invariant-loop-row l = record {
  seen_so_far : l.seen ≡ seen_at l.old_epochs l.old_counts l.new_epochs l.new_counts l.initial.seen l.table l.row-index;
  fit_so_far : TotalsFit l.row-index l.table;
}
