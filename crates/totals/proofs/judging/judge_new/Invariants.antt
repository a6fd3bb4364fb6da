-- What was judged and what is left to judge make the whole, and no more rows are made than records were judged. Assumes nothing.
use Rattle.std.proofs.Common.{◌≤◌, length, drop}
use Rattle.rows_spec.specs.Rows.{tables, rows_in}
use Rattle.totals_spec.specs.Inner.Steps.{under}
use Rattle.totals_spec.proofs.Judgements.{NewsJudged}
use Rattle.totals.proofs.judging.judge_new.Given as goal

abbrev pub invariant-loop-epoch : goal.invariant-loop-epoch
invariant-loop-epoch l =
    let olds = under l.old_owner l.old_epochs l.old_counts in
    let news = under l.new_owner l.new_epochs l.new_counts in
    record {
      few : l.made ≤ length l.yielded;
      judged : NewsJudged olds news (drop (length l.yielded) news) (rows_in l.n (tables l.owners l.epochs l.totals)) l.made;
    }
