-- What was judged and what is left to judge make the whole, and no more rows go than records were judged. Assumes nothing.
use Rattle.std.proofs.Common.{◌≤◌, length, drop}
use Rattle.rows_spec.specs.Rows.{tables, rows_in}
use Rattle.totals_spec.specs.Inner.Steps.{under}
use Rattle.totals_spec.proofs.Judgements.{OldsJudged}
use Rattle.totals.proofs.judging.judge_old.Given as goal

abbrev pub invariant-loop-epoch : goal.invariant-loop-epoch
invariant-loop-epoch l =
    let olds = under l.owner l.old_epochs l.old_counts in
    record {
      few : l.gone ≤ length l.yielded;
      judged : OldsJudged olds (drop (length l.yielded) olds) (rows_in l.n (tables l.owners l.epochs l.totals)) l.gone;
    }
