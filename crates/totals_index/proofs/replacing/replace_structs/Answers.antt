-- What was judged tells the verdict, and the change that was judged is the one that was asked for. Assumes nothing.
use Rattle.std.proofs.Common.{ap, ◌∙◌, ℕ}
use Rattle.std.specs.Prelude.{◌&&◌}
use Rattle.records_spec.specs.Flags.{holding}
use Rattle.rows_spec.specs.Rows.{tables}
use Rattle.totals_spec.specs.Calls.{given, proper_given}
use Rattle.totals_index_spec.specs.Calls.{replacing_structs}
use Rattle.totals_index_spec.proofs.Judged.{judged_ready, same_rows, judged_verdict}
use Rattle.totals_index.proofs.replacing.replace_structs.Goals as goal

pub judge_rows-judged-requires : goal.judge_rows-judged-requires
judge_rows-judged-requires c =
    let a = c.args in
    judged_ready a.rows a.table.now a.old_present a.old_flags a.old_epochs.now a.old_counts.now
    a.new_present a.new_flags a.new_epochs.now a.new_counts.now
    c.start-first.result c.rows_to_judge.result c.start-first.ensures.result_value c.rows_to_judge.ensures

pub replace_judged-requires : goal.replace_judged-requires
replace_judged-requires c =
    let a = c.args in
    judged_verdict a.rows a.table.now a.old_present a.old_flags a.old_epochs.now a.old_counts.now
    a.new_present a.new_flags a.new_epochs.now a.new_counts.now
    c.start-first.result c.judge_rows-judged.result c.rows_to_judge.result c.start-first.ensures.result_value c.rows_to_judge.ensures
    c.judge_rows-judged.ensures.judged c.start-first.ensures.small c.judge_rows-judged.ensures.totals_fit

pub returns : goal.returns
returns c =
    let a = c.args in
    let old = holding a.old_flags a.old_epochs.now a.old_counts.now in
    let new = holding a.new_flags a.new_epochs.now a.new_counts.now in
    let work = tables a.owners.now a.epochs.now a.totals.now in
    let good = proper_given a.old_present old && proper_given a.new_present new in
    let same = same_rows a.rows a.table.now a.old_present a.old_flags a.old_epochs.now a.old_counts.now
    a.new_present a.new_flags a.new_epochs.now a.new_counts.now
    c.start-first.result c.judge_rows-judged.result c.rows_to_judge.result c.start-first.ensures.result_value c.rows_to_judge.ensures
    c.judge_rows-judged.ensures.judged in
    c.replace_judged.ensures
    ∙ ap (λ (n : ℕ). replacing_structs n a.table.now work good (given a.old_present old) (given a.new_present new)) same
