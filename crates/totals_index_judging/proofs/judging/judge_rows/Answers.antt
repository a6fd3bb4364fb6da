-- One row more is judged beyond what was seen of those before it. Assumes nothing.
use Rattle.std.proofs.Common.{add-one, ◌≡◌, take, get_or, ◌∙◌, arith, below_more, length-take-le}
use Rattle.std.proofs.lemmas.List.{get_or-take}
use Rattle.totals_index_spec.proofs.Columns.{no_total}
use Rattle.totals_index_spec.proofs.Folding.{seen_asked, seen_judged}
use Rattle.totals_index_judging.proofs.judging.judge_rows.Goals as goal

pub judge_row-seen-requires : goal.judge_row-seen-requires
judge_row-seen-requires c =
    let a = c.args in
    let l = c.loop-row in
    rw l.invariant.seen_so_far
    (seen_asked a.old_epochs.now a.old_counts.now a.new_epochs.now a.new_counts.now a.seen a.table.now l.row-index c.requires.1)

pub loop-row-preserved : goal.loop-row-preserved
loop-row-preserved c =
    let a = c.args in
    let l = c.loop-row in
    let long = length-take-le a.n a.table.now c.requires.0 in
    let row : get_or (take a.n a.table.now) l.row-index no_total ≡ get_or a.table.now l.row-index no_total =
    get_or-take a.n a.table.now l.row-index no_total (omega arith) in
    record {
      seen_so_far = rw add-one (rw (l.invariant.seen_so_far, row) at c.judge_row-seen.ensures.judged);
      fit_so_far = below_more _ _ l.invariant.fit_so_far (rw row at c.judge_row-seen.ensures.total_fits);
    }

pub returns-clause-judged : goal.returns-clause-judged
returns-clause-judged c =
    let a = c.args in
    let l = c.loop-row in
    let long = length-take-le a.n a.table.now c.requires.0 in
    let e : l.row-index ≡ a.n = omega arith in
    (rw e at l.invariant.seen_so_far)
    ∙ seen_judged a.old_epochs.now a.old_counts.now a.new_epochs.now a.new_counts.now a.seen a.table.now a.n c.requires.0
