-- Refused where what the old count leaves and the new one pass 64 bits, and else counted where a count that is not 0 meets nothing. Assumes nothing.
use Rattle.std.proofs.Common.{◌≡◌, ℕ, ◌+◌, ◌-◌, ◌≤◌, ◌<◌, cond, ◌&&◌, ltb, eqb, length, arith, add-zero}
use Rattle.std.proofs.lemmas.List.{length_push}
use Rattle.std.proofs.lemmas.Bool.Decides.{nat_tests}
use Rattle.rows_spec.specs.Rows.{tables, rows_in}
use Rattle.totals_rows.proofs.Turns.{AtHand, at_hand, none_left}
use Rattle.totals_spec.specs.Replacing.{largest_total}
use Rattle.totals_spec.specs.Inner.Steps.{under}
use Rattle.totals_spec.proofs.Counts.{covered_total}
use Rattle.totals_spec.proofs.UnderOwner.{under_end, under_ascends}
use Rattle.totals_spec.proofs.Judgements.{news_over, news_step, news_end}
use Rattle.totals.proofs.Told.{row_under, told, same_row}
use Rattle.totals.proofs.judging.judge_new.Goals as goal
use Rattle.totals.proofs.judging.judge_new.Goals.{In-Some}

hand : (c : In-Some)
    → AtHand c.args.new_epochs.now c.args.new_counts.now (length c.loop-epoch.yielded) c.in-Some.epoch.now c.in-Some.count.now
hand c =
    let l = c.loop-epoch in
    at_hand c.args.new_epochs.now c.args.new_counts.now l.yielded c.into_iter-epoch-iterator.result l.epoch-iterator c.next.new.self c.next.result
    (cc) (cc) l.yielded_by c.next.ensures.steps c.in-Some.epoch c.in-Some.count c.in-Some.is

-- 1 where a count that is not 0 meets nothing
abbrev makes : ℕ → ℕ → ℕ
makes count left = cond (ltb 0 count && eqb left 0) 1 0

pub overflow_sub-left : goal.overflow_sub-left
overflow_sub-left c =
    let a = c.args in
    let q = c.requires in
    let rows = rows_in a.n (tables a.owners.now a.epochs.now a.totals.now) in
    let olds = under a.old_owner a.old_epochs.now a.old_counts.now in
    let h = hand (goal.at.overflow_sub-left c).In-Some in
    let t = told q.table_2 h c.from-count.ensures c.look_up_row-total.ensures in
    let new = row_under a.new_owner a.new_epochs.now a.new_counts.now (length c.loop-epoch.yielded) in
    let covers = covered_total rows olds (under_ascends a.old_owner q.table) q.totals_value new in
    omega (arith, t.total_is, same_row a.new_owner olds h c.count_at.ensures)

pub returns-then-is_none : goal.returns-then-is_none
returns-then-is_none c =
    let a = c.args in
    let total = c.look_up_row-total.result.total in
    let over : largest_total < total - c.count_at.result + c.from-count.result = grind (arith, c.checked_add.ensures, c.if-is_none.ensures) in
    let h = hand (goal.at.returns-then-is_none c).In-Some in
    let t = told c.requires.table_2 h c.from-count.ensures c.look_up_row-total.ensures in
    let k = same_row a.new_owner (under a.old_owner a.old_epochs.now a.old_counts.now) h c.count_at.ensures in
    news_over _ _ t.next c.loop-epoch.invariant.judged (rw (t.total_is, k, t.count_is) at over)

pub loop-epoch-preserved-then-left-eq0 : goal.loop-epoch-preserved-then-left-eq0
loop-epoch-preserved-then-left-eq0 c =
    let a = c.args in
    let left = c.look_up_row-total.result.total - c.count_at.result in
    let fits : left + c.from-count.result ≤ largest_total = grind (arith, c.checked_add.ensures, c.if-is_none.ensures) in
    let one : 1 ≡ makes c.from-count.result left = grind (arith, nat_tests) in
    let h = hand (goal.at.loop-epoch-preserved-then-left-eq0 c).In-Some in
    let t = told c.requires.table_2 h c.from-count.ensures c.look_up_row-total.ensures in
    let k = same_row a.new_owner (under a.old_owner a.old_epochs.now a.old_counts.now) h c.count_at.ensures in
    let next = news_step _ _ t.next c.loop-epoch.invariant.judged (rw (t.total_is, k, t.count_is) at fits) (rw (t.total_is, k, t.count_is) at one) in
    record {
      few = omega (arith, length_push c.loop-epoch.yielded (c.in-Some.epoch, c.in-Some.count));
      judged = rw length_push next;
    }

pub loop-epoch-preserved : goal.loop-epoch-preserved
loop-epoch-preserved c =
    let a = c.args in
    let left = c.look_up_row-total.result.total - c.count_at.result in
    let fits : left + c.from-count.result ≤ largest_total = grind (arith, c.checked_add.ensures, c.if-is_none.ensures) in
    let none : 0 ≡ makes c.from-count.result left = grind (arith, nat_tests, c.else-count-gt0.either) in
    let h = hand (goal.at.loop-epoch-preserved c).In-Some in
    let t = told c.requires.table_2 h c.from-count.ensures c.look_up_row-total.ensures in
    let k = same_row a.new_owner (under a.old_owner a.old_epochs.now a.old_counts.now) h c.count_at.ensures in
    let next = news_step _ _ t.next c.loop-epoch.invariant.judged (rw (t.total_is, k, t.count_is) at fits) (rw (t.total_is, k, t.count_is) at none) in
    record {
      few = omega (arith, length_push c.loop-epoch.yielded (c.in-Some.epoch, c.in-Some.count));
      judged = rw (length_push, ← add-zero c.loop-epoch.made) next;
    }

pub returns : goal.returns
returns c =
    let l = c.loop-epoch in
    let even = c.requires.table_2.even in
    let none = none_left c.args.new_epochs.now c.args.new_counts.now l.yielded c.into_iter-epoch-iterator.result l.epoch-iterator
    c.next.new.self c.next.result (cc) (cc) l.yielded_by c.next.ensures.steps even c.in-None.is in
    news_end (under_end _ c.requires.table_2 _ none) l.invariant.judged
