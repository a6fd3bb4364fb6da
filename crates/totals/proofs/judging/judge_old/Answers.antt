-- Refused where the total is less than the count, and else counted where it is the same and not 0. Assumes nothing.
use Rattle.std.proofs.Common.{◌≡◌, ℕ, ◌≤◌, cond, ◌&&◌, ltb, eqb, List, length, get_or, arith, add-zero}
use Rattle.std.proofs.lemmas.List.{length_push}
use Rattle.std.proofs.lemmas.Bool.Decides.{nat_tests}
use Rattle.rows_spec.specs.Rows.{Row}
use Rattle.totals_rows.proofs.Turns.{AtHand, at_hand, none_left}
use Rattle.totals_spec.specs.Table.{total_at}
use Rattle.totals_spec.proofs.UnderOwner.{under_end}
use Rattle.totals_spec.proofs.Judgements.{olds_short, olds_step, olds_end}
use Rattle.totals.proofs.Told.{row_under, Told, told}
use Rattle.totals.proofs.judging.judge_old.Goals as goal
use Rattle.totals.proofs.judging.judge_old.Goals.{In-Some, In-None}

hand : (c : In-Some)
    → AtHand c.args.old_epochs.now c.args.old_counts.now (length c.loop-epoch.yielded) c.in-Some.epoch.now c.in-Some.count.now
hand c =
    let l = c.loop-epoch in
    at_hand c.args.old_epochs.now c.args.old_counts.now l.yielded c.into_iter-epoch-iterator.result l.epoch-iterator c.next.new.self c.next.result
    (cc) (cc) l.yielded_by c.next.ensures.steps c.in-Some.epoch c.in-Some.count c.in-Some.is

-- 1 where a count that is not 0 is all of a total
abbrev goes : ℕ → ℕ → ℕ
goes count total = cond (ltb 0 count && eqb total count) 1 0

held : {o es cs : List ℕ} {rows : List Row} {i count total : ℕ} → Told o es cs rows i count total → count ≤ total
    → get_or cs i 0 ≤ total_at (row_under o es cs i) rows
held t h = omega (arith, t.count_is, t.total_is)

pub returns-then-total-count : goal.returns-then-total-count
returns-then-total-count c =
    let t = told c.requires.table (hand (goal.at.returns-then-total-count c).In-Some) c.from-count.ensures c.look_up_row-total.ensures in
    olds_short _ _ t.next c.loop-epoch.invariant.judged (omega (arith, t.count_is, t.total_is))

pub loop-epoch-preserved-then-total-count-2 : goal.loop-epoch-preserved-then-total-count-2
loop-epoch-preserved-then-total-count-2 c =
    let h = hand (goal.at.loop-epoch-preserved-then-total-count-2 c).In-Some in
    let t = told c.requires.table h c.from-count.ensures c.look_up_row-total.ensures in
    let one : 1 ≡ goes c.from-count.result c.look_up_row-total.result.total = grind (arith, nat_tests) in
    let next = olds_step _ _ t.next c.loop-epoch.invariant.judged (held t c.if-total-count.false) (rw (t.count_is, t.total_is) at one) in
    record {
      few = omega (arith, length_push c.loop-epoch.yielded (c.in-Some.epoch, c.in-Some.count));
      judged = rw length_push next;
    }

pub loop-epoch-preserved : goal.loop-epoch-preserved
loop-epoch-preserved c =
    let h = hand (goal.at.loop-epoch-preserved c).In-Some in
    let t = told c.requires.table h c.from-count.ensures c.look_up_row-total.ensures in
    let none : 0 ≡ goes c.from-count.result c.look_up_row-total.result.total = grind (arith, nat_tests, c.else-count-gt0.either) in
    let next = olds_step _ _ t.next c.loop-epoch.invariant.judged (held t c.if-total-count.false) (rw (t.count_is, t.total_is) at none) in
    record {
      few = omega (arith, length_push c.loop-epoch.yielded (c.in-Some.epoch, c.in-Some.count));
      judged = rw (length_push, ← add-zero c.loop-epoch.gone) next;
    }

pub returns : goal.returns
returns c =
    let l = c.loop-epoch in
    let even = c.requires.table.even in
    let none = none_left c.args.old_epochs.now c.args.old_counts.now l.yielded c.into_iter-epoch-iterator.result l.epoch-iterator
    c.next.new.self c.next.result (cc) (cc) l.yielded_by c.next.ensures.steps even c.in-None.is in
    olds_end (under_end _ c.requires.table _ none) l.invariant.judged
