-- The record at hand is that of the turn. Its row is found from `at` on, the rows before it are moved, and what is left of it is put behind
-- them. Each goal is then a law of `Taking`. Assumes nothing.
use Rattle.std.proofs.Common.{◌+◌, ◌-◌, ◌≤◌, length, ◌∙◌, arith}
use Rattle.std.proofs.lemmas.List.{length_push}
use Rattle.rows_spec.proofs.Rows.{room_less}
use Rattle.totals_spec.proofs.Taking.{taking_start, taking_room, taking_standing, taking_count}
use Rattle.totals_spec.proofs.Taking.{taking_done, taking_skip, taking_found, taking_gone, taking_space, taking_put}
use Rattle.totals_rows.proofs.Turns.{AtHand, at_hand, none_left}
use Rattle.totals_rows.proofs.writing.take_old_counts.Goals as goal
use Rattle.totals_rows.proofs.writing.take_old_counts.Goals.{In-Some, In-None}

-- the record at hand
hand : (c : In-Some)
    → AtHand c.args.old_epochs.now c.args.old_counts.now (length c.loop-epoch.yielded) c.in-Some.epoch.now c.in-Some.count.now
hand c =
    let l = c.loop-epoch in
    at_hand c.args.old_epochs.now c.args.old_counts.now l.yielded c.into_iter-epoch-iterator.result l.epoch-iterator c.next.new.self c.next.result
    (cc) (cc) l.yielded_by c.next.ensures.steps c.in-Some.epoch c.in-Some.count c.in-Some.is

-- behind the loop no record is left
none : (c : In-None) → length c.args.old_epochs.now ≤ length c.loop-epoch.yielded
none c =
    let l = c.loop-epoch in
    none_left c.args.old_epochs.now c.args.old_counts.now l.yielded c.into_iter-epoch-iterator.result l.epoch-iterator c.next.new.self c.next.result
    (cc) (cc) l.yielded_by c.next.ensures.steps c.requires.table.even c.in-None.is

pub loop-epoch-init : goal.loop-epoch-init
loop-epoch-init c = taking_start _ _ _ _ _ c.requires.totals_value

pub look_up_row-spot-requires : goal.look_up_row-spot-requires
look_up_row-spot-requires c = taking_standing c.requires.standing c.requires.table c.loop-epoch.invariant

pub move_rows-requires-clause-room : goal.move_rows-requires-clause-room
move_rows-requires-clause-room c =
    let h = hand (goal.at.move_rows-requires-clause-room c).In-Some in
    let q = c.requires in
    let f = taking_found q.standing q.table c.loop-epoch.invariant h.within (omega arith) (rw h.epoch_is at c.look_up_row-spot.ensures) in
    room_less c.look_up_row-spot.result.place (omega arith) (taking_room q.standing q.table c.loop-epoch.invariant)

pub move_rows-requires-clause-room_there : goal.move_rows-requires-clause-room_there
move_rows-requires-clause-room_there c =
    let h = hand (goal.at.move_rows-requires-clause-room_there c).In-Some in
    let q = c.requires in
    let v = c.loop-epoch.invariant in
    let f = taking_found q.standing q.table v h.within (omega arith) (rw h.epoch_is at c.look_up_row-spot.ensures) in
    room_less (c.loop-epoch.to + (c.look_up_row-spot.result.place - c.loop-epoch.at)) (omega arith) (taking_room q.standing q.table v)

pub overflow_add-at : goal.overflow_add-at
overflow_add-at c =
    let h = hand (goal.at.overflow_add-at c).In-Some in
    let q = c.requires in
    let f = taking_found q.standing q.table c.loop-epoch.invariant h.within (omega arith) (rw h.epoch_is at c.look_up_row-spot.ensures) in
    omega (arith, c.ranges.n)

pub put_total-requires : goal.put_total-requires
put_total-requires c =
    let h = hand (goal.at.put_total-requires c).In-Some in
    let q = c.requires in
    taking_space q.standing q.table c.loop-epoch.invariant h.within (omega arith) (rw h.epoch_is at c.look_up_row-spot.ensures) c.move_rows.ensures

pub overflow_add-to-then-count-spot : goal.overflow_add-to-then-count-spot
overflow_add-to-then-count-spot c =
    let h = hand (goal.at.overflow_add-to-then-count-spot c).In-Some in
    let q = c.requires in
    let v = c.loop-epoch.invariant in
    let f = taking_found q.standing q.table v h.within (omega arith) (rw h.epoch_is at c.look_up_row-spot.ensures) in
    omega (arith, c.ranges.n)

pub loop-epoch-preserved-then-count-spot : goal.loop-epoch-preserved-then-count-spot
loop-epoch-preserved-then-count-spot c =
    let h = hand (goal.at.loop-epoch-preserved-then-count-spot c).In-Some in
    let q = c.requires in
    let count = c.from-count.ensures ∙ h.count_is in
    rw length_push (taking_put q.standing q.table c.loop-epoch.invariant h.within (omega arith) (rw h.epoch_is at c.look_up_row-spot.ensures)
    c.move_rows.ensures (rw count at c.if-count-spot.true) (rw (h.epoch_is, count) at c.put_total.ensures))

pub loop-epoch-preserved-else-count-spot : goal.loop-epoch-preserved-else-count-spot
loop-epoch-preserved-else-count-spot c =
    let h = hand (goal.at.loop-epoch-preserved-else-count-spot c).In-Some in
    let q = c.requires in
    let count = c.from-count.ensures ∙ h.count_is in
    rw length_push (taking_gone q.standing q.table c.loop-epoch.invariant h.within (omega arith) (rw h.epoch_is at c.look_up_row-spot.ensures)
    c.move_rows.ensures (rw count at c.if-count-spot.false))

pub loop-epoch-preserved : goal.loop-epoch-preserved
loop-epoch-preserved c =
    let h = hand (goal.at.loop-epoch-preserved c).In-Some in
    rw length_push (taking_skip c.requires.standing c.requires.table c.loop-epoch.invariant h.within (omega arith))

pub returns-clause-totals_value_2 : goal.returns-clause-totals_value_2
returns-clause-totals_value_2 c =
    let left = none (goal.at.returns-clause-totals_value_2 c).In-None in
    taking_done c.requires.standing c.requires.table c.loop-epoch.invariant left c.move_rows-2.ensures

pub returns-clause-value : goal.returns-clause-value
returns-clause-value c =
    let left = none (goal.at.returns-clause-value c).In-None in
    taking_count c.requires.standing c.requires.table c.loop-epoch.invariant left
