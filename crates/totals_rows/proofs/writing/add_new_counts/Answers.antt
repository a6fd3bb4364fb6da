-- The record at hand is the last of those to come. Its row, or the place where it would stand, is found among the rows that are left; those
-- behind it are moved up, and its row is put before them. Each goal is then a law of `Adding`. Assumes nothing.
use Rattle.std.proofs.Common.{◌≡◌, ◌≤◌, length, ◌∙◌, arith}
use mathlib.Core.Logic.{⊎_elim}
use native.Mathlib.Decide.{dec_lt}
use Rattle.rows_spec.proofs.Rows.{room_less}
use Rattle.totals_spec.proofs.AddingRows.{adding_start, adding_stands, adding_done, adding_pass}
use Rattle.totals_spec.proofs.AddingRows.{place_left, adding_fits, adding_move, adding_room, adding_step}
use Rattle.totals_rows.proofs.Turns.{all_left, LastOf, last_of}
use Rattle.totals_rows.proofs.writing.add_new_counts.Goals as goal
use Rattle.totals_rows.proofs.writing.add_new_counts.Goals.{In-Some, In-None}

at_hand : (c : In-Some) → let rest = c.next.new.self.iter in
    LastOf c.args.new_epochs.now c.args.new_counts.now c.loop-epoch.epoch-iterator.iter.a.rest.now rest.a.rest.now rest.b.rest.now c.in-Some.epoch.now
    c.in-Some.count.now
at_hand c =
    let l = c.loop-epoch.epoch-iterator.iter in
    let to_come = c.loop-epoch.invariant.to_come in
    let step = c.in-Some.ensures.steps in
    last_of _ _ l.a.rest.now l.b.rest.now _ _ _ _ to_come (step.0.3 (omega (arith, to_come.even))) (step.1.3 (omega (arith, to_come.even)))

none_left : (c : In-None) → length c.loop-epoch.epoch-iterator.iter.a.rest.now ≤ 0
none_left c =
    let even = c.loop-epoch.invariant.to_come.even in
    elim (dec_lt 0 (length c.loop-epoch.epoch-iterator.iter.a.rest.now)) [
      | yes p ↦
          absurd (⊎_elim (λ s. omega (arith, even, (s.3 (omega (arith, even))).0)) (λ s. omega (arith, even, (s.3 (omega (arith, even))).0))
          (c.in-None.ensures.steps.1 (omega (arith, even))))
      | no p ↦ omega arith
    ]

pub loop-epoch-init : goal.loop-epoch-init
loop-epoch-init c =
    let q = c.requires in
    let a = c.args in
    let it = c.into_iter-epoch-iterator.result.iter in
    let epochs : it.a.rest.now ≡ a.new_epochs.now = cc in
    let counts : it.b.rest.now ≡ a.new_counts.now = cc in
    rw (epochs, counts) record {
      to_come = all_left a.new_epochs.now a.new_counts.now q.table.even;
      adding = adding_start q.table _ _ _ _ q.count_value q.room;
    }

pub look_up_row-spot-requires : goal.look_up_row-spot-requires
look_up_row-spot-requires c = adding_stands c.requires.table _ c.requires.standing c.loop-epoch.invariant.adding

pub behind_row-behind-requires : goal.behind_row-behind-requires
behind_row-behind-requires c =
    let q = c.requires in
    let v = c.loop-epoch.invariant.adding in
    let h = at_hand (goal.at.behind_row-behind-requires c).In-Some in
    omega (arith, place_left q.table _ q.standing v h.some (rw h.epoch_is at c.look_up_row-spot.ensures), v.rows_left_lem, q.standing.room.ids_long)

pub overflow_sub-to : goal.overflow_sub-to
overflow_sub-to c =
    let q = c.requires in
    let h = at_hand (goal.at.overflow_sub-to c).In-Some in
    let spot = rw h.epoch_is at c.look_up_row-spot.ensures in
    (adding_move q.table _ q.standing c.loop-epoch.invariant.adding h.some spot c.behind_row-behind.ensures).0

pub overflow_sub-to-then-count-gt0 : goal.overflow_sub-to-then-count-gt0
overflow_sub-to-then-count-gt0 c =
    let q = c.requires in
    let h = at_hand (goal.at.overflow_sub-to-then-count-gt0 c).In-Some in
    let spot = rw h.epoch_is at c.look_up_row-spot.ensures in
    let m = adding_move q.table _ q.standing c.loop-epoch.invariant.adding h.some spot c.behind_row-behind.ensures in
    omega arith

pub move_rows-requires : goal.move_rows-requires
move_rows-requires c =
    let q = c.requires in
    let h = at_hand (goal.at.move_rows-requires c).In-Some in
    let spot = rw h.epoch_is at c.look_up_row-spot.ensures in
    let m = adding_move q.table _ q.standing c.loop-epoch.invariant.adding h.some spot c.behind_row-behind.ensures in
    record {
      from_le_upto = m.0;
      room = room_less c.loop-epoch.upto m.1 m.2;
      room_there = room_less _ (omega arith) m.2;
    }

pub overflow_sub-end : goal.overflow_sub-end
overflow_sub-end c =
    let q = c.requires in
    let h = at_hand (goal.at.overflow_sub-end c).In-Some in
    let spot = rw h.epoch_is at c.look_up_row-spot.ensures in
    (adding_room q.table _ q.standing c.loop-epoch.invariant.adding h.some spot c.behind_row-behind.ensures (rw h.count_is at c.if-count-gt0.true)
    c.move_rows.ensures).1

pub overflow_add-total : goal.overflow_add-total
overflow_add-total c =
    let q = c.requires in
    let h = at_hand (goal.at.overflow_add-total c).In-Some in
    let spot = rw h.epoch_is at c.look_up_row-spot.ensures in
    omega (arith, adding_fits q.table _ q.standing c.loop-epoch.invariant.adding h.some spot q.totals_value, h.count_is)

pub put_total-requires : goal.put_total-requires
put_total-requires c =
    let q = c.requires in
    let h = at_hand (goal.at.put_total-requires c).In-Some in
    let spot = rw h.epoch_is at c.look_up_row-spot.ensures in
    (adding_room q.table _ q.standing c.loop-epoch.invariant.adding h.some spot c.behind_row-behind.ensures (rw h.count_is at c.if-count-gt0.true)
    c.move_rows.ensures).2

pub loop-epoch-preserved-then-count-gt0 : goal.loop-epoch-preserved-then-count-gt0
loop-epoch-preserved-then-count-gt0 c =
    let q = c.requires in
    let h = at_hand (goal.at.loop-epoch-preserved-then-count-gt0 c).In-Some in
    let spot = rw h.epoch_is at c.look_up_row-spot.ensures in
    let count = c.from.ensures ∙ h.count_is in
    record {
      to_come = h.to_come;
      adding = rw h.one_less (adding_step q.table _ q.standing c.loop-epoch.invariant.adding h.some spot c.behind_row-behind.ensures
          (rw h.count_is at c.if-count-gt0.true) c.move_rows.ensures (rw (h.epoch_is, count) at c.put_total.ensures));
    }

pub loop-epoch-preserved : goal.loop-epoch-preserved
loop-epoch-preserved c =
    let q = c.requires in
    let h = at_hand (goal.at.loop-epoch-preserved c).In-Some in
    record {
      to_come = h.to_come;
      adding = rw h.one_less (adding_pass q.table _ q.standing c.loop-epoch.invariant.adding h.some (rw h.count_is at c.if-count-gt0.false));
    }

pub returns : goal.returns
returns c =
    let q = c.requires in
    adding_done q.table _ q.standing c.loop-epoch.invariant.adding (none_left (goal.at.returns c).In-None)
