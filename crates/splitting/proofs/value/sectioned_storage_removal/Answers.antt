-- Each turn places the row of the latest record that is left; behind the loop the base's row is placed, where something is left for it.
-- Assumes nothing.
use Rattle.std.proofs.Common.{◌≡◌, ◌<◌, ◌-◌, min, length, get_or, ap, ◌∙◌, arith}
use Rattle.std.proofs.lemmas.Iterator.{YieldsList-from_zip}
use Rattle.std.proofs.lemmas.Iterator.Consumers.{YieldsList-turn, YieldsList-end}
use Rattle.std.proofs.lemmas.Iterator.Adapters.{YieldsList-from_rev_slice}
use Rattle.std.proofs.lemmas.List.{length_push}
use Rattle.rows_spec.specs.Rows.{tables}
use Rattle.splitting_spec.specs.Sections.{minimum}
use Rattle.splitting_spec.proofs.Placing.{nothing_placed, placing_start, placing_room, placing_step, placing_none, base_room, base_placed}
use Rattle.splitting.proofs.Backwards.{pair_from_back, no_pair_left}
use Rattle.splitting.proofs.value.sectioned_storage_removal.Goals as goal
use Rattle.splitting.proofs.value.sectioned_storage_removal.Goals.{After-gives-given, Then-left-gt0, in-None, in-Some+then-left-eq0}

pub returns-then-removed_bytes-eq0 : goal.returns-then-removed_bytes-eq0
returns-then-removed_bytes-eq0 c = nothing_placed _ _ _ _ c.if-removed_bytes-eq0.true

pub loop-epoch-init : goal.loop-epoch-init
loop-epoch-init c =
    let a = c.args in
    let r = c.requires in
    record {
      j = length a.counts.now;
      turns = omega arith;
      placing = placing_start a.id a.base a.epochs.now a.counts.now a.removed_bytes a.rows (tables a.ids.now a.row_epochs.now a.row_bytes.now)
          r.epochs_len r.rows_value r.room;
    }

-- a turn has the last of the records that are left
turn : (c : After-gives-given) → let j = c.loop-epoch.invariant.j in
    (0 < j) × (c.in-Some.epoch.now ≡ get_or c.args.epochs.now (j - 1) 0)
    × (c.gives-given.result ≡ min c.loop-epoch.left (get_or c.args.counts.now (j - 1) 0 - minimum))
turn c =
    let es = c.args.epochs.now in
    let cs = c.args.counts.now in
    let l = c.loop-epoch in
    let pairs = YieldsList-from_zip (YieldsList-from_rev_slice es cc) (YieldsList-from_rev_slice cs cc) in
    let s = c.in-Some in
    let item = YieldsList-turn pairs l.yielded _ l.yielded_by _ c.next.new.self (s.epoch, s.count) s.is c.next.ensures.steps in
    let pair = pair_from_back es cs (length l.yielded) l.invariant.j s.epoch.now s.count.now c.requires.epochs_len l.invariant.turns item in
    (pair.0, pair.1, c.gives-given.ensures ∙ ap (λ count. min l.left (count - minimum)) pair.2)

pub overflow_sub-k : goal.overflow_sub-k
overflow_sub-k c =
    let t = turn (goal.at.overflow_sub-k c).After-gives-given in
    (placing_room c.loop-epoch.invariant.placing c.gives-given.result t.0 (omega arith) t.2).0

pub put_row-requires : goal.put_row-requires
put_row-requires c =
    let t = turn (goal.at.put_row-requires c).After-gives-given in
    (placing_room c.loop-epoch.invariant.placing c.gives-given.result t.0 (omega arith) t.2).1

pub loop-epoch-preserved : goal.loop-epoch-preserved
loop-epoch-preserved c =
    let l = c.loop-epoch in
    let t = turn (goal.at.loop-epoch-preserved c).After-gives-given in
    record {
      j = l.invariant.j - 1;
      turns = omega (arith, length_push l.yielded (c.in-Some.epoch, c.in-Some.count));
      placing = placing_step l.invariant.placing c.gives-given.result t.0 (omega arith) t.2 (rw (← t.1) c.put_row.ensures);
    }

-- where something is left behind the loop, no record is
over : (c : Then-left-gt0) → c.loop-epoch.invariant.j ≡ 0
over c =
    let es = c.args.epochs.now in
    let cs = c.args.counts.now in
    let l = c.loop-epoch in
    elim c.match-next.branch [
      | in-None w ↦
          let pairs = YieldsList-from_zip (YieldsList-from_rev_slice es cc) (YieldsList-from_rev_slice cs cc) in
          let end = YieldsList-end pairs l.yielded _ l.yielded_by _ c.next.new.self w.in-None.is c.next.ensures.steps in
          no_pair_left es cs (length l.yielded) l.invariant.j c.requires.epochs_len l.invariant.turns end.1
      | in-Some+then-left-eq0 w ↦ absurd (omega arith)
    ]

pub put_row-requires-then-left-gt0 : goal.put_row-requires-then-left-gt0
put_row-requires-then-left-gt0 c =
    base_room c.loop-epoch.invariant.placing (over (goal.at.put_row-requires-then-left-gt0 c).Then-left-gt0) c.if-left-gt0.true

pub returns-then-left-gt0 : goal.returns-then-left-gt0
returns-then-left-gt0 c =
    let none = over (goal.at.returns-then-left-gt0 c).Then-left-gt0 in
    base_placed c.loop-epoch.invariant.placing none c.if-left-gt0.true (omega arith) c.args.rows c.requires.rows_value
    c.put_row-then-left-gt0.ensures

pub returns-else-left-gt0 : goal.returns-else-left-gt0
returns-else-left-gt0 c =
    placing_none c.loop-epoch.invariant.placing (omega arith) c.args.rows c.requires.rows_value (omega arith)
