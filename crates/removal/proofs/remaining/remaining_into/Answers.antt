-- The next record is passed: what stays of it is put behind what was put, which has room where all have; at the end nothing is left. Assumes nothing.
use Rattle.std.proofs.Common.{◌<◌, length, arith}
use Rattle.records_spec.specs.Tables.{records_of}
use Rattle.records_spec.proofs.Tables.{filling_start, filling_step, filling_room, filling_done}
use Rattle.records_spec.proofs.Unions.{walking_start, walking_step, walking_done}
use Rattle.removal_spec.proofs.Lessening.{next_stays, next_gone, minus_done}
use Rattle.removal.proofs.remaining.remaining_into.Goals as goal
use Rattle.removal.proofs.remaining.remaining_into.Goals.{In-Some}

pub loop-a-init : goal.loop-a-init
loop-a-init c =
    let p = c.requires in
    record { walking = walking_start p.table p.table_2 (omega arith, omega arith); filling = filling_start _ _ _ _ }

-- what stays of the next record has room
room : (c : In-Some) → (c.loop-a.k < length c.loop-a.epochs) × (c.loop-a.k < length c.loop-a.counts)
room c =
    let p = c.requires in
    let sections = records_of c.args.removed_epochs.now c.args.removed_bytes.now in
    let stays = next_stays c.next_record-next.ensures sections _ c.remove_from.ensures c.in-Some.count c.in-Some.is in
    filling_room c.loop-a.invariant.filling stays (omega (arith, p.sections_removed_in_bounds)) (omega (arith, p.sections_removed_in_bounds_2))

pub offset_bounds-epochs-k : goal.offset_bounds-epochs-k
offset_bounds-epochs-k c = omega (arith, (room (goal.at.offset_bounds-epochs-k c).In-Some).0)

pub bounds-epochs-k : goal.bounds-epochs-k
bounds-epochs-k c = (room (goal.at.bounds-epochs-k c).In-Some).0

pub offset_bounds-counts-k : goal.offset_bounds-counts-k
offset_bounds-counts-k c = omega (arith, (room (goal.at.offset_bounds-counts-k c).In-Some).1)

pub bounds-counts-k : goal.bounds-counts-k
bounds-counts-k c = (room (goal.at.bounds-counts-k c).In-Some).1

pub overflow_add-k : goal.overflow_add-k
overflow_add-k c = omega (arith, (room (goal.at.overflow_add-k c).In-Some).0)

pub loop-a-preserved-in-Some : goal.loop-a-preserved-in-Some
loop-a-preserved-in-Some c =
    let step = c.next_record-next.ensures in
    let sections = records_of c.args.removed_epochs.now c.args.removed_bytes.now in
    let stays = next_stays step sections _ c.remove_from.ensures c.in-Some.count c.in-Some.is in
    record { walking = walking_step c.loop-a.invariant.walking step; filling = filling_step c.loop-a.invariant.filling stays }

pub loop-a-preserved : goal.loop-a-preserved
loop-a-preserved c =
    let step = c.next_record-next.ensures in
    let sections = records_of c.args.removed_epochs.now c.args.removed_bytes.now in
    let gone = next_gone step sections _ c.remove_from.ensures c.in_default.is in
    record { walking = walking_step c.loop-a.invariant.walking step; filling = rw gone at c.loop-a.invariant.filling }

pub returns : goal.returns
returns c =
    let sections = records_of c.args.removed_epochs.now c.args.removed_bytes.now in
    let none = minus_done _ sections (walking_done c.loop-a.invariant.walking c.loop-a-test.false) in
    filling_done c.loop-a.invariant.filling none
