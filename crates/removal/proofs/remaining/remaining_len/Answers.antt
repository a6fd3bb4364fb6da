-- The next record is passed: what stays of it counts, and then what remains of the others; at the end nothing is left. Assumes nothing.
use Rattle.std.proofs.Common.{length, sym, ap, ◌∙◌, arith}
use Rattle.records_spec.specs.Tables.{At, records_of}
use Rattle.records_spec.proofs.Unions.{walking_start, walking_step, walking_done}
use Rattle.removal_spec.proofs.Lessening.{next_long, minus_done}
use Rattle.removal.proofs.remaining.remaining_len.Goals as goal

pub loop-a-init : goal.loop-a-init
loop-a-init c =
    let p = c.requires in
    record { walking = walking_start p.table p.table_2 (omega arith, omega arith); few = omega arith; counted = omega arith }

pub loop-a-preserved-then-is_some : goal.loop-a-preserved-then-is_some
loop-a-preserved-then-is_some c =
    let step = c.next_record-next.ensures in
    let stays = sym c.is_some.ensures ∙ c.if-is_some.true in
    let sections = records_of c.args.removed_epochs.now c.args.removed_bytes.now in
    let long = rw stays at (next_long step sections _ c.remove_from.ensures) in
    record { walking = walking_step c.loop-a.invariant.walking step; few = omega (arith, step.falls); counted = omega (arith, long) }

pub loop-a-preserved : goal.loop-a-preserved
loop-a-preserved c =
    let step = c.next_record-next.ensures in
    let stays = sym c.is_some.ensures ∙ c.if-is_some.false in
    let sections = records_of c.args.removed_epochs.now c.args.removed_bytes.now in
    let long = rw stays at (next_long step sections _ c.remove_from.ensures) in
    record { walking = walking_step c.loop-a.invariant.walking step; few = omega (arith, step.falls); counted = omega (arith, long) }

pub returns : goal.returns
returns c =
    let sections = records_of c.args.removed_epochs.now c.args.removed_bytes.now in
    let none = minus_done _ sections (walking_done c.loop-a.invariant.walking c.loop-a-test.false) in
    omega (arith, c.loop-a.invariant.counted, ap (length {A = At}) none)
