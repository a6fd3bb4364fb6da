-- The lead of ours is put first, then one record after another, and then what is left of one side, where the other is passed. Assumes nothing.
use Rattle.std.proofs.Common.{refl, arith}
use Rattle.records_spec.proofs.Tables.{filling_start, filling_step, filling_run, filling_fits, filling_done}
use Rattle.records_spec.proofs.Unions.{walking_start, walking_step}
use Rattle.records_spec.proofs.Runs.{lead_within, union_lead, left_ours, left_theirs}
use Rattle.records.proofs.table.union_into.Goals as goal

pub copy_run-k-requires-clause-end_in_bounds : goal.copy_run-k-requires-clause-end_in_bounds
copy_run-k-requires-clause-end_in_bounds c =
    let a = c.args in
    let even = c.requires.table.even in
    let lead = lead_within a.our_epochs.now a.their_epochs.now a.i a.j c.requires.i_in_bounds.0 in
    (omega (arith, c.lead_end-a.ensures), omega (arith, c.lead_end-a.ensures))

pub copy_run-k-requires-clause-room_from : goal.copy_run-k-requires-clause-room_from
copy_run-k-requires-clause-room_from c =
    let p = c.requires in
    filling_fits (filling_start _ _ _ _) _ _ (union_lead p.table p.table_2 c.args.i c.args.j p.i_in_bounds.0 c.lead_end-a.ensures)
    (record { in_epochs = p.their_records_in_bounds; in_counts = p.their_records_in_bounds_2 })

pub loop-a-init : goal.loop-a-init
loop-a-init c =
    let a = c.args in
    let p = c.requires in
    let lead = lead_within a.our_epochs.now a.their_epochs.now a.i a.j p.i_in_bounds.0 in
    record {
      walking = walking_start p.table p.table_2 (omega (arith, c.lead_end-a.ensures), p.i_in_bounds.1);
      filling = filling_run (filling_start _ _ _ _) (union_lead p.table p.table_2 a.i a.j p.i_in_bounds.0 c.lead_end-a.ensures) c.copy_run-k.ensures;
    }

pub loop-a-preserved : goal.loop-a-preserved
loop-a-preserved c =
    let v = c.loop-a.invariant in
    let s = c.next_record-next.ensures in
    record { walking = walking_step v.walking s; filling = filling_step v.filling s.step }

pub copy_run-requires-clause-room_from : goal.copy_run-requires-clause-room_from
copy_run-requires-clause-room_from c =
    let p = c.requires in
    filling_fits c.loop-a.invariant.filling _ _ (left_ours p.table p.table_2 c.loop-a.a c.loop-a.b c.if-their_end-b.true)
    (record { in_epochs = p.their_records_in_bounds; in_counts = p.their_records_in_bounds_2 })

pub returns-then-their_end-b : goal.returns-then-their_end-b
returns-then-their_end-b c =
    let left = left_ours c.requires.table c.requires.table_2 c.loop-a.a c.loop-a.b c.if-their_end-b.true in
    filling_done (filling_run c.loop-a.invariant.filling left c.copy_run.ensures) refl

pub copy_run-requires-2-clause-room_from : goal.copy_run-requires-2-clause-room_from
copy_run-requires-2-clause-room_from c =
    let p = c.requires in
    filling_fits c.loop-a.invariant.filling _ _ (left_theirs p.table p.table_2 c.loop-a.a c.loop-a.b c.loop-a-test.false)
    (record { in_epochs = p.their_records_in_bounds; in_counts = p.their_records_in_bounds_2 })

pub returns : goal.returns
returns c =
    let left = left_theirs c.requires.table c.requires.table_2 c.loop-a.a c.loop-a.b c.loop-a-test.false in
    filling_done (filling_run c.loop-a.invariant.filling left c.copy_run-2.ensures) refl
