-- Each turn puts the first record of what is left, and at the end none is left. Assumes nothing.
use Rattle.std.proofs.Common.{arith}
use Rattle.records_spec.proofs.Tables.{filling_start, filling_step, filling_done, first_on, first_end}
use Rattle.records.proofs.joining.copy_run.Goals as goal

pub loop-a-init : goal.loop-a-init
loop-a-init c = record { place = omega arith; filling = filling_start _ _ _ _ }

pub loop-a-preserved : goal.loop-a-preserved
loop-a-preserved c =
    let a = c.args in
    let l = c.loop-a in
    let p = c.requires.end_in_bounds in
    let next = first_on a.from_epochs.now a.from_counts.now a.end l.a p.0 p.1 c.loop-a-test.true in
    record { place = omega arith; filling = filling_step l.invariant.filling next }

pub returns : goal.returns
returns c =
    let a = c.args in
    let l = c.loop-a in
    let p = c.requires.end_in_bounds in
    filling_done l.invariant.filling (first_end a.from_epochs.now a.from_counts.now a.end l.a p.0 p.1 c.loop-a-test.false)
