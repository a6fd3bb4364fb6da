-- `repair::repairing::settle` meets its contract: the room for the list, then what writing answers, lead to each case. Assumes nothing.
use Rattle.std.proofs.Common.{refl, sym, ◌∙◌, arith}
use Rattle.std.proofs.lemmas.Result.{err_from_is_err_and}
use Rattle.repair_spec.proofs.Finishing.{left_crowded, left_refused, left_done}
use Rattle.repair.proofs.repairing.settle.Goals as goal

pub returns-then-not-fit : goal.returns-then-not-fit
returns-then-not-fit c =
    let a = c.args in
    let l = c.list_changes-lines in
    left_crowded a.kind a.src.now c.requires.settled.head_inside a.out.now a.offsets.now a.changes.now l.result
    (omega (arith, l.ensures.behind)) (sym c.fit.ensures ∙ c.if-not-fit.true)

pub returns-in_err-bytes : goal.returns-in_err-bytes
returns-in_err-bytes c =
    let a = c.args in
    let passed = err_from_is_err_and c.from_residual.result c.from_residual.ensures.1 in
    rw (passed.1, passed.2)
    (left_refused a.kind a.src.now c.requires.settled.head_inside a.out.now a.offsets.now a.changes.now a.head a.epochs.now
    a.counts.now c.requires.ready _ _ c.in_err-bytes.ensures _ refl)

pub returns : goal.returns
returns c =
    let a = c.args in
    let l = c.list_changes-lines in
    left_done a.kind a.src.now c.requires.settled.head_inside a.out.now a.offsets.now a.changes.now a.head a.epochs.now
    a.counts.now c.requires.ready _ _ c.in_ok-bytes.ensures _ l.result _ _
    refl (omega (arith, l.ensures.behind)) (sym c.fit.ensures ∙ c.if-not-fit.false) _
    c.list_changes.ensures
