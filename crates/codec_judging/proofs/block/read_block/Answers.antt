-- Each turn takes a record more or ends with its fault; the block ends where it is full or the bytes end. Assumes nothing.
use Rattle.std.proofs.Common.{sym, arith}
use Rattle.std.proofs.lemmas.Result.{err_from_is_err_and}
use Rattle.codec_spec.proofs.Taking.{taken_start, taken_bad, taken_more, blocked_faulty, blocked_taken}
use Rattle.codec_judging.proofs.block.read_block.Goals as goal

pub loop-block-init : goal.loop-block-init
loop-block-init c =
    let a = c.args in
    (omega arith, taken_start a.src.now a.start a.base a.epochs.now a.counts.now c.requires.start_in_bounds)

pub returns-in_err-record : goal.returns-in_err-record
returns-in_err-record c =
    let a = c.args in
    let passed = err_from_is_err_and c.from_residual.result c.from_residual.ensures.1 in
    let here = taken_bad c.loop-block.invariant.1 c.if-block-src.true _ (sym c.in_err-record.ensures) in
    rw (passed.1, passed.2) (blocked_faulty a.src.now a.start a.base a.epochs.now a.counts.now _ _ _ here)

pub loop-block-preserved : goal.loop-block-preserved
loop-block-preserved c =
    let l = c.loop-block in
    (omega (arith, c.loop-block-test.true), taken_more l.invariant.1 c.if-block-src.true _ (sym c.in_ok-record.ensures))

pub returns-else-block-src : goal.returns-else-block-src
returns-else-block-src c = blocked_taken c.loop-block.invariant.1 (λ h. absurd (omega (arith, c.if-block-src.false))) c.loop-block.invariant.0

pub returns-after-loop-block : goal.returns-after-loop-block
returns-after-loop-block c =
    blocked_taken c.loop-block.invariant.1 (λ h. omega (arith, c.loop-block-test.false)) c.loop-block.invariant.0
