-- Each count adds two bytes and its varint, of which five bytes are the most. Assumes nothing.
use Rattle.std.proofs.Common.{arith}
use Rattle.codec_spec.proofs.Sizing.{summing_start, summing_step, summing_done}
use Rattle.codec_writing.proofs.sizes.records_size.Goals as goal

pub loop-count-init : goal.loop-count-init
loop-count-init c = summing_start _

pub loop-count-preserved : goal.loop-count-preserved
loop-count-preserved c =
    let l = c.loop-count in
    summing_step l.invariant _ c.loop-count-test.true c.varint_len.ensures (omega (arith, c.type_inv.counts l.count-index))

pub overflow_add-size : goal.overflow_add-size
overflow_add-size c = omega (arith, loop-count-preserved c)

pub overflow_add-size-in-loop-count : goal.overflow_add-size-in-loop-count
overflow_add-size-in-loop-count c = omega (arith, loop-count-preserved c)

pub returns : goal.returns
returns c = summing_done c.loop-count.invariant c.loop-count-test.false
