-- A record is ahead as long as the places go on; it is read whole, and goes to its place. Assumes nothing.
use Rattle.std.proofs.Common.{◌≡◌, ◌+◌, arith}
use Rattle.codec_spec.proofs.Fills.{Ahead, going_start, going_ahead, going_more, going_done, ahead_inside, ahead_whole}
use Rattle.codec_judging.proofs.two_passes.fill_records.Goals as goal
use Rattle.codec_judging.proofs.two_passes.fill_records.Goals.{In-loop-i}

pub loop-i-init : goal.loop-i-init
loop-i-init c = λ s. let a = c.args in going_start a.src.now a.epochs.now a.counts.now a.start a.n a.k s

-- a record is ahead
ahead : (c : In-loop-i) → Ahead c.args.src.now c.loop-i.at (c.loop-i.invariant c.requires.sound).prev
ahead c = going_ahead (c.loop-i.invariant c.requires.sound) (omega (arith, c.requires.sound.all_there, c.loop-i-test.true))

pub be16_at-epoch-requires : goal.be16_at-epoch-requires
be16_at-epoch-requires c = ahead_inside _ _ _ (ahead (goal.at.be16_at-epoch-requires c).In-loop-i)

pub overflow_add-at : goal.overflow_add-at
overflow_add-at c = omega (arith, ahead_inside _ _ _ (ahead (goal.at.overflow_add-at c).In-loop-i))

pub varint_at-varint-requires : goal.varint_at-varint-requires
varint_at-varint-requires c = ahead_whole _ _ _ (ahead (goal.at.varint_at-varint-requires c).In-loop-i)

pub loop-i-preserved : goal.loop-i-preserved
loop-i-preserved c = λ s. going_more (c.loop-i.invariant s) (omega (arith, s.all_there, c.loop-i-test.true)) _
    c.varint_at-varint.result c.be16_at-epoch.ensures c.varint_at-varint.ensures

pub returns : goal.returns
returns c =
    let all : c.loop-i.i ≡ c.args.k + c.args.n = omega (arith, c.loop-i-test.false) in
    λ s. rw all at (going_done (c.loop-i.invariant s) (omega (arith, s.all_there, c.loop-i-test.false)))
