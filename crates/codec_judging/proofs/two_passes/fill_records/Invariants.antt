-- `Going`, for whatever epoch the records are sound after: the loop itself does not see it. Assumes nothing.
use Rattle.codec_spec.specs.Inner.Blocks.{Sound}
use Rattle.codec_spec.proofs.Parsing.{rest}
use Rattle.codec_spec.proofs.Fills.{Going}
use Rattle.codec_judging.proofs.two_passes.fill_records.Given as goal

abbrev pub invariant-loop-i : goal.invariant-loop-i
invariant-loop-i l =
    (s : Sound l.src l.start l.n) → Going (rest l.src l.start s.before).records l.src l.k l.initial.epochs l.initial.counts l.epochs l.counts l.at l.i
