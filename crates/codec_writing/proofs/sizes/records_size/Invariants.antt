-- The sum so far and what the counts from the index on add make the whole. Assumes nothing.
use Rattle.codec_spec.proofs.Sizing.{Summing}
use Rattle.codec_writing.proofs.sizes.records_size.Given as goal

abbrev pub invariant-loop-count : goal.invariant-loop-count
invariant-loop-count l = Summing l.counts l.size l.count-index
