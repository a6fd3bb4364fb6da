-- What is found from the place reached on has the first fault of all, and with the records passed as many. Assumes nothing.
use Rattle.std.proofs.Common.{◌≡◌, ◌+◌, ◌-◌, ◌≤◌, length}
use Rattle.codec_spec.proofs.Parsing.{rest}
use Rattle.codec_judging.proofs.block.judge_records.Given as goal

abbrev pub invariant-loop-at : goal.invariant-loop-at
invariant-loop-at l = record {
  within : l.at ≤ length l.src;
  passed : l.n ≤ l.at;
  fault_on : (rest l.src l.at l.prev).fault ≡ (rest l.src l.start l.base).fault;
  records_on : l.n + length (rest l.src l.at l.prev).records ≡ length (rest l.src l.start l.base).records;
}

abbrev pub decreases-loop-at : goal.decreases-loop-at
decreases-loop-at l = length l.src - l.at
