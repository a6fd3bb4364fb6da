-- `repair_reading::padded::capped_value` meets its contract. The loop's invariant: what the groups passed say, capped. Assumes nothing.
use Rattle.std.proofs.Common.{◌≡◌, ◌-◌, length, drop, take}
use Rattle.fields_spec.specs.Varint.{value}
use Rattle.repair_spec.specs.Inner.Steps.{count_capped}
use Rattle.repair_reading.proofs.padded.capped_value.Given as goal

abbrev pub invariant-loop-byte : goal.invariant-loop-byte
invariant-loop-byte l =
    let groups = take (l.end - l.at) (drop l.at l.src) in
    l.says ≡ count_capped (value (drop (length groups - length l.yielded) groups))
