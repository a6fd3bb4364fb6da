-- Repairing twice is repairing once: the answer is canonical, so it comes back as it is. Assumes nothing.
use mathlib.Core.Path.{◌≡◌}
use mathlib.Core.List.{List, []}
use Prim.Native.Nat.{ℕ}
use Rattle.fields_spec.specs.Theorems.{Bytes}
use Rattle.records_spec.specs.Outcomes.{ok}
use Rattle.repair_spec.specs.Repairing.{Repaired, flags_left, repaired}
use Rattle.repair_spec.proofs.CanonicalBack.{proper_back, nothing_back}
use Rattle.repair_spec.proofs.AnswerRead.{left_proper, Answered, no_bytes, some_bytes, answered}

-- REPAIRING TWICE IS REPAIRING ONCE, and the second time nothing is changed
pub twice : (xs : List ℕ) (r : Repaired) → Bytes xs → repaired xs ≡ ok r → repaired r.bytes ≡ ok (record { bytes = r.bytes; lines = [] })
twice xs r bs e = by (answered xs r e)
  where
    by : Answered xs r → repaired r.bytes ≡ ok (record { bytes = r.bytes; lines = [] })
    by (no_bytes x q) = rw q nothing_back
    by (some_bytes k a) = rw a.bytes_are (proper_back (flags_left k xs) (left_proper k xs bs a.head_inside))
