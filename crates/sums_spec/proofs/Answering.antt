-- What `add_assign` leaves, by whether its operands are proper.
-- Assumes nothing.
use mathlib.Core.Path.{◌≡◌}
use mathlib.Core.Bool.{true, false, and-false}
use Prim.Native.Nat.{ℕ}
use Rattle.rows_spec.specs.Calls.{placing_removal}
use Rattle.records_spec.specs.Outcomes.{refusing, leaving}
use Rattle.rows_spec.specs.Removals.{proper_removal, removal_of, HeldRemoval}
use Rattle.records_spec.specs.declared.refusal.Refusal.TheVariants.{BadTable}
use Rattle.sums_spec.specs.Sums.{sum}
use Rattle.sums_spec.specs.Calls.{summed}

module _ (v : ℕ) (lhs rhs : HeldRemoval) where
  pub summed_proper : proper_removal lhs ≡ true → proper_removal rhs ≡ true
      → placing_removal (sum v (removal_of lhs) (removal_of rhs)) lhs.rows ≡ summed v lhs rhs
  unfolding summed placing_removal
  summed_proper p q = rw (p, q)

  pub summed_left_bad : proper_removal lhs ≡ false → refusing BadTable lhs.rows ≡ summed v lhs rhs
  unfolding summed leaving
  summed_left_bad p = rw p

  pub summed_right_bad : proper_removal rhs ≡ false → refusing BadTable lhs.rows ≡ summed v lhs rhs
  unfolding summed leaving
  summed_right_bad q = rw (q, and-false (proper_removal lhs))
