-- The rows of sections under one identifier refund what the sections come to, and rows one after another refund the sum.
-- Assumes nothing.
use mathlib.Core.Path.{◌≡◌, refl}
use mathlib.Core.Bool.{Bool, true, false, cond}
use mathlib.Core.List.{List, [], ◌∷◌, ◌++◌}
use Prim.Native.Nat.{ℕ, ◌+◌}
use native.Mathlib.Omega.{arith}
use Rattle.records_spec.specs.Tables.{At}
use Rattle.records_spec.specs.Flags.{same}
use Rattle.rows_spec.specs.Rows.{Row, rows_under}
use Rattle.steps.specs.History.{refund_at}
use Rattle.steps.proofs.Remaining.{given}

module _ (i : List ℕ) (d : ℕ) where
  pub refund_append : (xs ys : List Row) → refund_at i d (xs ++ ys) ≡ refund_at i d xs + refund_at i d ys
  unfolding refund_at
  refund_append [] ys = omega arith
  refund_append (x ∷ xs) ys = omega (arith, refund_append xs ys)

  -- by whether the identifier is i
  refund_by : (j : List ℕ) (b : Bool) → same j i ≡ b → (ss : List At) → refund_at i d (rows_under j ss) ≡ cond b (given d ss) 0
  unfolding refund_at rows_under given
  refund_by j true h [] = refl
  refund_by j true h (s ∷ ss) = rw (h, refund_by j true h ss)
  refund_by j false h [] = refl
  refund_by j false h (s ∷ ss) = rw (h, refund_by j false h ss)

  pub refund_under : (j : List ℕ) (ss : List At) → refund_at i d (rows_under j ss) ≡ cond (same j i) (given d ss) 0
  refund_under j ss = refund_by j (same j i) refl ss

-- sections that come to the same at each epoch refund the same
pub refunds_same : (i : List ℕ) (d : ℕ) (j : List ℕ) (xs ys zs : List At) → given d xs + given d ys ≡ given d zs
    → refund_at i d (rows_under j xs) + refund_at i d (rows_under j ys) ≡ refund_at i d (rows_under j zs)
refunds_same i d j xs ys zs h = simp refund_under (by (same j i))
  where
    by : (b : Bool) → cond b (given d xs) 0 + cond b (given d ys) 0 ≡ cond b (given d zs) 0
    by true = h
    by false = refl
