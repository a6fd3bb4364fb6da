-- A list that is filled from its front with the elements of another, place by place. By cases on both.
-- Assumes nothing.
use mathlib.Core.Path.{◌≡◌, refl, ap}
use mathlib.Core.List.{List, [], ◌∷◌}
use Prim.Native.Nat.{ℕ, zero, suc, ◌≤◌, ◌<◌}
use native.Mathlib.Nat.{le_of_suc-le-suc, not-suc-le-zero}
use lib.ListN.{length, take, get_or, set}
use lib.Seq.{take_all}
use Rattle.records_spec.specs.Tables.{over}

module _ {ℓ} {A : Type ℓ} where
  -- the first i elements of xs at the start of old
  abbrev pub filled : ℕ → List A → List A → List A
  filled i xs old = over (take i xs) old

  pub filled_next : (i : ℕ) (xs old : List A) (d : A) → i < length xs → i < length old → set (filled i xs old) i (get_or xs i d) ≡ filled (suc i) xs old
  filled_next i [] old d h k = absurd (not-suc-le-zero h)
  filled_next i (x ∷ xs) [] d h k = absurd (not-suc-le-zero k)
  filled_next zero (x ∷ xs) (o ∷ old) d h k = refl
  filled_next (suc i) (x ∷ xs) (o ∷ old) d h k = ap (λ (l : List A). x ∷ l) (filled_next i xs old d (le_of_suc-le-suc h) (le_of_suc-le-suc k))

  pub filled_all : (n : ℕ) (xs old : List A) → length xs ≤ n → filled n xs old ≡ over xs old
  filled_all n xs old h = ap (λ (l : List A). over l old) (take_all n xs h)
