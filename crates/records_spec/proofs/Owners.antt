-- Whether two owners are the same: it is equality, and a loop can ask it byte by byte. By cases on the bytes.
-- Assumes nothing.
use mathlib.Core.Path.{◌≡◌, refl, sym}
use mathlib.Core.List.{List, [], ◌∷◌}
use mathlib.Core.Bool.{true, ◌&&◌, and-eq-true_iff, true≢false}
use Prim.Native.Nat.{ℕ, ◌+◌, ◌≤◌, ◌<◌}
use lib.Dec.{eqb}
use lib.ListN.{length, drop, get_or, drop_of_length-le}
use borrow.Author.Tests.{eqb-true, eq-eqb}
use Rattle.records_spec.specs.Flags.{same}
use Rattle.records_spec.proofs.Rising.{drop_next}

pub same_self : (xs : List ℕ) → same xs xs ≡ true
unfolding same
same_self [] = refl
same_self (x ∷ xs) = rw (eq-eqb x x refl) (same_self xs)

pub same_equal : (xs ys : List ℕ) → same xs ys ≡ true → xs ≡ ys
unfolding same
same_equal [] [] h = refl
same_equal [] (y ∷ ys) h = absurd (true≢false (sym h))
same_equal (x ∷ xs) [] h = absurd (true≢false (sym h))
same_equal (x ∷ xs) (y ∷ ys) h =
    let p = (and-eq-true_iff (eqb x y) (same xs ys)).0 h in
    rw (eqb-true x y p.0, same_equal xs ys p.1)

module _ (xs ys : List ℕ) (i : ℕ) where
  pub same_on : i < length xs → i < length ys
      → same (drop i xs) (drop i ys) ≡ (eqb (get_or xs i 0) (get_or ys i 0) && same (drop (i + 1) xs) (drop (i + 1) ys))
  unfolding same
  same_on p q = rw (drop_next xs i p, drop_next ys i q)

  pub same_end : length xs ≤ i → length ys ≤ i → same (drop i xs) (drop i ys) ≡ true
  unfolding same
  same_end p q = rw (drop_of_length-le xs {i = i} p, drop_of_length-le ys {i = i} q)
