-- The decimal digits of a number: their two equations, and their number.
-- Assumes nothing.
use Prim.Native.Nat.{ℕ, zero, suc, ◌+◌, ◌/◌, ◌%◌, ◌^◌, ◌≤◌, ◌<◌}
use native.Mathlib.Omega.{arith}
use mathlib.Core.Path.{◌≡◌, refl, ap}
use mathlib.Core.List.{List, [], ◌∷◌, ◌++◌}
use borrow.Author.Tests.{lt-ltb, le-ltb}
use lib.ListN.{length, length-append}
use Rattle.fields_spec.proofs.Bases.{written_more, size_below}
use Rattle.listing_spec.specs.Text.{digits, decimal}

digits_last : (f n : ℕ) → n < 10 → digits f n ≡ (48 + n) ∷ []
unfolding digits
digits_last zero n h = refl
digits_last (suc f) n h = rw (lt-ltb n 10 h, digits)

digits_more : (f n : ℕ) → 10 ≤ n → digits (suc f) n ≡ digits f (n / 10) ++ ((48 + n % 10) ∷ [])
unfolding digits
digits_more f n h = rw (le-ltb n 10 h, digits)

pub decimal_last : (n : ℕ) → n < 10 → decimal n ≡ (48 + n) ∷ []
unfolding decimal
decimal_last n h = digits_last n n h

pub decimal_more : (n : ℕ) → 10 ≤ n → decimal n ≡ decimal (n / 10) ++ ((48 + n % 10) ∷ [])
unfolding decimal
decimal_more =
    written_more 10 (omega arith) digits (λ (n : ℕ). (48 + n) ∷ []) (λ (n : ℕ) (r : List ℕ). r ++ ((48 + n % 10) ∷ [])) digits_last digits_more

-- ---- their number

pub length_last : (n : ℕ) → n < 10 → length (decimal n) ≡ 1
length_last n h = ap length (decimal_last n h)

pub length_more : (n : ℕ) → 10 ≤ n → length (decimal n) ≡ suc (length (decimal (n / 10)))
length_more n h = omega (arith, ap length (decimal_more n h), length-append (decimal (n / 10)) ((48 + n % 10) ∷ []))

-- a number below 10 ^ k has k digits at most
pub length_below : (k n : ℕ) → n < 10 ^ suc k → length (decimal n) ≤ suc k
length_below = size_below 10 (omega arith) (λ (n : ℕ). length (decimal n)) length_last length_more
