-- Halving the places in which something stands: its place stays between two bounds, and a look at the middle moves one of them. By arithmetic.
-- Assumes nothing.
use mathlib.Core.Path.{◌≡◌}
use Prim.Native.Nat.{ℕ, ◌+◌, ◌-◌, ◌/◌, ◌≤◌, ◌<◌}
use native.Mathlib.Nat.{div-add-mod', mod-lt}
use native.Mathlib.Omega.{arith}

-- twice the half of a number is the number or one less
pub record Halved (n : ℕ) : Type 0 where
  pub most : n / 2 + n / 2 ≤ n
  pub least : n ≤ n / 2 + n / 2 + 1

pub halved : (n : ℕ) → Halved n
halved n = let d = div-add-mod' n 2 in let m = mod-lt n {m = 2} (omega arith) in record { most = omega arith; least = omega arith }

-- the place is one of the places from at on, left of them, or the one behind them; there are as many as long
pub record Between (place long at left : ℕ) : Type 0 where
  pub from : at ≤ place
  pub upto : place ≤ at + left
  pub within : at + left ≤ long

-- all places from the first on
pub between_start : {place long : ℕ} (first left : ℕ) → first + left ≡ long → first ≤ place → place ≤ long → Between place long first left
between_start first left e p q = record { from = p; upto = omega arith; within = omega arith }

module _ {place long at left : ℕ} (b : Between place long at left) where
  -- ---- more than one is left

  module _ (p : 1 < left) where
    -- the middle is one of the places, and fewer are left afterwards
    pub middle_in : at + left / 2 < long
    middle_in = omega (arith, b.within, (halved left).most)

    pub fewer_left : left - left / 2 < left
    fewer_left = omega (arith, (halved left).least)

    -- the place is behind the middle
    pub between_up : at + left / 2 < place → Between place long (at + left / 2) (left - left / 2)
    between_up q = let m = (halved left).most in record { from = omega arith; upto = omega (arith, b.upto); within = omega (arith, b.within) }

    -- it is the middle or before
    pub between_down : place ≤ at + left / 2 → Between place long at (left - left / 2)
    between_down q = let m = (halved left).most in record { from = b.from; upto = omega arith; within = omega (arith, b.within) }

  -- ---- at most one is left

  module _ (p : left ≤ 1) where
    pub done_behind : at < place → at + 1 ≡ place
    done_behind q = omega (arith, b.upto)

    pub done_here : place ≤ at → at ≡ place
    done_here q = omega (arith, b.from)

    pub done_end : long ≤ at → at ≡ place
    done_end l = omega (arith, b.from, b.upto, b.within)
