-- What a select answers: one of two numbers, by which of two others is less.
-- Assumes nothing.
use Rattle.std.specs.Prelude.{ℕ, ◌≤◌, ◌<◌, ◌≡◌}

-- r is c where x is below y, and else d
pub record Selected (x y c d r : ℕ) : Type 0 where
  pub below : x < y → r ≡ c
  pub from : y ≤ x → r ≡ d
