-- What every writer of bytes promises: where it wrote, and that all else stands.
-- Assumes nothing.
use Rattle.std.specs.Prelude.{ℕ, ◌+◌, ◌≡◌, List, length}
use Rattle.std.proofs.lemmas.List.Edits.{sets}

-- xs were written into old from the place at, which makes new of it; next is the place behind them
pub record Put (xs : List ℕ) (at next : ℕ) (old new : List ℕ) : Type 0 where
  pub behind : next ≡ at + length xs
  pub wrote : new ≡ sets old at xs
