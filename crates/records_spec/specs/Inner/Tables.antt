-- What inner functions ask of the two tables of records, and promise of them.
-- Assumes nothing.
use Rattle.std.specs.Prelude.{ℕ, ◌+◌, ◌≡◌, true, List, length}
use Rattle.std.proofs.lemmas.List.Edits.{sets}
use Rattle.records_spec.specs.Tables.{At, epochs_of, counts_of, ascending, rising}

-- two tables of one length, their epochs strictly ascending
pub record Table (es cs : List ℕ) : Type 0 where
  pub even : length es ≡ length cs
  pub rises : rising es ≡ true

-- two tables of one length, their epochs strictly ascending and above e
pub record Above (e : ℕ) (es cs : List ℕ) : Type 0 where
  pub even : length es ≡ length cs
  pub ascends : ascending e es ≡ true

-- records were put into two tables from the place at on, and all else stands; next is the place behind them
pub record Placed (rs : List At) (at next : ℕ) (es cs es' cs' : List ℕ) : Type 0 where
  pub behind : next ≡ at + length rs
  pub epochs_set : es' ≡ sets es at (epochs_of rs)
  pub counts_set : cs' ≡ sets cs at (counts_of rs)
