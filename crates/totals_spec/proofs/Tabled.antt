-- The rows of tables, one by one: whether no total is 0.
-- Assumes nothing.
use mathlib.Core.Path.{◌≡◌}
use mathlib.Core.Bool.{true, ◌&&◌}
use Prim.Native.Nat.{ℕ, ◌+◌, ◌≤◌, ◌<◌}
use lib.Dec.{ltb}
use lib.ListN.{drop, get_or}
use Rattle.rows_spec.specs.Rows.{Tables, rows_in, Room}
use Rattle.rows_spec.proofs.Rows.{rows_on, rows_end}
use Rattle.totals_spec.specs.Table.{all_positive}
use Rattle.totals_spec.proofs.Totals.{above_none}

module _ {n : ℕ} {t : Tables} (r : Room n t) (i : ℕ) where
  pub above_next : i < n → all_positive (drop i (rows_in n t)) ≡ (ltb 0 (get_or t.bytes i 0) && all_positive (drop (i + 1) (rows_in n t)))
  unfolding all_positive
  above_next h = rw (rows_on r i h)

  pub above_end : n ≤ i → all_positive (drop i (rows_in n t)) ≡ true
  above_end h = rw (rows_end r i h) above_none
