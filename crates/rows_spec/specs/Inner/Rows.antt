-- What inner functions ask of the three tables of rows.
-- Assumes nothing.
use Rattle.std.specs.Prelude.{ℕ, ◌≡◌, true}
use Rattle.rows_spec.specs.Rows.{ascends, Tables, rows_in, Room}

-- n proper rows stand in the tables
pub record Proper (n : ℕ) (t : Tables) : Type 0 where
  pub room : Room n t
  pub rises : ascends (rows_in n t) ≡ true
