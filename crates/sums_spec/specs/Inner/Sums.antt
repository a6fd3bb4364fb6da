-- What inner functions answer: the last row of a join, and the rows that are lost at version 0.
-- Assumes nothing.
use Rattle.std.specs.Prelude.{ℕ, ◌≤◌, ◌+◌, ◌<◌, ◌≡◌, List, [], ◌∷◌, ◌++◌, ltb, drop}
use Rattle.rows_spec.specs.Rows.{Row, row, Tables, rows_in}
use Rattle.sums_spec.specs.Sums.{any_of_zeros, without_zeros}
use Rattle.sums_spec.specs.declared.join.LastRow.{LastRow}
use Rattle.sums_spec.specs.Joins.{joined}

-- of n rows those of the zero identifier are the first k
pub record Lost (rs : List Row) (n k : ℕ) : Type 0 where
  pub within : k ≤ n
  pub others : without_zeros rs ≡ drop k rs
  pub some_lost : any_of_zeros rs ≡ ltb 0 k

-- the last row of the join of the first i and the first j rows, and how many of both are before it
pub record Last (t u : Tables) (i j : ℕ) (r : LastRow) : Type 0 where
  pub step : joined (rows_in i t) (rows_in j u) ≡ joined (rows_in r.i t) (rows_in r.j u) ++ (row r.id r.epoch r.bytes ∷ [])
  pub ours_before : r.i ≤ i
  pub theirs_before : r.j ≤ j
  pub falls : r.i + r.j < i + j
