-- `has_removal` and `total_removed_bytes` on examples, as one table under one statement: a removal, whether it removes anything, and what it
-- comes to; with the limit of the total and one past it, and rows that are not proper. By computation.
-- Assumes nothing.
use Prim.Native.Nat.{ℕ}
use mathlib.Core.Path.{◌≡◌, refl}
use mathlib.Core.Bool.{Bool, true, false}
use mathlib.Core.List.{List, [], ◌∷◌, ◌++◌, map}
use lib.ListN.{replicate}
use Rattle.records_spec.specs.Tables.{records_of}
use Rattle.records_spec.specs.Outcomes.{refused, Answer, ok}
use Rattle.rows_spec.specs.Order.{order}
use Rattle.rows_spec.specs.Rows.{ascends, Tables, tables, rows_of, proper_rows}
use Rattle.rows_spec.specs.Removals.{total_rows, any_bytes, holding_rows}
use Rattle.rows_spec.specs.Calls.{has_removal, total_removed}
use Rattle.rows_spec.specs.declared.removed.Removed.{Removed}
use Rattle.rows_spec.specs.declared.removed.Removed.TheVariants.{None, Basic, Sectioned}

-- a removal in its tables, and the two answers
pub record Example : Type 0 where
  pub state : Removed
  pub rows : Tables
  pub has : Answer Bool
  pub total : Answer ℕ

-- an example by its parts
abbrev example : Removed → Tables → Answer Bool → Answer ℕ → Example
example state rows has total = record { state = state; rows = rows; has = has; total = total }

-- the two answers of the calls
abbrev answered : Example → Example
answered e = example e.state e.rows (has_removal (holding_rows e.state e.rows)) (total_removed (holding_rows e.state e.rows))

-- identifiers that differ in their last byte
abbrev id : ℕ → List ℕ
id n = replicate 31 1 ++ (n ∷ [])

-- two rows of two identifiers, with these bytes
abbrev two : ℕ → ℕ → ℕ → ℕ → Tables
two i j m n = tables (id i ∷ id j ∷ []) (5 ∷ 5 ∷ []) (m ∷ n ∷ [])

pub examples : List Example
examples =
    example None (two 1 2 3 4) (ok false) (ok 0)
    ∷ example (Basic 0) (two 1 2 3 4) (ok false) (ok 0)
    ∷ example (Basic 1) (two 1 2 3 4) (ok true) (ok 1)
    ∷ example (Basic 4294967295) (two 1 2 3 4) (ok true) (ok 4294967295)
    ∷ example (Sectioned 0) (two 1 2 3 4) (ok false) (ok 0)
    ∷ example (Sectioned 1) (two 1 2 0 4) (ok false) (ok 0)
    ∷ example (Sectioned 2) (two 1 2 0 4) (ok true) (ok 4)
    ∷ example (Sectioned 2) (two 1 2 4294967294 1) (ok true) (ok 4294967295)
    ∷ example (Sectioned 2) (two 1 2 4294967295 1) (ok true) (refused 9)
    ∷ example (Sectioned 2) (two 2 1 3 4) (refused 11) (refused 11)
    ∷ example (Sectioned 2) (two 1 1 3 4) (refused 11) (refused 11)
    ∷ example (Sectioned 3) (two 1 2 3 4) (refused 11) (refused 11)
    ∷ []

pub marked : map answered examples ≡ examples
unfolding examples proper_rows rows_of records_of ascends order total_rows any_bytes
marked = refl
