-- P14 of document 01 and the other cases of a sum, as one table under one statement: two removals at a version, and what the call answers and
-- leaves of lent tables with more room than needed, with exact room, and with one row less; a batch in two orders; and
-- where nothing saturates. By computation.
-- Assumes nothing.
use Prim.Native.Nat.{ℕ}
use mathlib.Core.Path.{◌≡◌, refl}
use mathlib.Core.Bool.{true, false}
use mathlib.Core.List.{List, [], ◌∷◌, ◌++◌, map, reverse}
use lib.ListN.{replicate}
use Rattle.records_spec.specs.Tables.{records_of, epochs_of, counts_of}
use Rattle.records_spec.specs.Flags.{zeros, same}
use Rattle.rows_spec.specs.Order.{order}
use Rattle.rows_spec.specs.Rows.{Row, row, ascends, ids_of, parts_of, Tables, tables, rows_of, proper_rows, over_rows}
use Rattle.rows_spec.specs.Removals.{Removal, nothing, basic, sectioned, rows_of_removal, state_of, holding_rows, HeldRemoval}
use Rattle.rows_spec.specs.Calls.{RemovalAfter}
use Rattle.records_spec.specs.Outcomes.{kept, ok, after, leaving}
use Rattle.rows_spec.specs.declared.removed.Removed.TheVariants.{None}
use Rattle.sums_spec.specs.Joins.{add_row, joined}
use Rattle.sums_spec.specs.Sums.{any_of_zeros, without_zeros, basic_plus, bytes_at, sum_fits, exact}
use Rattle.sums_spec.specs.Calls.{summed}
use Rattle.sums_spec.specs.Batches.{add_all}

-- a version, two removals in their tables, and what is left
pub record Example : Type 0 where
  pub version : ℕ
  pub lhs : HeldRemoval
  pub rhs : HeldRemoval
  pub left : RemovalAfter

-- tables that hold rows, and nothing else
abbrev tables_of : List Row → Tables
tables_of rs = over_rows rs (tables [] [] [])

-- a removal in tables of its own
abbrev alone : Removal → HeldRemoval
alone r = holding_rows (state_of r) (tables_of (rows_of_removal r))

-- an example by its parts: the left removal stands at the start of some rows' places
abbrev example : ℕ → Removal → List Row → Removal → (Tables → RemovalAfter) → Example
example v x places y expected =
    let t = over_rows (rows_of_removal x) (tables_of places) in
    record { version = v; lhs = holding_rows (state_of x) t; rhs = alone y; left = expected t }

-- a removal is answered, and its rows stand at the start of the tables
abbrev gives : Removal → Tables → RemovalAfter
gives r t = after (ok (state_of r)) (over_rows (rows_of_removal r) t)

-- identifiers that differ in their last byte
abbrev id : ℕ → List ℕ
id n = replicate 31 1 ++ (n ∷ [])

-- one, two and three places of a table
abbrev one : List Row
one = row (id 9) 9 9 ∷ []

abbrev two : List Row
two = row (id 8) 8 8 ∷ one

abbrev three : List Row
three = row (id 7) 7 7 ∷ two

pub examples : List Example
examples =
    example 0 (basic 4) two (sectioned (row zeros 3 10 ∷ [])) (gives (sectioned []))
    ∷ example 1 (basic 4) three (sectioned (row zeros 3 10 ∷ [])) (gives (sectioned (row zeros 3 10 ∷ row zeros 65535 4 ∷ [])))
    ∷ example 1 (basic 4) two (sectioned (row zeros 3 10 ∷ [])) (gives (sectioned (row zeros 3 10 ∷ row zeros 65535 4 ∷ [])))
    ∷ example 1 (basic 4) one (sectioned (row zeros 3 10 ∷ [])) (kept 10)
    ∷ example 0 (basic 4) two (sectioned (row (id 1) 3 10 ∷ [])) (gives (sectioned (row zeros 65535 4 ∷ row (id 1) 3 10 ∷ [])))
    ∷ example 0 (basic 4) two (sectioned (row zeros 3 10 ∷ row (id 1) 3 10 ∷ [])) (gives (sectioned (row (id 1) 3 10 ∷ [])))
    ∷ example 0 (sectioned (row zeros 3 10 ∷ [])) two (basic 4) (gives (sectioned (row zeros 3 10 ∷ row zeros 65535 4 ∷ [])))
    ∷ example 0 (sectioned []) one (basic 0) (gives (sectioned (row zeros 65535 0 ∷ [])))
    ∷ example 0 (sectioned []) [] (basic 0) (kept 10)
    ∷ example 1 (basic 4294967295) [] (basic 1) (gives (basic 4294967295))
    ∷ example 1 (basic 4294967294) [] (basic 1) (gives (basic 4294967295))
    ∷ example 0 nothing [] nothing (gives nothing)
    ∷ example 0 nothing [] (basic 7) (gives (basic 7))
    ∷ example 0 (basic 7) [] nothing (gives (basic 7))
    ∷ example 0 nothing two (sectioned (row (id 1) 3 10 ∷ [])) (gives (sectioned (row (id 1) 3 10 ∷ [])))
    ∷ example 0 (sectioned (row (id 1) 3 10 ∷ [])) two nothing (gives (sectioned (row (id 1) 3 10 ∷ [])))
    ∷ example 0 (sectioned (row (id 1) 3 10 ∷ row (id 1) 5 4294967290 ∷ [])) three (sectioned (row (id 0) 3 1 ∷ row (id 1) 5 6 ∷ []))
    (gives (sectioned (row (id 0) 3 1 ∷ row (id 1) 3 10 ∷ row (id 1) 5 4294967295 ∷ [])))
    ∷ example 0 (sectioned (row (id 1) 3 10 ∷ [])) one (sectioned (row (id 1) 3 1 ∷ [])) (gives (sectioned (row (id 1) 3 11 ∷ [])))
    ∷ example 0 (sectioned (row (id 1) 3 10 ∷ [])) one (sectioned (row (id 1) 4 1 ∷ [])) (kept 10)
    ∷ example 1 (sectioned (row (id 2) 3 10 ∷ row (id 1) 3 10 ∷ [])) two nothing (kept 11)
    ∷ example 1 nothing two (sectioned (row (id 1) 3 10 ∷ row (id 1) 3 10 ∷ [])) (kept 11)
    ∷ []

pub marked : map (λ (e : Example). summed e.version e.lhs e.rhs) examples ≡ map (λ (e : Example). e.left) examples
unfolding examples summed leaving proper_rows rows_of records_of epochs_of counts_of ids_of parts_of ascends order add_row joined basic_plus any_of_zeros
    without_zeros same
marked = refl

-- ---- a batch

-- four removals, one after another
abbrev batch : List HeldRemoval
batch =
    alone (basic 4294967295) ∷ alone (sectioned (row zeros 3 10 ∷ [])) ∷ alone (sectioned (row zeros 3 1 ∷ row (id 1) 3 7 ∷ [])) ∷ alone
    (basic 1) ∷ []

-- added up from the front and from the back, from version 1 on: the same rows, one of them saturated, in tables with just enough room
pub added_up : map (λ (b : List HeldRemoval). add_all 1 b (holding_rows None (tables_of three))) (batch ∷ reverse batch ∷ [])
    ≡ replicate 2 (gives (sectioned (row zeros 3 11 ∷ row zeros 65535 4294967295 ∷ row (id 1) 3 7 ∷ [])) (tables_of three))
unfolding add_all summed leaving proper_rows rows_of records_of epochs_of counts_of ids_of parts_of ascends order add_row joined basic_plus any_of_zeros
    without_zeros same
added_up = refl

-- ---- where nothing saturates

-- pairs of removals that meet at a pair of identifier and epoch, or do not, up to the limit and past it
pub saturating :
    exact (sectioned (row zeros 3 4294967295 ∷ [])) (sectioned (row zeros 4 1 ∷ []))
    ∷ exact (sectioned (row zeros 3 4294967295 ∷ [])) (sectioned (row zeros 3 0 ∷ []))
    ∷ exact (sectioned (row zeros 3 4294967295 ∷ [])) (sectioned (row zeros 3 1 ∷ []))
    ∷ exact (basic 4294967295) (sectioned (row zeros 65535 1 ∷ []))
    ∷ exact (basic 4294967295) (basic 1)
    ∷ []
    ≡ true ∷ true ∷ false ∷ false ∷ false ∷ []
unfolding sum_fits bytes_at order
saturating = refl
