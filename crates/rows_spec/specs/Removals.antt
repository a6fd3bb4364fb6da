-- Removals: document 01, "Removal sums". A removal's kind, with its number or row count, is one field of a small state;
-- its rows stand beside it in three lent tables.
-- Assumes nothing.
use Rattle.std.specs.Prelude.{ℕ, ◌+◌, Bool, true, false, cond, List, [], ◌∷◌, ltb, length}
use Rattle.rows_spec.specs.Rows.{Row, Tables, rows_in, proper_rows}
use Rattle.rows_spec.specs.declared.removed.Removed.{Removed}
use Rattle.rows_spec.specs.declared.removed.Removed.TheVariants.{None, Basic, Sectioned}

-- none, one number, or rows
pub data Removal : Type 0 where
  nothing : Removal
  basic : ℕ → Removal
  sectioned : List Row → Removal

-- the removal that a state and its tables stand for
abbrev pub removal_in : Removed → Tables → Removal
removal_in None t = nothing
removal_in (Basic n) t = basic n
removal_in (Sectioned n) t = sectioned (rows_in n t)

-- proper: the rows are; a removal without rows is
abbrev pub proper_in : Removed → Tables → Bool
proper_in None t = true
proper_in (Basic n) t = true
proper_in (Sectioned n) t = proper_rows n t

-- a removal as a call is given it: its state, and the tables that hold its rows
pub record HeldRemoval : Type 0 where
  pub state : Removed
  pub rows : Tables

-- of these two
abbrev pub holding_rows : Removed → Tables → HeldRemoval
holding_rows s t = record { state = s; rows = t }

-- the removal that it is
abbrev pub removal_of : HeldRemoval → Removal
removal_of x = removal_in x.state x.rows

-- whether it is proper
abbrev pub proper_removal : HeldRemoval → Bool
proper_removal x = proper_in x.state x.rows

-- the rows of a removal
abbrev pub rows_of_removal : Removal → List Row
rows_of_removal nothing = []
rows_of_removal (basic n) = []
rows_of_removal (sectioned rs) = rs

-- the state of a removal
abbrev pub state_of : Removal → Removed
state_of nothing = None
state_of (basic n) = Basic n
state_of (sectioned rs) = Sectioned (length rs)

-- ---- what was removed

-- the bytes of all rows
unfoldable pub total_rows : List Row → ℕ
total_rows [] = 0
total_rows (r ∷ rs) = r.part.bytes + total_rows rs

-- all bytes of a removal
abbrev pub total : Removal → ℕ
total nothing = 0
total (basic n) = n
total (sectioned rs) = total_rows rs

-- whether some row's bytes are not 0
unfoldable pub any_bytes : List Row → Bool
any_bytes [] = false
any_bytes (r ∷ rs) = cond (ltb 0 r.part.bytes) true (any_bytes rs)

-- whether the number, or some row's bytes, is not 0
abbrev pub has_bytes : Removal → Bool
has_bytes nothing = false
has_bytes (basic n) = ltb 0 n
has_bytes (sectioned rs) = any_bytes rs
