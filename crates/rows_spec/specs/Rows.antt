-- Rows of a sectioned removal, and the three lent tables that hold them: document 01, "Removal sums".
-- Assumes nothing.
use Rattle.std.specs.Prelude.{ℕ, ◌≤◌, Bool, true, ◌&&◌, List, [], ◌∷◌, ◌++◌, leb, length, take, get_or, set}
use Rattle.records_spec.specs.Tables.{At, ◌⦂◌, records_of, epochs_of, counts_of, over}
use Rattle.rows_spec.specs.Order.{order, is_less}
use Rattle.std.specs.declared.cmp.Ordering.{Ordering}

-- bytes removed from one epoch, and whose they were
pub record Row : Type 0 where
  pub identifier : List ℕ
  pub part : At

-- a row of these three
abbrev pub row : List ℕ → ℕ → ℕ → Row
row i e n = record { identifier = i; part = e ⦂ n }

-- what rows are ordered by: the identifier, then the epoch
abbrev pub key : Row → List ℕ
key r = r.identifier ++ (r.part.epoch ∷ [])

-- how two rows stand to each other
abbrev pub compared : Row → Row → Ordering
compared a b = order (key a) (key b)

-- a row stands before the first of some rows, if there is one
abbrev pub leads : Row → List Row → Bool
leads a [] = true
leads a (b ∷ rest) = is_less (compared a b)

-- ascending by identifier, then epoch, no pair twice
unfoldable pub ascends : List Row → Bool
ascends [] = true
ascends (a ∷ rest) = leads a rest && ascends rest

-- the rows' identifiers
unfoldable pub ids_of : List Row → List (List ℕ)
ids_of [] = []
ids_of (r ∷ rs) = r.identifier ∷ ids_of rs

-- the rows without their identifiers
unfoldable pub parts_of : List Row → List At
parts_of [] = []
parts_of (r ∷ rs) = r.part ∷ parts_of rs

-- sections under one identifier
unfoldable pub rows_under : List ℕ → List At → List Row
rows_under i [] = []
rows_under i (s ∷ ss) = record { identifier = i; part = s } ∷ rows_under i ss

-- ---- the three tables

-- place by place an identifier, an epoch and a number of bytes
pub record Tables : Type 0 where
  pub ids : List (List ℕ)
  pub epochs : List ℕ
  pub bytes : List ℕ

-- the tables that three slices are
abbrev pub tables : List (List ℕ) → List ℕ → List ℕ → Tables
tables is es bs = record { ids = is; epochs = es; bytes = bs }

-- the tables that three lent slices were as the call began
abbrev pub rows_were : List (List ℕ) → List ℕ → List ℕ → Tables
rows_were is es bs = tables is es bs

-- and as the call leaves them
abbrev pub rows_left : List (List ℕ) → List ℕ → List ℕ → Tables
rows_left is es bs = tables is es bs

-- identifiers and sections, place by place
unfoldable pub rows_of : List (List ℕ) → List At → List Row
rows_of [] ps = []
rows_of (i ∷ is) [] = []
rows_of (i ∷ is) (p ∷ ps) = record { identifier = i; part = p } ∷ rows_of is ps

-- the first n rows
abbrev pub rows_in : ℕ → Tables → List Row
rows_in n t = take n (rows_of t.ids (records_of t.epochs t.bytes))

-- the row at a place
abbrev pub row_at : Tables → ℕ → Row
row_at t i = row (get_or t.ids i []) (get_or t.epochs i 0) (get_or t.bytes i 0)

-- whether all three tables have n places
abbrev pub room_in : ℕ → Tables → Bool
room_in n t = leb n (length t.ids) && (leb n (length t.epochs) && leb n (length t.bytes))

-- n proper rows: they stand in the tables and ascend
unfoldable pub proper_rows : ℕ → Tables → Bool
proper_rows n t = room_in n t && ascends (rows_in n t)

-- rows at the start of the tables, and the places behind them untouched
abbrev pub over_rows : List Row → Tables → Tables
over_rows rs t =
    tables (over (ids_of rs) t.ids) (over (epochs_of (parts_of rs)) t.epochs) (over (counts_of (parts_of rs)) t.bytes)

-- a row at a place, and all else untouched
abbrev pub set_row : Tables → ℕ → Row → Tables
set_row t k r = tables (set t.ids k r.identifier) (set t.epochs k r.part.epoch) (set t.bytes k r.part.bytes)

-- ---- what the functions on rows ask

-- the tables have n places
pub record Room (n : ℕ) (t : Tables) : Type 0 where
  pub ids_long : n ≤ length t.ids
  pub epochs_long : n ≤ length t.epochs
  pub bytes_long : n ≤ length t.bytes
