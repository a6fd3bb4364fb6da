-- The table as a list of structs: its columns, and the structs that rows are.
-- Assumes nothing.
use Rattle.std.specs.Prelude.{ℕ, List, [], ◌∷◌}
use Rattle.rows_spec.specs.Rows.{Row, Tables, tables}
use Rattle.totals_index_spec.specs.declared.structs.Total.{Total}

-- the owners of a table, in order
unfoldable pub owners_of : List Total → List (List ℕ)
owners_of [] = []
owners_of (t ∷ ts) = t.owner ∷ owners_of ts

-- its epochs
unfoldable pub total_epochs_of : List Total → List ℕ
total_epochs_of [] = []
total_epochs_of (t ∷ ts) = t.epoch ∷ total_epochs_of ts

-- its totals
unfoldable pub totals_of : List Total → List ℕ
totals_of [] = []
totals_of (t ∷ ts) = t.total ∷ totals_of ts

-- its three columns
abbrev pub columns : List Total → Tables
columns ts = tables (owners_of ts) (total_epochs_of ts) (totals_of ts)

-- rows as structs
unfoldable pub structs : List Row → List Total
structs [] = []
structs (r ∷ rs) = record { owner = r.identifier; epoch = r.part.epoch; total = r.part.bytes } ∷ structs rs
