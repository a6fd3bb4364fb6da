-- Rows of two removals joined, equal pairs added: document 01, "Removal sums".
-- Assumes nothing.
use Rattle.std.specs.Prelude.{ℕ, ◌+◌, min, List, [], ◌∷◌}
use Rattle.fields_spec.specs.Varint.{largest}
use Rattle.rows_spec.specs.Rows.{Row, row, compared}
use Rattle.std.specs.declared.cmp.Ordering.{Ordering}
use Rattle.std.specs.declared.cmp.Ordering.TheVariants.{Less, Equal, Greater}

-- two numbers of bytes together, at most 4,294,967,295
abbrev pub capped : ℕ → ℕ → ℕ
capped m n = min (m + n) largest

-- a row with another's bytes added
abbrev pub plus : Row → Row → Row
plus a b = row a.identifier a.part.epoch (capped a.part.bytes b.part.bytes)

-- a row that stands so to the first of some rows: before it, into it, or behind it, among what the others are with the row
abbrev pub add_beside : Ordering → Row → Row → List Row → List Row → List Row
add_beside Less r first others more = r ∷ first ∷ others
add_beside Equal r first others more = plus r first ∷ others
add_beside Greater r first others more = first ∷ more

-- a row added to ascending rows
unfoldable pub add_row : Row → List Row → List Row
add_row r [] = r ∷ []
add_row r (b ∷ bs) = add_beside (compared r b) r b bs (add_row r bs)

-- rows joined, equal pairs added
unfoldable pub joined : List Row → List Row → List Row
joined [] ys = ys
joined (x ∷ xs) ys = add_row x (joined xs ys)

-- ---- what the code finds
