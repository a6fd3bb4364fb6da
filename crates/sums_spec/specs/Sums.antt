-- The sum of two removals: document 01, "Removal sums".
-- Assumes nothing.
use Rattle.std.specs.Prelude.{ℕ, ◌+◌, Bool, true, false, cond, ◌&&◌, List, [], ◌∷◌, leb}
use Rattle.fields_spec.specs.Varint.{largest}
use Rattle.records_spec.specs.Flags.{zeros, same}
use Rattle.rows_spec.specs.Rows.{Row, row, compared}
use Rattle.rows_spec.specs.Removals.{Removal, nothing, basic, sectioned}
use Rattle.rows_spec.specs.Order.{is_equal}
use Rattle.sums_spec.specs.Joins.{capped, add_row, joined}

-- the epoch of bytes of which none is known
abbrev pub unknown_epoch : ℕ
unknown_epoch = 65535

-- the row that a basic number makes, also a basic 0: at 32 zero bytes and epoch 65,535
abbrev pub unknown : ℕ → Row
unknown n = row zeros unknown_epoch n

-- whether a row has the zero identifier
abbrev pub of_zeros : Row → Bool
of_zeros r = same r.identifier zeros

-- whether any row has the zero identifier
unfoldable pub any_of_zeros : List Row → Bool
any_of_zeros [] = false
any_of_zeros (r ∷ rs) = cond (of_zeros r) true (any_of_zeros rs)

-- the rows of other identifiers
unfoldable pub without_zeros : List Row → List Row
without_zeros [] = []
without_zeros (r ∷ rs) = cond (of_zeros r) (without_zeros rs) (r ∷ without_zeros rs)

-- a basic number plus rows: at version 0, if any row has the zero identifier, all of them are lost and the number too; else its row is made
unfoldable pub basic_plus : ℕ → ℕ → List Row → List Row
basic_plus version n rs =
    cond (leb 1 version) (add_row (unknown n) rs) (cond (any_of_zeros rs) (without_zeros rs) (add_row (unknown n) rs))

-- the sum of two removals at a version
abbrev pub sum : ℕ → Removal → Removal → Removal
sum version nothing y = y
sum version (basic m) nothing = basic m
sum version (basic m) (basic n) = basic (capped m n)
sum version (basic m) (sectioned ys) = sectioned (basic_plus version m ys)
sum version (sectioned xs) nothing = sectioned xs
sum version (sectioned xs) (basic n) = sectioned (add_row (unknown n) xs)
sum version (sectioned xs) (sectioned ys) = sectioned (joined xs ys)

-- ---- where nothing saturates

-- the bytes that rows have at a row's pair; 0 where they have none
unfoldable pub bytes_at : Row → List Row → ℕ
bytes_at r [] = 0
bytes_at r (b ∷ bs) = cond (is_equal (compared r b)) b.part.bytes (bytes_at r bs)

-- rows of one pair do not pass 4,294,967,295 together
unfoldable pub sum_fits : List Row → List Row → Bool
sum_fits [] ys = true
sum_fits (x ∷ xs) ys = leb (x.part.bytes + bytes_at x ys) largest && sum_fits xs ys

-- nothing saturates in the sum of two removals
abbrev pub exact : Removal → Removal → Bool
exact nothing y = true
exact (basic m) nothing = true
exact (basic m) (basic n) = leb (m + n) largest
exact (basic m) (sectioned ys) = sum_fits (unknown m ∷ []) ys
exact (sectioned xs) nothing = true
exact (sectioned xs) (basic n) = sum_fits (unknown n ∷ []) xs
exact (sectioned xs) (sectioned ys) = sum_fits xs ys
