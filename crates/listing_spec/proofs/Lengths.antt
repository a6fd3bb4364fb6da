-- The lengths of lines.
-- Assumes nothing.
use mathlib.Core.Path.{◌≡◌}
use mathlib.Core.List.{List, ◌++◌}
use Prim.Native.Nat.{ℕ, ◌+◌}
use native.Mathlib.Omega.{arith}
use lib.ListN.{length, length-append}
use Rattle.records_spec.specs.Tables.{◌⦂◌}
use Rattle.listing_spec.specs.Text.{ascii, decimal, record_line}

pub length_line : (word : List ℕ) (n : ℕ) → length (word ++ (decimal n ++ ascii "\n")) ≡ length word + length (decimal n) + 1
length_line word n = simp length-append (omega arith)

-- the length of a record's line, by that of its count's part
pub length_record : (e n : ℕ) → length (record_line (e ⦂ n)) ≡ 6 + length (decimal e) + length (ascii " bytes " ++ (decimal n ++ ascii "\n"))
length_record e n = omega (arith, length-append (decimal e) (ascii " bytes " ++ (decimal n ++ ascii "\n")))

-- a text of five parts
pub length_five : (a b c d e : List ℕ) → length (a ++ (b ++ (c ++ (d ++ e)))) ≡ length a + length b + length c + length d + length e
length_five a b c d e = simp length-append (omega arith)
