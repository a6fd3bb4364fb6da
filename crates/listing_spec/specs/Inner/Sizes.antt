-- What every function that answers a text's length promises.
-- Assumes nothing.
use Rattle.std.specs.Prelude.{ℕ, ◌+◌, ◌*◌, ◌≤◌, ◌≡◌, List, length}
use Rattle.records_spec.specs.Flags.{owner_length}

-- no number of 64 bits has more digits
abbrev pub most_digits : ℕ
most_digits = 20

-- no owner's line is longer: a word, two digits for each byte, and the line end
abbrev pub longest_owner_line : ℕ
longest_owner_line = 7 + 2 * owner_length

-- no record's line is longer: two words, two numbers, and the line end
abbrev pub longest_record_line : ℕ
longest_record_line = 14 + 2 * most_digits

-- n is the length of xs, and at most a bound that keeps sums of lengths small
pub record Sized (xs : List ℕ) (bound n : ℕ) : Type 0 where
  pub counts : n ≡ length xs
  pub bounded : n ≤ bound
