-- A varint as the inner functions answer it.
-- Assumes nothing.
use Rattle.std.specs.Prelude.{ℕ, ◌+◌, ◌≤◌, ◌<◌, Bool, true, false, ◌≡◌, List, take, drop, length, get_or, Result, Ok, Err}
use Rattle.fields_spec.specs.declared.varint.Varint.{Varint}
use Rattle.fields_spec.specs.declared.varint.VarintFault.{VarintFault}
use Rattle.fields_spec.specs.declared.varint.VarintFault.TheVariants.{Incomplete, NotCanonical}
use Rattle.fields_spec.specs.Varint.{high, value, Found, incomplete, notCanonical, whole}

-- a varint found at a place, as judging answers: the place behind it, or the fault with the place of its field
abbrev pub judged_at : ℕ → Found → Result ℕ VarintFault
judged_at at incomplete = Err (Incomplete at)
judged_at at notCanonical = Err (NotCanonical at)
judged_at at (whole v used) = Ok (at + used)

-- the same, as reading answers: what it says, with the place behind it
abbrev pub read_at : ℕ → Found → Result Varint VarintFault
read_at at incomplete = Err (Incomplete at)
read_at at notCanonical = Err (NotCanonical at)
read_at at (whole v used) = Ok (record { count = v; next = at + used })

-- a whole varint stands there
abbrev pub is_whole : Found → Bool
is_whole incomplete = false
is_whole notCanonical = false
is_whole (whole v used) = true

-- k bytes with the top bit set are passed from the place at on
abbrev pub Passed : List ℕ → ℕ → ℕ → Type 0
Passed xs at k = high (drop at xs) ≡ k + high (drop (at + k) xs)

-- and they say v
pub record Begun (xs : List ℕ) (at k v : ℕ) : Type 0 where
  pub passed : Passed xs at k
  pub says : v ≡ value (take k (drop at xs))

-- the varint there ends k bytes behind its first: at least one, and at most nine
pub record Ending (xs : List ℕ) (at k : ℕ) : Type 0 where
  pub passed : Passed xs at k
  pub some : 1 ≤ k
  pub ten : k < 10
  pub inside : at + k < length xs
  pub low : get_or xs (at + k) 0 < 128
