-- What the theorems on reading and writing speak of besides: canonical records, proper flags, accepted bytes, numbers that are in their range.
-- Assumes nothing.
use Rattle.std.specs.Prelude.{ℕ, ◌≤◌, ◌<◌, ◌≡◌, Bool, true, false, List, [], ◌∷◌, length, get_or}
use Rattle.std.specs.Prelude.{Option, None, Some}
use Rattle.fields_spec.specs.Varint.{largest}
use Rattle.fields_spec.specs.Theorems.{Bytes}
use Rattle.records_spec.specs.Tables.{At}
use Rattle.records_spec.specs.Flags.{Flags, owner_length}
use Rattle.records_spec.specs.declared.head.Head.{Head}
use Rattle.codec_spec.specs.Bytes.{bytes_of}

-- ---- proper flags

-- records after one at the epoch prev, each number in its range
abbrev pub Canonical : ℕ → List At → Type 0
Canonical prev [] = Unit {0}
Canonical prev (r ∷ rs) = (prev < r.epoch) × (r.epoch < 65536) × (r.bytes ≤ largest) × Canonical r.epoch rs

-- the owner that flags of a kind have: an owner's bytes where the kind is owned
pub data OwnerFits : Bool → Option (List ℕ) → Type 0 where
  unowned : OwnerFits false None
  owner : (o : List ℕ) → length o ≡ owner_length → Bytes o → OwnerFits true (Some o)

-- whether there is an owner
abbrev pub owns : Option (List ℕ) → Bool
owns None = false
owns (Some o) = true

-- each number in its range, an owner's bytes, epochs strictly ascending and above the base
pub record ProperFlags (f : Flags) : Type 0 where
  pub base_fits : f.base < 65536
  pub owner_fits : OwnerFits (owns f.owner) f.owner
  pub records_fit : Canonical f.base f.records

-- ---- the round trip

-- accepted bytes: they are those that are written for the flags, and these are proper
pub record AcceptedBytes (xs : List ℕ) (f : Flags) : Type 0 where
  pub same_bytes : bytes_of f ≡ xs
  pub is_proper : ProperFlags f

-- what the types of a head and its tables say
pub record InRange (h : Head) (es cs : List ℕ) : Type 0 where
  pub base_fits : h.base < 65536
  pub owner_long : length h.owner ≡ owner_length
  pub owner_bytes_lem : Bytes h.owner
  pub epochs_fit : (i : ℕ) → get_or es i 0 < 65536
  pub counts_fit : (i : ℕ) → get_or cs i 0 ≤ largest
