-- Reading flags, as document 01 has it under "Reading `deserialize`". Each fault has the place of its record, or the input's length
-- where no record is at fault. Assumes nothing.
use Rattle.std.specs.Prelude.{ℕ, zero, suc, pred, ◌+◌, cond, List, [], ◌∷◌, ltb, leb, eqb, length, take, drop}
use Rattle.std.specs.Prelude.{Option, None, Some}
use Rattle.fields_spec.specs.Big.{said}
use Rattle.fields_spec.specs.Varint.{Found, incomplete, notCanonical, whole, found}
use Rattle.records_spec.specs.Tables.{At, ◌⦂◌}
use Rattle.records_spec.specs.Flags.{Flags, flags, owned, multi, kind_of_byte, owner_length, owner_if}
use Rattle.records_spec.specs.declared.refusal.Refusal.{Refusal}
use Rattle.records_spec.specs.declared.refusal.Refusal.TheVariants.{UnknownType, WrongSize, NonCanonical}
use Rattle.records_spec.specs.declared.head.Kind.{Kind}
use Rattle.codec_spec.specs.declared.judging.Fault.{Fault}
use Rattle.codec_spec.specs.Bytes.{behind_kind, base_place, head_size}

-- ---- one record

-- what stands where a record is to be read: why it is refused, or the record and its number of bytes
pub data Next : Type 0 where
  bad : Refusal → Next
  good : At → ℕ → Next

-- the epoch e is complete; then the varint decides, then whether e is above the epoch before
abbrev pub with_count : ℕ → ℕ → Found → Next
with_count prev e incomplete = bad WrongSize
with_count prev e notCanonical = bad NonCanonical
with_count prev e (whole n used) = cond (leb e prev) (bad NonCanonical) (good (e ⦂ n) (2 + used))

-- the record at the start of xs, after one at the epoch prev
unfoldable pub next : ℕ → List ℕ → Next
next prev xs = cond (ltb (length xs) 2) (bad WrongSize) (with_count prev (said (take 2 xs)) (found (drop 2 xs)))

-- ---- records one after another, the first fault decides

-- why bytes are refused, and where
abbrev pub fault_at : Refusal → ℕ → Fault
fault_at r place = record { refusal = r; place = place }

-- the first fault, if there is one, and the records before it
pub record Parsed : Type 0 where
  pub fault : Option Fault
  pub records : List At

-- a fault at the place at ends it; a record stands before those that go finds behind it
abbrev pub following : Next → ℕ → (At → ℕ → Parsed) → Parsed
following (bad r) at go = record { fault = Some (fault_at r at); records = [] }
following (good r used) at go = record { fault = (go r used).fault; records = r ∷ (go r used).records }

-- of the bytes from the place at on, of which the first k belong to the record before, at the epoch prev
unfoldable pub parse : ℕ → ℕ → ℕ → List ℕ → Parsed
parse at k prev [] = record { fault = None; records = [] }
parse at (suc k) prev (x ∷ xs) = parse (suc at) k prev xs
parse at zero prev (x ∷ xs) = following (next prev (x ∷ xs)) at (λ r used. parse (suc at) (pred used) r.epoch xs)

-- ---- flags

-- what reading finds: no flags, flags, or why they are refused, with the place
pub data Read : Type 0 where
  no_flags : Read
  some_flags : Flags → Read
  refused_at : Refusal → ℕ → Read

-- records of flags whose bytes end at end: no record is refused too
abbrev pub with_records : ℕ → ℕ → Option (List ℕ) → Option Fault → List At → Read
with_records end base owner (Some f) rs = refused_at f.refusal f.place
with_records end base owner None [] = refused_at WrongSize end
with_records end base owner None (r ∷ rs) = some_flags (flags base owner (r ∷ rs))

-- the base epoch of flags of a kind
abbrev pub base_in : Kind → List ℕ → ℕ
base_in k xs = said (take 2 (drop (base_place k) xs))

-- their owner, if the kind has one
abbrev pub owner_in : Kind → List ℕ → Option (List ℕ)
owner_in k xs = owner_if (owned k) (take owner_length (drop behind_kind xs))

-- the records behind the head
abbrev pub records_in : Kind → List ℕ → Parsed
records_in k xs = parse (head_size k) 0 (base_in k xs) (drop (head_size k) xs)

-- the flags that the bytes hold where nothing is refused
abbrev pub flags_in : Kind → List ℕ → Flags
flags_in k xs = flags (base_in k xs) (owner_in k xs) (records_in k xs).records

-- flags of a kind: byte 0 is not looked at
unfoldable pub read_as : Kind → List ℕ → Read
read_as k xs =
    cond (multi k)
    (cond (leb (head_size k) (length xs))
    (with_records (length xs) (base_in k xs) (owner_in k xs) (records_in k xs).fault (records_in k xs).records)
    (refused_at WrongSize (length xs)))
    (cond (eqb (length xs) (head_size k)) (some_flags (flags (base_in k xs) (owner_in k xs) [])) (refused_at WrongSize (length xs)))

-- flags of the kind that a byte names, if it names one
abbrev pub read_byte : Option Kind → List ℕ → Read
read_byte (Some k) xs = read_as k xs
read_byte None xs = refused_at UnknownType 0

-- flags of the kind that byte 0 names; no bytes are no flags
unfoldable pub read : List ℕ → Read
read [] = no_flags
read (b ∷ xs) = read_byte (kind_of_byte b) (b ∷ xs)
