-- Flags, and the head by value that stands for them beside the two lent tables: document 01, "Flags and their bytes".
-- Assumes nothing.
use Rattle.std.specs.Prelude.{ℕ, Bool, true, false, cond, ◌&&◌, List, [], ◌∷◌, leb, eqb, length, take, replicate}
use Rattle.std.specs.Prelude.{Option, None, Some}
use Rattle.records_spec.specs.Tables.{At, records_of, ascending}
use Rattle.records_spec.specs.declared.head.Kind.{Kind}
use Rattle.records_spec.specs.declared.head.Kind.TheVariants.{SingleEpoch, MultiEpoch, SingleEpochOwned, MultiEpochOwned}
use Rattle.records_spec.specs.declared.head.Head.{Head}

-- the base epoch, the owner or none, and the records; of proper flags these tell the kind
pub record Flags : Type 0 where
  pub base : ℕ
  pub owner : Option (List ℕ)
  pub records : List At

-- flags of these three
abbrev pub flags : ℕ → Option (List ℕ) → List At → Flags
flags base owner records = record { base = base; owner = owner; records = records }

-- ---- kinds

-- kinds 2 and 3 have an owner
abbrev pub owned : Kind → Bool
owned SingleEpoch = false
owned MultiEpoch = false
owned SingleEpochOwned = true
owned MultiEpochOwned = true

-- kinds 1 and 3 have records
abbrev pub multi : Kind → Bool
multi SingleEpoch = false
multi MultiEpoch = true
multi SingleEpochOwned = false
multi MultiEpochOwned = true

-- the kind's number, which is byte 0
abbrev pub type_byte : Kind → ℕ
type_byte SingleEpoch = 0
type_byte MultiEpoch = 1
type_byte SingleEpochOwned = 2
type_byte MultiEpochOwned = 3

-- the kind that a byte names, if it is at most 3
abbrev pub kind_of_byte : ℕ → Option Kind
kind_of_byte b =
    cond (eqb b 0) (Some SingleEpoch)
    (cond (eqb b 1) (Some MultiEpoch) (cond (eqb b 2) (Some SingleEpochOwned) (cond (eqb b 3) (Some MultiEpochOwned) None)))

-- the kind of flags with this owner and this number of records
abbrev pub kind_of : Option (List ℕ) → ℕ → Kind
kind_of None n = cond (eqb n 0) SingleEpoch MultiEpoch
kind_of (Some o) n = cond (eqb n 0) SingleEpochOwned MultiEpochOwned

-- ---- owners

-- the bytes of an owner
abbrev pub owner_length : ℕ
owner_length = 32

-- as many zeros, where there is no owner
abbrev pub zeros : List ℕ
zeros = replicate owner_length 0

-- the owner, if there is one
abbrev pub owner_if : Bool → List ℕ → Option (List ℕ)
owner_if true o = Some o
owner_if false o = None

-- the owner's bytes, or zeros
abbrev pub id_of : Option (List ℕ) → List ℕ
id_of None = zeros
id_of (Some o) = o

-- whether two owners are the same, byte for byte
unfoldable pub same : List ℕ → List ℕ → Bool
same [] [] = true
same [] (y ∷ ys) = false
same (x ∷ xs) [] = false
same (x ∷ xs) (y ∷ ys) = eqb x y && same xs ys

-- ---- heads

-- the owner of a head; the owner bytes of an unowned one are not read
abbrev pub owner_of : Head → Option (List ℕ)
owner_of h = owner_if (owned h.kind) h.owner

-- the head of flags with n records
abbrev pub head_for : ℕ → Option (List ℕ) → ℕ → Head
head_for base owner n = record { kind = kind_of owner n; base = base; owner = id_of owner; records = n }

-- the head of flags
abbrev pub head_of : Flags → Head
head_of f = head_for f.base f.owner (length f.records)

-- no flags at all
abbrev pub no_head : Head
no_head = head_for 0 None 0

-- owned flags change their owner; others stay
abbrev pub with_owner : Head → List ℕ → Head
with_owner h o = cond (owned h.kind) (record { kind = h.kind; base = h.base; owner = o; records = h.records }) h

-- ---- a head with its tables

-- two tables that are lent for records
pub record Lent : Type 0 where
  pub epochs : List ℕ
  pub counts : List ℕ

-- of these two
abbrev pub lending : List ℕ → List ℕ → Lent
lending es cs = record { epochs = es; counts = cs }

-- flags as a call is given them, and leaves them: a head, and the two tables beside it
pub record Held : Type 0 where
  pub head : Head
  pub epochs : List ℕ
  pub counts : List ℕ

-- of these three
abbrev pub holding : Head → List ℕ → List ℕ → Held
holding h es cs = record { head = h; epochs = es; counts = cs }

-- two tables beside no flags
abbrev pub blank : Lent → Held
blank t = holding no_head t.epochs t.counts

-- the flags that a head and its tables stand for
abbrev pub flags_of : Held → Flags
flags_of f =
    flags f.head.base (owner_of f.head) (records_of (take f.head.records f.epochs) (take f.head.records f.counts))

-- kinds 1 and 3 have at least one record, kinds 0 and 2 none
abbrev pub agrees : Kind → ℕ → Bool
agrees k n = cond (multi k) (leb 1 n) (eqb n 0)

-- proper flags: the kind agrees with having records, both tables hold them, epochs strictly ascending and all above the base
unfoldable pub proper : Held → Bool
proper f =
    let n = f.head.records in
    agrees f.head.kind n && (leb n (length f.epochs) && (leb n (length f.counts) && ascending f.head.base (take n f.epochs)))
