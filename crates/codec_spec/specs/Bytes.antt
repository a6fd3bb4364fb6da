-- The bytes of flags: kind; owner if owned; base epoch, big-endian; per record the epoch, big-endian, then the count as minimal varint.
-- Assumes nothing.
use Rattle.std.specs.Prelude.{ℕ, ◌+◌, cond, List, [], ◌∷◌, ◌++◌, length}
use Rattle.std.specs.Prelude.{Option, None, Some}
use Rattle.fields_spec.specs.Big.{big}
use Rattle.fields_spec.specs.Varint.{varint}
use Rattle.records_spec.specs.Tables.{At}
use Rattle.records_spec.specs.Flags.{Flags, owned, owner_length, type_byte, kind_of}
use Rattle.records_spec.specs.declared.head.Kind.{Kind}

-- the bytes of a record
abbrev pub record_bytes : At → List ℕ
record_bytes r = big 2 r.epoch ++ varint r.bytes

-- the bytes of records, one after another
unfoldable pub records_bytes : List At → List ℕ
records_bytes [] = []
records_bytes (r ∷ rs) = record_bytes r ++ records_bytes rs

-- the owner if owned
abbrev pub owner_bytes : Option (List ℕ) → List ℕ
owner_bytes None = []
owner_bytes (Some o) = o

-- the bytes before the records
abbrev pub head_bytes : Kind → Option (List ℕ) → ℕ → List ℕ
head_bytes k owner base = type_byte k ∷ (owner_bytes owner ++ big 2 base)

-- the bytes of flags
unfoldable pub bytes_of : Flags → List ℕ
bytes_of f = head_bytes (kind_of f.owner (length f.records)) f.owner f.base ++ records_bytes f.records

-- where what is behind the kind stands: the owner, or the base where there is none
abbrev pub behind_kind : ℕ
behind_kind = 1

-- where what is behind the owner stands: the base
abbrev pub behind_owner : ℕ
behind_owner = behind_kind + owner_length

-- where the base epoch stands
abbrev pub base_place : Kind → ℕ
base_place k = cond (owned k) behind_owner behind_kind

-- the bytes of a head without an owner
abbrev pub unowned_head : ℕ
unowned_head = 3

-- the bytes of a head with an owner
abbrev pub owned_head : ℕ
owned_head = unowned_head + owner_length

-- the number of bytes before the records
abbrev pub head_size : Kind → ℕ
head_size k = cond (owned k) owned_head unowned_head
