-- The number of bytes of records and of flags. Assumes nothing.
use Prim.Native.Nat.{ℕ, suc, ◌+◌, ◌-◌, ◌*◌, ◌≤◌, ◌<◌}
use native.Mathlib.Decide.{dec_lt}
use native.Mathlib.Numerals.{add-one}
use native.Mathlib.Omega.{arith}
use mathlib.Core.Path.{◌≡◌, refl, sym, ◌∙◌}
use Rattle.std.specs.Prelude.{Option}
use mathlib.Core.List.{List, [], ◌∷◌}
use borrow.Author.Tests.{le-leb, lt-leb}
use lib.Dec.{leb}
use lib.ListN.{length, get_or, take, drop, length-append, length-take, drop_of_length-le}
use lib.Seq.{drop-cons}
use Rattle.fields_spec.specs.Big.{big}
use Rattle.fields_spec.specs.Varint.{largest, varint}
use Rattle.fields_spec.proofs.Bigs.{length_big}
use Rattle.fields_spec.proofs.Varints.{length_five}
use Rattle.records_spec.specs.Tables.{At, records_of, counts_of}
use Rattle.records_spec.specs.Flags.{flags, flags_of, owner_of, kind_of, holding}
use Rattle.records_spec.specs.declared.head.Kind.{Kind}
use Rattle.records_spec.specs.declared.head.Head.{Head}
use Rattle.records_spec.proofs.Tables.{counts_records}
use Rattle.records_spec.proofs.Proper.{IsProper}
use Rattle.codec_spec.specs.Bytes.{record_bytes, records_bytes, owner_bytes, head_bytes, bytes_of}
use Rattle.codec_spec.specs.Sizes.{longest_record}
use Rattle.codec_spec.specs.Inner.Sizes.{counts_size}

-- ---- records

-- a count of 32 bits takes five bytes at most, so a record takes seven
pub counts_most : (cs : List ℕ) → ((i : ℕ) → get_or cs i 0 ≤ largest) → counts_size cs ≤ longest_record * length cs
unfolding counts_size
counts_most [] f = omega arith
counts_most (c ∷ cs) f = omega (arith, length_five c (f 0), counts_most cs (λ i. f (suc i)))

-- the sum of the first k, with what the others add, is that of all, and none adds more than the longest record
pub record Summing (cs : List ℕ) (size k : ℕ) : Type 0 where
  pub within : k ≤ length cs
  pub most : size ≤ longest_record * k
  pub whole : size + counts_size (drop k cs) ≡ counts_size cs

pub summing_start : (cs : List ℕ) → Summing cs 0 0
summing_start cs = record { within = omega arith; most = omega arith; whole = omega arith }

module _ {cs : List ℕ} {size k : ℕ} (s : Summing cs size k) where
  -- one more, whichever way its length is found
  pub summing_step : (n : ℕ) → k < length cs → n ≡ length (varint (get_or cs k 0)) → get_or cs k 0 ≤ largest → Summing cs (size + (2 + n)) (k + 1)
  unfolding counts_size
  summing_step n h e f =
      let on : counts_size (drop k cs) ≡ 2 + length (varint (get_or cs k 0)) + counts_size (drop (k + 1) cs) = rw (add-one, drop-cons cs k 0) in
      record {
        within = omega arith;
        most = omega (arith, s.most, length_five (get_or cs k 0) f);
        whole = omega (arith, s.whole);
      }

  pub summing_done : length cs ≤ k → (size ≡ counts_size cs) × (size ≤ longest_record * length cs)
  unfolding counts_size
  summing_done h =
      let none : counts_size (drop k cs) ≡ 0 = rw (drop_of_length-le cs {i = k} h) in
      (omega (arith, s.whole), omega (arith, s.within, s.most))

pub length_record : (r : At) → length (record_bytes r) ≡ 2 + length (varint r.bytes)
length_record r = omega (arith, length-append (big 2 r.epoch) (varint r.bytes), length_big 2 r.epoch)

pub length_records : (rs : List At) → length (records_bytes rs) ≡ counts_size (counts_of rs)
unfolding records_bytes counts_size counts_of
length_records [] = refl
length_records (r ∷ rs) = omega (arith, length-append (record_bytes r) (records_bytes rs), length_record r, length_records rs)

-- ---- flags

pub length_head : (k : Kind) (o : Option (List ℕ)) (base : ℕ) → length (head_bytes k o base) ≡ 3 + length (owner_bytes o)
length_head k o base = omega (arith, length-append (owner_bytes o) (big 2 base), length_big 2 base)

pub length_bytes : (base : ℕ) (o : Option (List ℕ)) (rs : List At)
    → length (bytes_of (flags base o rs)) ≡ 3 + length (owner_bytes o) + counts_size (counts_of rs)
unfolding bytes_of
length_bytes base o rs =
    let k : Kind = kind_of o (length rs) in
    omega (arith, length-append (head_bytes k o base) (records_bytes rs), length_head k o base, length_records rs)

-- both tables hold as many
module _ (h : Head) (es cs : List ℕ) (p : IsProper h es cs) where
  pub held_epochs : length (take h.records es) ≡ h.records
  held_epochs = length-take h.records es ∙ omega (arith, p.epochs_long)

  pub held_counts : length (take h.records cs) ≡ h.records
  held_counts = length-take h.records cs ∙ omega (arith, p.counts_long)

  pub length_flags : length (bytes_of (flags_of (holding h es cs))) ≡ 3 + length (owner_bytes (owner_of h)) + counts_size (take h.records cs)
  length_flags =
      length_bytes h.base (owner_of h) (records_of (take h.records es) (take h.records cs))
      ∙ rw (counts_records (take h.records es) (take h.records cs) (held_epochs ∙ sym held_counts))

-- ---- room

-- what is left of a room holds what the room holds behind the rest
pub leb_left : (a b c : ℕ) → a ≤ c → leb b (c - a) ≡ leb (a + b) c
leb_left a b c h =
    elim (dec_lt (c - a) b) [
      | yes l ↦ lt-leb b (c - a) l ∙ sym (lt-leb (a + b) c (omega arith))
      | no l ↦ le-leb b (c - a) (omega arith) ∙ sym (le-leb (a + b) c (omega arith))
    ]
