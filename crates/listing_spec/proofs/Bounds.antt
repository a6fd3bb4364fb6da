-- What is read of flag bytes is bounded by their number: each record takes three bytes at least, and its line 29 at most.
-- Assumes nothing.
use Prim.Native.Nat.{ℕ, zero, suc, ◌+◌, ◌*◌, ◌^◌, ◌≤◌, ◌<◌}
use native.Mathlib.Decide.{dec_lt}
use native.Mathlib.Omega.{arith}
use mathlib.Core.Path.{◌≡◌, refl}
use mathlib.Core.Bool.{Bool, true, false}
use mathlib.Core.List.{List, [], ◌∷◌, ◌++◌}
use borrow.Author.Tests.{le-leb, lt-leb}
use lib.ListN.{length, take, drop, length-append, length-take, length-drop, get_or-eq_default}
use lib.Seq.{get_or-take, get_or-drop, length-take-le}
use Rattle.fields_spec.specs.Big.{said}
use Rattle.fields_spec.proofs.Bigs.{said_below}
use Rattle.fields_spec.specs.Varint.{largest}
use Rattle.fields_spec.specs.Theorems.{Bytes}
use Rattle.fields_spec.proofs.RoundTrip.{found_inv}
use Rattle.records_spec.specs.Tables.{At}
use Rattle.records_spec.specs.Flags.{Flags, owned, owner_length, owner_if, type_byte, kind_of}
use Rattle.records_spec.specs.Refusals.{number}
use Rattle.records_spec.specs.Outcomes.{refused}
use Rattle.records_spec.proofs.Only.{number_below}
use Rattle.records_spec.specs.declared.head.Kind.{Kind}
use Rattle.records_spec.specs.declared.head.Kind.TheVariants.{SingleEpoch, MultiEpoch, SingleEpochOwned, MultiEpochOwned}
use Rattle.codec_spec.specs.Bytes.{behind_kind, head_size, base_place}
use Rattle.codec_spec.specs.Reading.{Next, bad, good, next, Read, no_flags, some_flags, refused_at, base_in, owner_in, records_in, read}
use Rattle.codec_spec.specs.Calls.{answer}
use Rattle.codec_spec.proofs.Parsing.{next_good, rest, rest_end, rest_bad, Turn, rest_good}
use Rattle.codec_spec.proofs.Settling.{flags_whole}
use Rattle.listing_spec.specs.Text.{ascii, decimal, word_line, owner_line, record_line, record_texts, flags_text, listing}
use Rattle.listing_spec.specs.Inner.Sizes.{longest_owner_line}
use Rattle.listing_spec.specs.Listed.{most_listed, record_places, longest_text, listed}
use Rattle.listing_spec.proofs.Decimals.{length_below}
use Rattle.listing_spec.proofs.Hexes.{length_hex, length_owner}
use Rattle.listing_spec.proofs.Lengths.{length_line, length_record, length_five}

-- ---- the two cases of the text

pub listed_read : (src : List ℕ) → length src ≤ most_listed → listed src ≡ listing (answer (read src))
unfolding listed
listed_read src h = rw (le-leb (length src) most_listed h)

pub listed_long : (src : List ℕ) → most_listed < length src → listed src ≡ ascii "too long\n"
unfolding listed
listed_long src h = rw (lt-leb (length src) most_listed h)

-- ---- records one after another

-- induction over the records from a place on
module _ (d : List ℕ) (P : ℕ → List At → Type 0) (end : (at : ℕ) → P at [])
    (more : (at prev : ℕ) (r : At) (u : ℕ) → next prev (drop at d) ≡ good r u → Turn d at prev r u
    → P (at + u) (rest d (at + u) r.epoch).records → P at (r ∷ (rest d (at + u) r.epoch).records)) where
  by_turns : (f at prev : ℕ) → length d ≤ at + f → P at (rest d at prev).records
  by_turns zero at prev h = rw (rest_end d at prev (omega arith)) (end at)
  by_turns (suc f) at prev h =
      elim (dec_lt at (length d)) [
        | yes i ↦ go i (next prev (drop at d)) refl (by_turns f)
        | no i ↦ rw (rest_end d at prev (omega arith)) (end at)
      ]
    where
      go : at < length d → (n : Next) → next prev (drop at d) ≡ n
          → ((j p : ℕ) → length d ≤ j + f → P j (rest d j p).records) → P at (rest d at prev).records
      go i (bad r) q ih = rw (rest_bad d at prev r i q) (end at)
      go i (good r u) q ih =
          let t = rest_good d at prev r u i q in
          rw t.step (more at prev r u q t (ih (at + u) r.epoch (omega (arith, t.some_bytes))))

-- three bytes a record
few : (d : List ℕ) (at prev : ℕ) → at ≤ length d → at + 3 * length (rest d at prev).records ≤ length d
few d at prev =
    by_turns d (λ (at : ℕ) (rs : List At). at ≤ length d → at + 3 * length rs ≤ length d) (λ at h. omega arith)
    (λ at prev r u q t ih h. omega (arith, ih t.inside, t.some_bytes))
    (length d)
    at
    prev
    (omega arith)

-- ---- bytes

bytes_of_part : (d : List ℕ) → Bytes d → (n at : ℕ) → Bytes (take n (drop at d))
bytes_of_part d b n at i =
    elim (dec_lt i n) [
      | yes h ↦ rw (get_or-take n (drop at d) i 0 h, get_or-drop at d i 0) (b (at + i))
      | no h ↦ rw (get_or-eq_default (take n (drop at d)) 0 {n = i} (omega (arith, length-take n (drop at d)))) (omega arith)
    ]

-- two bytes say a number below 65,536
two_bytes : (d : List ℕ) → Bytes d → (at : ℕ) → at + 2 ≤ length d → said (take 2 (drop at d)) < 65536
two_bytes d b at h =
    rw (length-take-le 2 (drop at d) (omega (arith, length-drop at d))) at (said_below (take 2 (drop at d)) (bytes_of_part d b 2 at))

-- ---- lines

short_line : (r : At) → r.epoch < 65536 → r.bytes ≤ largest → length (record_line r) ≤ 29
short_line r e n =
    omega (
      arith,
      length_record r.epoch r.bytes,
      length_line (ascii " bytes ") r.bytes,
      length_below 4 r.epoch (omega arith),
      length_below 9 r.bytes (omega arith),
    )

short_lines : (d : List ℕ) → Bytes d → (at prev : ℕ) → length (record_texts (rest d at prev).records) ≤ 29 * length (rest d at prev).records
unfolding record_texts
short_lines d b at prev =
    by_turns d (λ (at : ℕ) (rs : List At). length (record_texts rs) ≤ 29 * length rs) (λ at. omega arith)
    (λ at prev r u q t ih.
    let g = next_good prev (drop at d) r u q in
    let e : r.epoch < 65536 = rw g.epoch_is (two_bytes d b at (omega (arith, t.inside, t.some_bytes))) in
    let n : length (record_line r) ≤ 29 = short_line r e (found_inv (drop 2 (drop at d)) r.bytes g.used g.count_is).fits in
    omega (arith, length-append (record_line r) (record_texts (rest d (at + u) r.epoch).records)))
    (length d)
    at
    prev
    (omega arith)

-- ---- flags

head_size_lem : (k : Kind) → base_place k + 2 ≡ head_size k
head_size_lem SingleEpoch = refl
head_size_lem MultiEpoch = refl
head_size_lem SingleEpochOwned = refl
head_size_lem MultiEpochOwned = refl

-- no more records than have room
pub flags_few : (src : List ℕ) (f : Flags) → length src ≤ most_listed → read src ≡ some_flags f → length f.records ≤ record_places
flags_few src f h e =
    let w = flags_whole src f e in
    let k = w.0 in
    let n = few src (head_size k) (base_in k src) w.1.complete.head_inside in
    rw w.1.in_bytes (omega (arith, head_size_lem k))

-- ---- the whole text

type_below : (k : Kind) → type_byte k < 10
type_below SingleEpoch = omega arith
type_below MultiEpoch = omega arith
type_below SingleEpochOwned = omega arith
type_below MultiEpochOwned = omega arith

short_owner : (b : Bool) (d : List ℕ) → length (owner_line (owner_if b (take owner_length d))) ≤ longest_owner_line
short_owner true d = omega (arith, length_owner (take owner_length d), length_hex (take owner_length d), length-take owner_length d)
short_owner false d = omega arith

-- a line of a word and a number of k digits at most
pub short_number : (word : List ℕ) (k n : ℕ) → n < 10 ^ suc k → length (word ++ (decimal n ++ ascii "\n")) ≤ length word + k + 2
short_number word k n h = omega (arith, length_line word n, length_below k n h)

flags_fit : (src : List ℕ) (f : Flags) → Bytes src → length src ≤ most_listed → read src ≡ some_flags f → length (flags_text f) ≤ longest_text
flags_fit src f b h e =
    let w = flags_whole src f e in
    let k = w.0 in
    let base : ℕ = base_in k src in
    let rs = (records_in k src).records in
    let n : length rs ≤ record_places = rw w.1.in_bytes at (flags_few src f h e) in
    let kind : ℕ = type_byte (kind_of (owner_in k src) (length rs)) in
    let below : base < 65536 = two_bytes src b (base_place k) (omega (arith, head_size_lem k, w.1.complete.head_inside)) in
    rw w.1.in_bytes
    (omega (
      arith,
      length_five (word_line "kind " kind) (owner_line (owner_in k src)) (word_line "base " base) (record_texts rs) (word_line "records " (length rs)),
      short_number (ascii "kind ") 0 kind (type_below (kind_of (owner_in k src) (length rs))),
      short_owner (owned k) (drop behind_kind src),
      short_number (ascii "base ") 4 base (omega arith),
      short_lines src b (head_size k) base,
      short_number (ascii "records ") 3 (length rs) (omega arith),
    ))

answer_fits : (src : List ℕ) → Bytes src → length src ≤ most_listed → (x : Read) → read src ≡ x → length (listing (answer x)) ≤ longest_text
answer_fits src b h no_flags e = omega arith
answer_fits src b h (some_flags f) e = flags_fit src f b h e
answer_fits src b h (refused_at r place) e = omega (arith, short_number (ascii "refused ") 1 (number r) (number_below r))

-- the program's output has room for every text
pub listed_fits : (src : List ℕ) → Bytes src → length (listed src) ≤ longest_text
listed_fits src b =
    elim (dec_lt most_listed (length src)) [
      | yes h ↦ rw (listed_long src h) (omega arith)
      | no h ↦ rw (listed_read src (omega arith)) (answer_fits src b (omega arith) (read src) refl)
    ]
