-- How much room an answer needs: no more bytes than were given, and one line for every two bytes. Assumes nothing.
use Prim.Native.Nat.{ℕ, suc, ◌+◌, ◌*◌, ◌^◌, ◌≤◌, ◌<◌}
use native.Mathlib.Omega.{arith}
use mathlib.Core.Path.{◌≡◌, ap}
use mathlib.Core.Bool.{Bool, true, false, cond}
use Rattle.std.specs.Prelude.{Option, None, Some}
use mathlib.Core.List.{List, [], ◌∷◌, ◌++◌}
use lib.ListN.{length, take, drop, length-append, length-take}
use Rattle.fields_spec.specs.Varint.{high, value, varint}
use Rattle.fields_spec.proofs.Varints.{length_five}
use Rattle.fields_spec.specs.Theorems.{Bytes}
use Rattle.fields_spec.proofs.Places.{value_below, length_below}
use Rattle.records_spec.specs.Tables.{At, ◌⦂◌, put}
use Rattle.records_spec.specs.Flags.{owned, multi, owner_if, owner_length}
use Rattle.records_spec.specs.Outcomes.{ok}
use Rattle.records_spec.specs.declared.head.Kind.{Kind}
use Rattle.records_spec.proofs.Unions.{put_cases}
use Rattle.codec_spec.specs.Bytes.{record_bytes, records_bytes, owner_bytes, behind_kind, unowned_head, owned_head, head_size, bytes_of}
use Rattle.codec_spec.specs.Reading.{base_in, owner_in}
use Rattle.codec_spec.specs.Sizes.{longest_record}
use Rattle.codec_spec.specs.Theorems.{Canonical}
use Rattle.codec_spec.proofs.Sizing.{length_record, length_records, length_bytes}
use Rattle.repair_spec.specs.Olds.{Old}
use Rattle.repair_spec.specs.Standing.{old_fits, map_onto}
use Rattle.repair_spec.specs.Changes.{record_lines, lines_after, cut_line, again, some_above, dropped, keeping}
use Rattle.repair_spec.specs.Repairing.{Repaired, olds_in, records_left, flags_left, kind_line, lines_of, repaired}
use Rattle.repair_spec.specs.Limits.{last_epoch, longest_flags}
use Rattle.repair_spec.specs.declared.change.Change.TheVariants.{KindChanged}
use Rattle.repair_spec.specs.Theorems.{Link, Chain}
use Rattle.repair_spec.proofs.Reading.{old_inv}
use Rattle.repair_spec.proofs.Chains.{read_chain}
use Rattle.repair_spec.proofs.Columns.{line_if_short}
use Rattle.repair_spec.proofs.KeptLines.{record_few}
use Rattle.repair_spec.proofs.Told.{head_three}
use Rattle.repair_spec.proofs.Holding.{with}
use Rattle.repair_spec.proofs.AnswerRead.{left_canonical, left_proper, Answered, no_bytes, some_bytes, answered}

-- ---- lines

-- the lines of records that stand from a place on, and of the cut
chain_few : (k : Kind) (d : List ℕ) (base : ℕ) (before : List ℕ) (at : ℕ) (os : List Old) (c : Option ℕ) → Chain k d at os c → at ≤ length d
    → at + 2 * length (lines_after base before os ++ cut_line c) ≤ length d + 2
unfolding lines_after
chain_few k d base before at [] None p h = omega arith
chain_few k d base before at [] (Some c) p h = omega arith
chain_few k d base before at (o ∷ os) c p h =
    let x = dropped base (again base o.epoch os) o in
    let ls = record_lines x (some_above o.epoch before) o in
    let ms = lines_after base (keeping x o before) os in
    let i = chain_few k d base (keeping x o before) (at + o.size) os c p.1 p.0.inside in
    omega (
      arith,
      record_few x (some_above o.epoch before) o p.0.some_bytes,
      length-append (ls ++ ms) (cut_line c),
      length-append ls ms,
      length-append ms (cut_line c),
    )

-- TWICE THE LINES ARE AT MOST THE BYTES AND ONE
few_lines : (k : Kind) (xs : List ℕ) → head_size k ≤ length xs → 2 * length (lines_of k xs) ≤ length xs + 1
few_lines k xs h =
    let rest = lines_after (base_in k xs) [] (olds_in k xs).records ++ cut_line (olds_in k xs).cut in
    omega (
      arith,
      chain_few k xs (base_in k xs) [] (head_size k) (olds_in k xs).records (olds_in k xs).cut (read_chain k xs) h,
      length-append (kind_line k (records_left k xs)) rest,
      kind_short (records_left k xs),
      head_three k,
    )
  where
    kind_short : (rs : List At) → length (kind_line k rs) ≤ 1
    kind_short [] = line_if_short (multi k) 0 KindChanged
    kind_short (r ∷ rs) = omega arith

-- ---- bytes

-- a record that is put into a table adds no more than its own bytes
put_longer : (r : At) (rs : List At) → length (records_bytes (put r rs)) ≤ length (record_bytes r) + length (records_bytes rs)
unfolding put records_bytes
put_longer r [] = omega (arith, length-append (record_bytes r) [])
put_longer r (s ∷ ss) =
    let l = length-append (record_bytes s) (records_bytes ss) in
    put_cases (λ (l : List At). length (records_bytes l) ≤ length (record_bytes r) + length (record_bytes s ++ records_bytes ss)) r s ss
    (λ p. omega (arith, length-append (record_bytes r) (record_bytes s ++ records_bytes ss)))
    (λ p. omega (arith, l, length-append (record_bytes r) (records_bytes ss)))
    (λ p. omega (arith, l, length-append (record_bytes s) (records_bytes (put r ss)), put_longer r ss))

-- a record is written in no more bytes than it had
old_written : (d : List ℕ) (at : ℕ) (o : Old) → Link d at o → length (record_bytes (o.epoch ⦂ o.count)) ≤ o.size
old_written d at o l =
    let t = old_inv at (drop at d) o l.there in
    let ys : List ℕ = drop 2 (drop at d) in
    let v : o.count ≡ value (take (suc (high ys)) ys) = ap (λ (x : Old). x.count) t.is in
    let s : o.size ≡ 3 + high ys = ap (λ (x : Old). x.size) t.is in
    let b : value (take (suc (high ys)) ys) < 128 ^ suc (high ys) =
    value_below (suc (high ys)) (take (suc (high ys)) ys) (simp length-take (omega arith)) in
    let m : length (varint o.count) ≤ suc (high ys) = rw v (length_below (high ys) (value (take (suc (high ys)) ys)) b) in
    omega (arith, length_record (o.epoch ⦂ o.count))

with_longer : (base : ℕ) (o : Old) (m : List At)
    → length (records_bytes (with base o m)) ≤ length (record_bytes (o.epoch ⦂ o.count)) + length (records_bytes m)
with_longer base o m = by (old_fits base o)
  where
    by : (b : Bool) → length (records_bytes (cond b (put (o.epoch ⦂ o.count) m) m)) ≤ length (record_bytes (o.epoch ⦂ o.count)) + length
        (records_bytes m)
    by true = put_longer (o.epoch ⦂ o.count) m
    by false = omega arith

-- the map of records that stand from a place on
chain_longer : (k : Kind) (d : List ℕ) (base : ℕ) (at : ℕ) (os : List Old) (c : Option ℕ) (m : List At) → Chain k d at os c → at ≤ length d
    → at + length (records_bytes (map_onto base m os)) ≤ length d + length (records_bytes m)
unfolding map_onto
chain_longer k d base at [] c m p h = omega arith
chain_longer k d base at (o ∷ os) c m p h =
    omega (arith, chain_longer k d base (at + o.size) os c (with base o m) p.1 p.0.inside, with_longer base o m, old_written d at o p.0)

head_longer : (k : Kind) (xs : List ℕ) → unowned_head + length (owner_bytes (owner_in k xs)) ≤ head_size k
head_longer k xs = by (owned k)
  where
    by : (b : Bool) → unowned_head + length (owner_bytes (owner_if b (take owner_length (drop behind_kind xs)))) ≤ cond b owned_head unowned_head
    by true = omega (arith, length-take owner_length (drop behind_kind xs))
    by false = omega arith

left_longer : (k : Kind) (xs : List ℕ) → head_size k ≤ length xs → length (bytes_of (flags_left k xs)) ≤ length xs
unfolding records_bytes
left_longer k xs h =
    omega (
      arith,
      length_bytes (base_in k xs) (owner_in k xs) (records_left k xs),
      length_records (records_left k xs),
      head_longer k xs,
      chain_longer k xs (base_in k xs) (head_size k) (olds_in k xs).records (olds_in k xs).cut [] (read_chain k xs) h,
    )

-- records of 16 bits of epoch and 32 of count, each at an epoch of its own, have at most the longest record's bytes for each epoch
canonical_most : (prev : ℕ) (rs : List At) → Canonical prev rs → prev ≤ last_epoch
    → length (records_bytes rs) + longest_record * prev ≤ longest_record * last_epoch
unfolding records_bytes
canonical_most prev [] c h = omega arith
canonical_most prev (r ∷ rs) c h =
    omega (
      arith,
      c.0,
      canonical_most r.epoch rs c.3 (omega (arith, c.1)),
      length-append (record_bytes r) (records_bytes rs),
      length_record r,
      length_five r.bytes c.2,
    )

left_most : (k : Kind) (xs : List ℕ) → Bytes xs → head_size k ≤ length xs → length (bytes_of (flags_left k xs)) ≤ longest_flags
left_most k xs bs h =
    omega (
      arith,
      length_bytes (base_in k xs) (owner_in k xs) (records_left k xs),
      length_records (records_left k xs),
      head_longer k xs,
      head_most k,
      canonical_most (base_in k xs) (records_left k xs) (left_canonical k xs bs) (omega (arith, (left_proper k xs bs h).base_fits)),
    )
  where
    head_most : (k : Kind) → head_size k ≤ owned_head
    head_most k = by (owned k)
      where
        by : (b : Bool) → cond b owned_head unowned_head ≤ owned_head
        by true = omega arith
        by false = omega arith

-- ---- an answer

-- what holds of no bytes and of bytes of a kind holds of every answer
of_answers : (xs : List ℕ) (r : Repaired) (P : List ℕ → Repaired → Type 0) → P [] (record { bytes = []; lines = [] })
    → ((k : Kind) → head_size k ≤ length xs → P xs (record { bytes = bytes_of (flags_left k xs); lines = lines_of k xs })) → Answered xs r → P xs r
of_answers xs r P none-given some-given (no_bytes e q) = rw (e, q) none-given
of_answers xs r P none-given some-given (some_bytes k a) =
    let q : r ≡ record { bytes = bytes_of (flags_left k xs); lines = lines_of k xs } =
    (λ z. record { bytes = a.bytes_are z; lines = a.lines_are z }) in
    rw q (some-given k a.head_inside)

-- THE ANSWER IS NEVER LONGER THAN THE INPUT
pub never_longer : (xs : List ℕ) (r : Repaired) → repaired xs ≡ ok r → length r.bytes ≤ length xs
never_longer xs r e = of_answers xs r (λ ys a. length a.bytes ≤ length ys) (omega arith) (λ k h. left_longer k xs h) (answered xs r e)

-- AND HAS AT MOST ONE LINE FOR TWO BYTES, rounded up
pub answer_few : (xs : List ℕ) (r : Repaired) → repaired xs ≡ ok r → 2 * length r.lines ≤ length xs + 1
answer_few xs r e = of_answers xs r (λ ys a. 2 * length a.lines ≤ length ys + 1) (omega arith) (λ k h. few_lines k xs h) (answered xs r e)

-- AND IS NEVER LONGER THAN THE LONGEST FLAGS, 458,780 bytes
pub answer_most : (xs : List ℕ) (r : Repaired) → Bytes xs → repaired xs ≡ ok r → length r.bytes ≤ longest_flags
answer_most xs r bs e = of_answers xs r (λ ys a. length a.bytes ≤ longest_flags) (omega arith) (λ k h. left_most k xs bs h) (answered xs r e)
