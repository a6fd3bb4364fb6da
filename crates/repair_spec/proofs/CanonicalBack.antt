-- Canonical bytes are not changed by repairing: the old records that are read of them are those that reading finds, in ascending order
-- and in as many bytes as they are written, so each is kept where it stands and none has a line. Assumes nothing.
use Prim.Native.Nat.{ℕ, ◌+◌, ◌≤◌, ◌<◌}
use native.Mathlib.Decide.{ℕ_discrete}
use native.Mathlib.Omega.{arith}
use mathlib.Core.Path.{◌≡◌, refl, sym, ap, ◌∙◌}
use mathlib.Core.Bool.{Bool, true, false}
use Rattle.std.specs.Prelude.{Option, None, Some}
use Rattle.std.proofs.lemmas.Option.{none-some, same_Some}
use mathlib.Core.List.{List, [], ◌∷◌, ◌++◌}
use borrow.Author.Tests.{le-ltb, le-leb, leb-true}
use lib.ListN.{length, take, drop}
use Rattle.fields_spec.specs.Varint.{largest, value}
use Rattle.fields_spec.proofs.Varints.{length_five}
use Rattle.fields_spec.specs.Theorems.{Bytes}
use Rattle.fields_spec.proofs.RoundTrip.{found_inv}
use Rattle.records_spec.specs.Tables.{At, ◌⦂◌, put}
use Rattle.records_spec.specs.Flags.{Flags, flags, multi, kind_of_byte}
use Rattle.records_spec.specs.Outcomes.{ok}
use Rattle.records_spec.specs.declared.head.Kind.{Kind}
use Rattle.records_spec.proofs.Unions.{put_past}
use Rattle.codec_spec.specs.Bytes.{record_bytes, head_size, bytes_of}
use Rattle.codec_spec.specs.Reading.{Next, bad, good, next, Parsed, some_flags, base_in, owner_in, records_in, read_as, read_byte, read}
use Rattle.codec_spec.specs.Theorems.{ProperFlags}
use Rattle.codec_spec.proofs.Parsing.{before, rest, rest_end, rest_bad, rest_good, next_good}
use Rattle.codec_spec.proofs.Readings.{single_right, single_wrong}
use Rattle.codec_spec.proofs.Settling.{no_flags_lem, no_refusal, read_whole}
use Rattle.codec_spec.proofs.Sizing.{length_record}
use Rattle.codec_spec.proofs.Canonical.{read_back, read_canonical}
use Rattle.repair_spec.specs.Olds.{Old, old_at}
use Rattle.repair_spec.specs.Standing.{map_onto, map_of}
use Rattle.repair_spec.specs.Changes.{again, lines_after, cut_line}
use Rattle.repair_spec.specs.Repairing.{olds_in, records_left, flags_left, kind_line, lines_of, repaired_as, repaired_byte, repaired}
use Rattle.repair_spec.specs.Theorems.{Link, Ends, Chain, all_read, bytes_left, OldFits}
use Rattle.repair_spec.proofs.Reading.{old_there, old_there_lem}
use Rattle.repair_spec.proofs.Chains.{read_chain}
use Rattle.repair_spec.proofs.Fitting.{dropped_fits, again_none, again_past, lines_none, lines_kept, Under, under_none, under_cons}
use Rattle.repair_spec.proofs.Fitting.{under_more, map_none, map_fits}

-- ---- old records as canonical ones are

-- after one at the epoch prev: ascending, each count of 32 bits, each as long as it would be written
abbrev Plain : ℕ → List Old → Type 0
Plain prev [] = Unit {0}
Plain prev (o ∷ os) = (prev < o.epoch) × (o.count ≤ largest) × (o.size ≡ length (record_bytes (o.epoch ⦂ o.count))) × Plain o.epoch os

-- none comes again
plain_again : (base e prev : ℕ) (os : List Old) → e ≤ prev → Plain prev os → again base e os ≡ false
plain_again base e prev [] h p = again_none base e
plain_again base e prev (o ∷ os) h p = again_past base e o os (λ q. omega arith) ∙ plain_again base e o.epoch os (omega arith) p.3

-- none has a line
plain_lines : (base prev : ℕ) (before : List ℕ) (os : List Old) → base ≤ prev → Under prev before → Plain prev os → lines_after base before os ≡ []
plain_lines base prev before [] h u p = lines_none base before
plain_lines base prev before (o ∷ os) h u p =
    let f : OldFits base o = record { small = p.1; above = omega arith } in
    let v : Under o.epoch before = under_more prev o.epoch before (omega arith) u in
    lines_kept base before o os (dropped_fits base o (again base o.epoch os) f
    ∙ rw (plain_again base o.epoch o.epoch os (omega arith) p.3))
    ∙ simp (v, le-ltb (length (record_bytes (o.epoch ⦂ o.count))) o.size (omega (arith, p.2)))
    (plain_lines base o.epoch (o.epoch ∷ before) os (omega arith) (under_cons o.epoch o.epoch before (omega arith) v) p.3)

-- each is put behind those before it
plain_past : (base prev : ℕ) (r : At) (m : List At) (os : List Old) → base ≤ prev → r.epoch ≤ prev → Plain prev os
    → map_onto base (r ∷ m) os ≡ r ∷ map_onto base m os
plain_past base prev r m [] h l p = map_none base (r ∷ m) ∙ rw (map_none base m)
plain_past base prev r m (o ∷ os) h l p =
    let f : OldFits base o = record { small = p.1; above = omega arith } in
    map_fits base (r ∷ m) o os f
    ∙ ap (λ (x : List At). map_onto base x os) (put_past (o.epoch ⦂ o.count) r m (omega arith))
    ∙ plain_past base o.epoch r _ os (omega arith) (omega arith) p.3
    ∙ ap (λ (x : List At). r ∷ x) (sym (map_fits base m o os f))

-- so the first comes first
plain_first : (base : ℕ) (o : Old) (os : List Old) → base < o.epoch → o.count ≤ largest → Plain o.epoch os
    → map_of base (o ∷ os) ≡ o.epoch ⦂ o.count ∷ map_of base os
unfolding put
plain_first base o os h c p =
    map_fits base [] o os (record { small = c; above = h }) ∙ plain_past base o.epoch (o.epoch ⦂ o.count) [] os (omega arith) (omega arith) p

-- ---- records that are read without a fault

-- the old record where reading finds one
abbrev old_of : ℕ → At → ℕ → Old
old_of at r u = record { offset = at; epoch = r.epoch; count = r.bytes; size = u }

-- what reading finds is the old record, and this is as long as it would be written
record Found (at : ℕ) (xs : List ℕ) (r : At) (u : ℕ) : Type 0 where
  pub small : r.bytes ≤ largest
  pub as_written : u ≡ length (record_bytes r)
  pub is_old : old_at at xs ≡ Some (old_of at r u)

next_old : (at prev : ℕ) (xs : List ℕ) (r : At) (u : ℕ) → next prev xs ≡ good r u → Found at xs r u
next_old at prev xs r u q =
    let g = next_good prev xs r u q in
    let a = found_inv (drop 2 xs) r.bytes g.used g.count_is in
    let five = length_five r.bytes a.fits in
    let e : (old_there at xs).epoch ≡ r.epoch = sym g.epoch_is in
    let c : (old_there at xs).count ≡ r.bytes = ap (λ (n : ℕ). value (take n (drop 2 xs))) (sym a.used) ∙ sym a.says in
    let s : (old_there at xs).size ≡ u = omega (arith, g.size, a.used) in
    record {
      small = a.fits;
      as_written = omega (arith, g.size, a.least, length_record r);
      is_old =
          old_there_lem at xs (omega (arith, g.size, g.inside)) (omega (arith, a.used, a.least)) (omega (arith, a.used, a.inside))
          ∙ (λ i. Some (record { offset = at; epoch = e i; count = c i; size = s i }));
    }

-- old records that are those that reading finds
record Same (base prev : ℕ) (os : List Old) (c : Option ℕ) (p : Parsed) : Type 0 where
  pub uncut : c ≡ None
  pub plain : Plain prev os
  pub same : map_of base os ≡ p.records

module _ (k : Kind) (d : List ℕ) (base : ℕ) (m : multi k ≡ true) where
  -- where nothing is at fault, a record stands there
  no_fault : (at prev : ℕ) → at < length d → (rest d at prev).fault ≡ None → (r : At) × (u : ℕ) × (next prev (drop at d) ≡ good r u)
  no_fault at prev h z = by (next prev (drop at d)) refl
    where
      by : (x : Next) → next prev (drop at d) ≡ x → (r : At) × (u : ℕ) × (next prev (drop at d) ≡ good r u)
      by (bad r) q = absurd (none-some _ (sym (sym (ap (λ (p : Parsed). p.fault) (rest_bad d at prev r h q)) ∙ z)))
      by (good r u) q = (r, u, q)

  same_end : (at prev : ℕ) (c : Option ℕ) → Ends k d at c → (rest d at prev).fault ≡ None → Same base prev [] c (rest d at prev)
  same_end at prev c (all_read h) z = record { uncut = refl; plain = tt; same = map_none base [] ∙ rw (rest_end d at prev h) }
  same_end at prev c (bytes_left h q) z =
      let n = no_fault at prev h z in
      absurd (none-some _ (sym (q m) ∙ (next_old at prev (drop at d) n.0 n.1 n.2).is_old))

  same_more : (at prev : ℕ) (r : At) (u : ℕ) (o : Old) (os : List Old) (c : Option ℕ) → base ≤ prev → next prev (drop at d) ≡ good r u → Link d at o
      → (base ≤ o.epoch → (rest d (at + o.size) o.epoch).fault ≡ None → Same base o.epoch os c (rest d (at + o.size) o.epoch))
      → (rest d at prev).fault ≡ None → Same base prev (o ∷ os) c (rest d at prev)
  same_more at prev r u o os c b q l later z =
      let f = next_old at prev (drop at d) r u q in
      let is : o ≡ old_of at r u = same_Some _ _ (sym l.there ∙ f.is_old) in
      let up : prev < o.epoch = rw is (next_good prev (drop at d) r u q).above in
      let small : o.count ≤ largest = rw is f.small in
      let step : rest d at prev ≡ before (o.epoch ⦂ o.count) (rest d (at + o.size) o.epoch) =
      rw is (rest_good d at prev r u (omega (arith, l.inside, l.some_bytes)) q).step in
      let s = later (omega arith) (sym (ap (λ (p : Parsed). p.fault) step) ∙ z) in
      record {
        uncut = s.uncut;
        plain = (up, small, rw is f.as_written, s.plain);
        same =
            plain_first base o os (omega arith) small s.plain
            ∙ ap (λ (x : List At). o.epoch ⦂ o.count ∷ x) s.same
            ∙ sym (ap (λ (p : Parsed). p.records) step);
      }

  chain_same : (at prev : ℕ) (os : List Old) (c : Option ℕ) → base ≤ prev → Chain k d at os c → (rest d at prev).fault ≡ None
      → Same base prev os c (rest d at prev)
  chain_same at prev [] c b p z = same_end at prev c p z
  chain_same at prev (o ∷ os) c b p z =
      let h : at < length d = omega (arith, p.0.inside, p.0.some_bytes) in
      let n = no_fault at prev h z in
      same_more at prev n.0 n.1 o os c b n.2 p.0 (λ g. chain_same (at + o.size) o.epoch os c g p.1) z

-- ---- flags

-- some records are left: the kind stays
kind_stays : (k : Kind) (rs : List At) → 1 ≤ length rs → kind_line k rs ≡ []
kind_stays k [] h = absurd (omega arith)
kind_stays k (r ∷ rs) h = refl

-- the records that are read are left, and there is no line
record Stays (k : Kind) (xs : List ℕ) (rs : List At) : Type 0 where
  pub left_is : records_left k xs ≡ rs
  pub no_line : lines_of k xs ≡ []

-- the head is inside
pub repaired_long : (k : Kind) (xs : List ℕ) → head_size k ≤ length xs
    → repaired_as k xs ≡ ok (record { bytes = bytes_of (flags_left k xs); lines = lines_of k xs })
unfolding repaired_as
repaired_long k xs h = rw (le-leb (head_size k) (length xs) h)

stays_repaired : (k : Kind) (xs : List ℕ) (f : Flags) (rs : List At) → head_size k ≤ length xs → f ≡ flags (base_in k xs) (owner_in k xs) rs
    → Stays k xs rs
    → repaired_as k xs ≡ ok (record { bytes = bytes_of f; lines = [] })
stays_repaired k xs f rs h e s =
    repaired_long k xs h
    ∙ (λ i. ok (record { bytes = bytes_of (flags (base_in k xs) (owner_in k xs) (s.left_is i)); lines = s.no_line i }))
    ∙ rw e

-- kinds 0 and 2: no extra bytes
stays_single : (k : Kind) (xs : List ℕ) → multi k ≡ false → length xs ≡ head_size k → Stays k xs []
unfolding map_onto lines_after
stays_single k xs m h = record { left_is = rw m; no_line = simp (m, le-ltb (head_size k) (length xs) (omega arith)) }

-- kinds 1 and 3: at least one record, and none at fault
stays_multi : (k : Kind) (xs : List ℕ) → multi k ≡ true → (records_in k xs).fault ≡ None → 1 ≤ length (records_in k xs).records
    → Stays k xs (records_in k xs).records
stays_multi k xs m z h =
    let base = base_in k xs in
    let os = (olds_in k xs).records in
    let s = chain_same k xs base m (head_size k) base os (olds_in k xs).cut (omega arith) (read_chain k xs) z in
    let no_kind : kind_line k (records_left k xs) ≡ [] = kind_stays k (records_left k xs) (rw s.same h) in
    let no_record : lines_after base [] os ≡ [] = plain_lines base base [] os (omega arith) (under_none base) s.plain in
    record { left_is = s.same; no_line = λ i. no_kind i ++ (no_record i ++ cut_line (s.uncut i)) }

as_unchanged : (k : Kind) (xs : List ℕ) (f : Flags) → read_as k xs ≡ some_flags f → repaired_as k xs ≡ ok (record { bytes = bytes_of f; lines = [] })
as_unchanged k xs f e = by (multi k) refl
  where
    by : (b : Bool) → multi k ≡ b → repaired_as k xs ≡ ok (record { bytes = bytes_of f; lines = [] })
    by true m =
        let w = read_whole k xs f e in
        let n : 1 ≤ length (records_in k xs).records = leb-true 1 _ (rw m at w.agrees_kind) in
        stays_repaired k xs f (records_in k xs).records w.complete.head_inside w.in_bytes (stays_multi k xs m w.complete.no_fault n)
    by false m =
        elim (ℕ_discrete (length xs) (head_size k)) [
          | yes h ↦
              let g : some_flags (flags (base_in k xs) (owner_in k xs) []) ≡ some_flags f = sym (single_right k xs m h) ∙ e in
              stays_repaired k xs f [] (omega arith) (cc) (stays_single k xs m h)
          | no h ↦ absurd (no_refusal _ _ f (sym (single_wrong k xs m h) ∙ e))
        ]

-- BYTES THAT READING ACCEPTS ARE WRITTEN AGAIN, with an empty list
pub unchanged : (xs : List ℕ) (f : Flags) → read xs ≡ some_flags f → repaired xs ≡ ok (record { bytes = bytes_of f; lines = [] })
unfolding read repaired
unchanged [] f e = absurd (no_flags_lem f e)
unchanged (b ∷ xs) f e = by (kind_of_byte b) e
  where
    by : (x : Option Kind) → read_byte x (b ∷ xs) ≡ some_flags f → repaired_byte x (b ∷ xs) ≡ ok (record { bytes = bytes_of f; lines = [] })
    by (Some k) e = as_unchanged k (b ∷ xs) f e
    by None e = absurd (no_refusal _ _ f e)

-- the bytes of proper flags come back
pub proper_back : (f : Flags) → ProperFlags f → repaired (bytes_of f) ≡ ok (record { bytes = bytes_of f; lines = [] })
proper_back f p = unchanged (bytes_of f) f (read_back f p)

-- CANONICAL INPUT COMES BACK EQUAL WITH AN EMPTY LIST
pub canonical_back : (xs : List ℕ) (f : Flags) → Bytes xs → read xs ≡ some_flags f → repaired xs ≡ ok (record { bytes = xs; lines = [] })
canonical_back xs f bs e = unchanged xs f e ∙ ap (λ (ys : List ℕ). ok (record { bytes = ys; lines = [] })) (read_canonical xs f bs e).same_bytes

-- no bytes too
pub nothing_back : repaired [] ≡ ok (record { bytes = []; lines = [] })
unfolding repaired
nothing_back = refl
