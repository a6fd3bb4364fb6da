-- What is known before anything is written: the tables hold the flags that are left, the head is theirs, and the table of offsets tells
-- the lines. Assumes nothing.
use Prim.Native.Nat.{ℕ, zero, suc, ◌+◌, ◌-◌, ◌≤◌}
use native.Mathlib.Omega.{arith}
use mathlib.Core.Path.{◌≡◌, refl, sym, ap, ap₂, ◌∙◌}
use mathlib.Core.Bool.{Bool, true, false, cond}
use mathlib.Core.List.{List, []}
use lib.Dec.{ltb}
use lib.ListN.{length, get_or, take, drop, replicate, length-replicate}
use Rattle.fields_spec.specs.Big.{said}
use Rattle.fields_spec.specs.Theorems.{Bytes}
use Rattle.records_spec.specs.Tables.{At, epochs_of, counts_of}
use Rattle.records_spec.specs.Inner.Tables.{Placed}
use Rattle.records_spec.specs.Flags.{owned, multi, owner_length, owner_if, head_for, head_of}
use Rattle.records_spec.specs.declared.head.Kind.{Kind}
use Rattle.records_spec.specs.declared.head.Kind.TheVariants.{SingleEpoch, SingleEpochOwned}
use Rattle.records_spec.specs.declared.head.Head.{Head}
use Rattle.records_spec.proofs.Tables.{length_epochs_of, length_counts_of, over_sets, over_first, placed_long}
use Rattle.records_spec.proofs.Proper.{stand_proper, stand_flags}
use Rattle.codec_spec.specs.Bytes.{behind_kind, behind_owner, head_size}
use Rattle.codec_spec.specs.Reading.{base_in, owner_in}
use Rattle.codec_spec.specs.Theorems.{Canonical}
use Rattle.repair_spec.specs.Olds.{Old, Olds}
use Rattle.repair_spec.specs.Standing.{map_onto}
use Rattle.repair_spec.specs.Repairing.{olds_in, extra, records_left, flags_left}
use Rattle.repair_spec.specs.Inner.Steps.{marks, gathered, kind_left, Blank, Settled, Ready}
use Rattle.repair_spec.specs.Limits.{last_epoch, all_epochs}
use Rattle.repair_spec.specs.Theorems.{Chain}
use Rattle.repair_spec.proofs.Reading.{rest}
use Rattle.repair_spec.proofs.Chains.{read_chain}
use Rattle.repair_spec.proofs.Told.{head_three}
use Rattle.repair_spec.proofs.Marks.{marks_long}
use Rattle.repair_spec.proofs.Gathering.{gathered_short}
use Rattle.repair_spec.proofs.ByTable.{by_table}
use Rattle.repair_spec.proofs.Holding.{Short}
use Rattle.repair_spec.proofs.AnswerRead.{chain_short, left_canonical, left_proper}
use Rattle.repair_spec.proofs.MapByTables.{canonical_ascends, drawn_left}

-- ---- the kind of what is left

module _ (k : Kind) (m : multi k ≡ true) where
  left_owned : (n : ℕ) → owned (kind_left k n) ≡ owned k
  left_owned n = by (ltb 0 n) (owned k) refl
    where
      by : (b c : Bool) → owned k ≡ c → owned (cond b k (cond c SingleEpochOwned SingleEpoch)) ≡ c
      by true c q = q
      by false true q = refl
      by false false q = refl

  -- base and owner stand where they stood
  pub left_for : (xs : List ℕ) (n : ℕ) → head_for (base_in (kind_left k n) xs) (owner_in (kind_left k n) xs) n ≡ head_for (base_in k xs) (owner_in k xs) n
  left_for xs n =
      let owner : List ℕ = take owner_length (drop behind_kind xs) in
      ap (λ (b : Bool). head_for (said (take 2 (drop (cond b behind_owner behind_kind) xs))) (owner_if b owner) n) (left_owned n)

-- ---- tables that hold what is left

module _ (k : Kind) (xs : List ℕ) (h : Head) (e : h ≡ head_of (flags_left k xs)) (es cs : List ℕ) where
  -- how many are left
  abbrev many : ℕ
  many = length (records_left k xs)

  pub ready : Canonical (base_in k xs) (records_left k xs) → many ≤ length es → many ≤ length cs → take many es ≡ epochs_of (records_left k xs)
      → take many cs ≡ counts_of (records_left k xs) → Ready k xs h es cs
  ready c le lc te tc =
      record {
        is_proper = rw e (stand_proper (flags_left k xs) es cs te le lc (canonical_ascends (base_in k xs) (records_left k xs) c));
        is_left = rw e (stand_flags (flags_left k xs) es cs te tc);
      }

  -- records that were placed at the start of two tables
  pub placed_ready : (es₀ cs₀ : List ℕ) (m : ℕ) → Canonical (base_in k xs) (records_left k xs) → many ≤ length es₀ → many ≤ length cs₀
      → Placed (records_left k xs) 0 m es₀ cs₀ es cs → Ready k xs h es cs
  placed_ready es₀ cs₀ m c le lc p =
      let l = placed_long p in
      let ne = length_epochs_of (records_left k xs) in
      let nc = length_counts_of (records_left k xs) in
      ready c (omega (arith, l.0)) (omega (arith, l.1))
      (ap (take many) (p.epochs_set ∙ over_sets (epochs_of (records_left k xs)) es₀ (omega arith))
      ∙ over_first (epochs_of (records_left k xs)) es₀ many ne)
      (ap (take many) (p.counts_set ∙ over_sets (counts_of (records_left k xs)) cs₀ (omega arith))
      ∙ over_first (counts_of (records_left k xs)) cs₀ many nc)

-- ---- kinds 0 and 2

module _ (k : Kind) (xs : List ℕ) (m : multi k ≡ false) where
  nothing_left : records_left k xs ≡ []
  unfolding map_onto
  nothing_left = let e : olds_in k xs ≡ extra k xs = rw m in ap (λ (p : Olds). map_onto (base_in k xs) [] p.records) e

  pub single_standing : (ps : List ℕ) (n : ℕ) → head_size k ≤ length xs → n ≡ 0 → Settled k xs ps n
  single_standing ps n h z =
      record {
        head_inside = h;
        wide = λ t. let y : ◌≡◌ {A = ℕ} 0 1 = cc in absurd (omega arith);
        told = λ t. let y : ◌≡◌ {A = ℕ} 0 1 = cc in absurd (omega arith);
        counted = z ∙ sym (ap (length {A = At}) nothing_left);
      }

  pub single_ready : (h : Head) (es cs : List ℕ) → h ≡ head_for (base_in k xs) (owner_in k xs) 0 → Ready k xs h es cs
  unfolding epochs_of counts_of
  single_ready h es cs e =
      let q : h ≡ head_of (flags_left k xs) = e ∙ ap (λ (rs : List At). head_for (base_in k xs) (owner_in k xs) (length rs)) (sym nothing_left) in
      ready k xs h q es cs (rw nothing_left tt) (rw nothing_left (omega arith)) (rw nothing_left (omega arith)) (rw nothing_left) (rw nothing_left)

-- ---- kinds 1 and 3

pub blank_zeros : (n : ℕ) → all_epochs ≤ n → Blank (replicate n 0)
blank_zeros n h = record { wide = omega (arith, length-replicate {A = ℕ} n 0); zeros = zero_at n }
  where
    zero_at : (n i : ℕ) → ◌≡◌ {A = ℕ} (get_or (replicate n 0) i 0) 0
    zero_at zero i = refl
    zero_at (suc n) zero = refl
    zero_at (suc n) (suc i) = zero_at n i

module _ (k : Kind) (xs : List ℕ) (m : multi k ≡ true) (bs : Bytes xs) (long : head_size k ≤ length xs) (base start : ℕ) (eb : base ≡ base_in k xs)
    (es : start ≡ head_size k)
    (ps₀ cs₀ ps cs : List ℕ) (bp : Blank ps₀) (bc : Blank cs₀)
    (ep : ps ≡ marks (λ (o : Old). o.offset) base ps₀ (rest xs start).records)
    (ec : cs ≡ marks (λ (o : Old). o.count) base cs₀ (rest xs start).records) where
  records_are : (rest xs start).records ≡ (olds_in k xs).records
  records_are = ap (λ (i : ℕ). (rest xs i).records) es ∙ rw m

  chain : Chain k xs (head_size k) (olds_in k xs).records (olds_in k xs).cut
  chain = read_chain k xs

  short : Short (olds_in k xs).records
  short = chain_short k xs bs (head_size k) (olds_in k xs).records (olds_in k xs).cut chain

  places_are : ps ≡ marks (λ (o : Old). o.offset) (base_in k xs) ps₀ (olds_in k xs).records
  places_are = ep ∙ ap₂ (λ (b : ℕ) (os : List Old). marks (λ (o : Old). o.offset) b ps₀ os) eb records_are

  counts_are : cs ≡ marks (λ (o : Old). o.count) (base_in k xs) cs₀ (olds_in k xs).records
  counts_are = ec ∙ ap₂ (λ (b : ℕ) (os : List Old). marks (λ (o : Old). o.count) b cs₀ os) eb records_are

  -- the two tables drawn together
  drawn_is : gathered ps cs (base + 1) (last_epoch - base) ≡ records_left k xs
  drawn_is =
      (λ z. gathered (places_are z) (counts_are z) (eb z + 1) (last_epoch - eb z))
      ∙ drawn_left (base_in k xs) k xs (head_size k) (olds_in k xs).records (olds_in k xs).cut ps₀ cs₀
      (omega (arith, (left_proper k xs bs long).base_fits)) (omega (arith, head_three k)) chain short bp bc

  multi_standing : (n : ℕ) → n ≡ length (records_left k xs) → Settled k xs ps n
  multi_standing n e =
      record {
        head_inside = long;
        wide = λ t. omega (arith, ap length places_are, marks_long (λ (o : Old). o.offset) (base_in k xs) ps₀ (olds_in k xs).records, bp.wide);
        told = λ t. rw places_are (by_table (base_in k xs) k xs (head_size k) (olds_in k xs).records (olds_in k xs).cut ps₀ bp.wide chain short);
        counted = e;
      }

  -- the head of what was drawn together, and its tables
  module _ (es₀ : List ℕ) (wide : all_epochs ≤ length es₀) (n : ℕ) (es' cs' : List ℕ)
      (p : Placed (gathered ps cs (base + 1) (last_epoch - base)) 0 n es₀ cs es' cs')
      (k' : Kind) (ek : k' ≡ kind_left k n) (h : Head) (eh : h ≡ head_for (base_in k' xs) (owner_in k' xs) n) where
    counted : n ≡ length (records_left k xs)
    counted = omega (arith, p.behind, ap (length {A = At}) drawn_is)

    few : length (records_left k xs) ≤ last_epoch - base
    few = omega (arith, ap (length {A = At}) drawn_is, gathered_short ps cs (base + 1) (last_epoch - base))

    head_is : h ≡ head_of (flags_left k xs)
    head_is =
        eh ∙ ap (λ (x : Kind). head_for (base_in x xs) (owner_in x xs) n) ek ∙ left_for k m xs n ∙ ap (head_for (base_in k xs) (owner_in k xs)) counted

    multi_ready : Ready k xs h es' cs'
    multi_ready =
        placed_ready k xs h head_is es' cs' es₀ cs n (left_canonical k xs bs) (omega (arith, few))
        (omega (arith, few, ap length counts_are, marks_long (λ (o : Old). o.count) (base_in k xs) cs₀ (olds_in k xs).records, bc.wide))
        (rw drawn_is at p)

    pub settled_ready : Settled k xs ps h.records × Ready k xs h es' cs'
    settled_ready = (multi_standing h.records (ap (λ (x : Head). x.records) head_is), multi_ready)
