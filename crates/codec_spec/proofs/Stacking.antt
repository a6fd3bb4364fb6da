-- Blocks of records, each placed after those behind it: what the last block leaves, and what one leaves with the blocks behind it.
-- Assumes nothing.
use Rattle.std.specs.Prelude.{Result, Ok, Err}
use Prim.Native.Nat.{ℕ, ◌+◌, ◌≤◌, ◌<◌}
use native.Mathlib.Omega.{arith}
use mathlib.Core.Path.{◌≡◌, refl, sym, ap, ap₂, ◌∙◌}
use mathlib.Core.Bool.{Bool, true, false}
use Rattle.std.specs.Prelude.{Option, None, Some}
use Rattle.std.proofs.lemmas.Option.{none-some}
use mathlib.Core.List.{List, ◌++◌, append-nil}
use lib.Dec.{eqb}
use lib.ListN.{length, take, drop, length-append, take-append-drop}
use lib.Seq.{sets, length-take-le, length-sets}
use Rattle.fields_spec.proofs.Parts.{sets_append, sets_before}
use Rattle.records_spec.specs.Tables.{At, records_of, epochs_of, counts_of}
use Rattle.records_spec.specs.Inner.Tables.{Placed}
use Rattle.records_spec.specs.Answers.{room_for}
use Rattle.records_spec.specs.declared.refusal.Refusal.TheVariants.{WrongSize, NoRoom}
use Rattle.records_spec.proofs.Answers.{room_both_lem}
use Rattle.records_spec.proofs.Tables.{length_epochs_of, length_counts_of, records_back, take_records, over_first, over_sets, epochs_append}
use Rattle.records_spec.proofs.Tables.{counts_append}
use Rattle.codec_spec.specs.declared.judging.Fault.{Fault}
use Rattle.codec_spec.specs.Reading.{Next, bad, good, next, Parsed, fault_at}
use Rattle.codec_spec.specs.Inner.Blocks.{scan_of, Taken, Filled, filled, filled_from}
use Rattle.codec_spec.proofs.Parsing.{rest, rest_end, rest_bad, rest_good}
use Rattle.codec_spec.proofs.Turns.{scan_some}

-- ---- what is left in each case

module _ (end k : ℕ) (rs : List At) (es cs : List ℕ) where
  pub filled_faulty : (f : Option Fault) (x : Fault) → f ≡ Some x
      → filled (Err x) es cs ≡ filled_from end k f rs es cs
  filled_faulty f x e = sym (ap (λ (g : Option Fault). filled_from end k g rs es cs) e)

  pub filled_short : (f : Option Fault) → f ≡ None → room_for (k + length rs) (length es) (length cs) ≡ false
      → filled (Err (fault_at NoRoom end)) es cs ≡ filled_from end k f rs es cs
  filled_short f e h = sym (ap (λ (g : Option Fault). filled_from end k g rs es cs) e ∙ rw h)

  pub filled_all : (f : Option Fault) (n : ℕ) (es' cs' : List ℕ) → f ≡ None → room_for (k + length rs) (length es) (length cs) ≡ true
      → n ≡ k + length rs → es' ≡ sets es k (epochs_of rs) → cs' ≡ sets cs k (counts_of rs)
      → filled (Ok n) es' cs' ≡ filled_from end k f rs es cs
  filled_all f n es' cs' e h en ee ec =
      (λ i. filled (Ok (en i)) (ee i) (ec i))
      ∙ sym (ap (λ (g : Option Fault). filled_from end k g rs es cs) e ∙ rw h)

  -- records were placed
  pub record Whole (f : Option Fault) (n : ℕ) (es' cs' : List ℕ) : Type 0 where
    pub no_fault : f ≡ None
    pub has_room : room_for (k + length rs) (length es) (length cs) ≡ true
    pub count : n ≡ k + length rs
    pub epochs_set : es' ≡ sets es k (epochs_of rs)
    pub counts_set : cs' ≡ sets cs k (counts_of rs)

  pub filled_whole : (f : Option Fault) (s : Result ℕ Fault) (n : ℕ) (es' cs' : List ℕ) → s ≡ Ok n → filled s es' cs' ≡ filled_from end k f rs es cs
      → Whole f n es' cs'
  filled_whole (Some f) s n es' cs' q e =
      let g : s ≡ Err f = ap (λ (x : Filled). x.scan) e in
      let z : ◌≡◌ {A = ℕ} 0 1 = cc in
      absurd (omega arith)
  filled_whole None s n es' cs' q e = by (room_for (k + length rs) (length es) (length cs)) refl
    where
      by : (b : Bool) → room_for (k + length rs) (length es) (length cs) ≡ b → Whole None n es' cs'
      by true h =
          let g : filled s es' cs' ≡ filled (Ok (k + length rs)) (sets es k (epochs_of rs)) (sets cs k (counts_of rs)) = rw h at e in
          let x : s ≡ Ok (k + length rs) = ap (λ (x : Filled). x.scan) g in
          record {
            no_fault = refl;
            has_room = h;
            count = cc;
            epochs_set = ap (λ (x : Filled). x.epochs) g;
            counts_set = ap (λ (x : Filled). x.counts) g;
          }
      by false h =
          let x : s ≡ Err (fault_at NoRoom end) = ap (λ (x : Filled). x.scan) (rw h at e) in
          let z : ◌≡◌ {A = ℕ} 0 1 = cc in
          absurd (omega arith)

-- a refusal is that of any records with the same fault that end at the same place
pub filled_alike : (end k j : ℕ) (f g : Option Fault) (rs ss : List At) (es cs es' cs' : List ℕ) (s : Result ℕ Fault) (y : Fault)
    → g ≡ f → j + length ss ≡ k + length rs → s ≡ Err y → filled s es' cs' ≡ filled_from end j g ss es cs
    → filled (Err y) es' cs' ≡ filled_from end k f rs es cs
filled_alike end k j f (Some x) rs ss es cs es' cs' s y p q v e =
    ap (λ (t : Result ℕ Fault). filled t es' cs') (sym v) ∙ e ∙ ap (λ (h : Option Fault). filled_from end k h rs es cs) p
filled_alike end k j f None rs ss es cs es' cs' s y p q v e = by (room_for (j + length ss) (length es) (length cs)) refl
  where
    by : (b : Bool) → room_for (j + length ss) (length es) (length cs) ≡ b → filled (Err y) es' cs' ≡ filled_from end k f rs es cs
    by true h =
        let x : s ≡ Ok (j + length ss) = ap (λ (x : Filled). x.scan) (rw h at e) in
        let z : ◌≡◌ {A = ℕ} 0 1 = cc in
        absurd (omega arith)
    by false h =
        ap (λ (t : Result ℕ Fault). filled t es' cs') (sym v)
        ∙ rw h at e
        ∙ filled_short end k rs es cs f (sym p) (ap (λ (n : ℕ). room_for n (length es) (length cs)) (sym q) ∙ h)

-- ---- two passes

-- bytes are left, so without a fault there is a record
pub sound_some : (d : List ℕ) (at prev : ℕ) → at < length d → (rest d at prev).fault ≡ None → 1 ≤ length (rest d at prev).records
sound_some d at prev h e = by (next prev (drop at d)) refl
  where
    by : (x : Next) → next prev (drop at d) ≡ x → 1 ≤ length (rest d at prev).records
    by (bad r) q = absurd (none-some _ (sym (sym (ap (λ (p : Parsed). p.fault) (rest_bad d at prev r h q)) ∙ e)))
    by (good r u) q = omega (arith, ap (λ (p : Parsed). length p.records) (rest_good d at prev r u h q).step)

module _ (end k : ℕ) (f : Option Fault) (rs : List At) (es cs : List ℕ) where
  -- all were judged: one is at fault
  pub judged_faulty : (y : Fault) → (f ≡ None → 1 ≤ length rs) → Err y ≡ scan_of end f (length rs)
      → filled (Err y) es cs ≡ filled_from end k f rs es cs
  judged_faulty y here e = by f refl
    where
      by : (g : Option Fault) → f ≡ g → filled (Err y) es cs ≡ filled_from end k f rs es cs
      by (Some x) q = ap (λ (s : Result ℕ Fault). filled s es cs) (e ∙ ap (λ (g : Option Fault). scan_of end g (length rs)) q)
          ∙ sym (ap (λ (g : Option Fault). filled_from end k g rs es cs) q)
      by None q =
          let l = here q in
          let s : Err y ≡ Ok (length rs) = e ∙ sym (scan_some end (length rs) (length rs) f q refl (λ z. omega arith)) in
          let z : ◌≡◌ {A = ℕ} 0 1 = cc in
          absurd (omega arith)

-- or none is, and so many there are
pub judged_sound : (end : ℕ) (f : Option Fault) (m n : ℕ) → Ok n ≡ scan_of end f m → (f ≡ None) × (n ≡ m)
judged_sound end (Some x) m n e = let z : ◌≡◌ {A = ℕ} 0 1 = cc in absurd (omega arith)
judged_sound end None m n e = by (eqb m 0) refl
  where
    by : (b : Bool) → eqb m 0 ≡ b → (◌≡◌ {A = Option Fault} None None) × (n ≡ m)
    by true q = let s : Ok n ≡ Err (fault_at WrongSize end) = rw q at e in let z : ◌≡◌ {A = ℕ} 0 1 = cc in absurd (omega arith)
    by false q = let s : Ok n ≡ Ok m = rw q at e in (refl, cc)

-- ---- one block

-- numbers were put behind a place, and then those that stand before them
behind : (xs ys l l₁ l' : List ℕ) (k n : ℕ) → length xs ≡ n → l₁ ≡ sets l (k + n) ys → l' ≡ sets l₁ k xs → l' ≡ sets l k (xs ++ ys)
behind xs ys l l₁ l' k n e p q =
    q
    ∙ ap (λ (m : List ℕ). sets m k xs) p
    ∙ sets_before xs ys l k (k + n) (omega arith)
    ∙ ap (λ (i : ℕ). sets (sets l k xs) (k + i) ys) (sym e)
    ∙ sym (sets_append xs ys l k)

module _ {d : List ℕ} {at prev n j e : ℕ} {bes bcs bes' bcs' : List ℕ} (t : Taken d at prev n j e bes bcs bes' bcs') where
  all_records : take n (rest d at prev).records ++ (rest d j e).records ≡ (rest d at prev).records
  all_records =
      ap (λ (l : List At). take n (rest d at prev).records ++ l) (sym t.records_on) ∙ take-append-drop n (rest d at prev).records

  first_long : length (take n (rest d at prev).records) ≡ n
  first_long = length-take-le n (rest d at prev).records t.enough

  -- the block's tables hold them
  pub taken_block : n ≤ length bes → n ≤ length bcs → take n (records_of bes' bcs') ≡ take n (rest d at prev).records
  taken_block he hc =
      let f : List At = take n (rest d at prev).records in
      let le = length_epochs_of f ∙ first_long in
      let lc = length_counts_of f ∙ first_long in
      let ee : take n bes' ≡ epochs_of f = ap (take n) (t.placed.epochs_set ∙ over_sets (epochs_of f) bes (omega arith))
      ∙ over_first (epochs_of f) bes n le in
      let ec : take n bcs' ≡ counts_of f = ap (take n) (t.placed.counts_set ∙ over_sets (counts_of f) bcs (omega arith))
      ∙ over_first (counts_of f) bcs n lc in
      take_records n bes' bcs' ∙ ap₂ records_of ee ec ∙ records_back f

  -- the place behind all
  pub taken_long : (k : ℕ) → k + n + length (rest d j e).records ≡ k + length (rest d at prev).records
  taken_long k =
      omega (arith, first_long, length-append (take n (rest d at prev).records) (rest d j e).records, ap (length {A = At}) all_records)

  -- the last block: nothing is behind it
  module _ (last : length d ≤ j) where
    last_sound : (rest d at prev).fault ≡ None
    last_sound = t.fault_on ∙ ap (λ (p : Parsed). p.fault) (rest_end d j e last)

    last_records : take n (rest d at prev).records ≡ (rest d at prev).records
    last_records =
        sym (append-nil (take n (rest d at prev).records))
        ∙ ap (λ (p : Parsed). take n (rest d at prev).records ++ p.records) (sym (rest_end d j e last))
        ∙ all_records

    -- what is left of it alone is what is left of all
    pub last_filled : (k : ℕ) (es cs : List ℕ) → n ≤ length bes → n ≤ length bcs
        → filled_from j k None (take n (records_of bes' bcs')) es cs ≡ filled_from (length d) k (rest d at prev).fault (rest d at prev).records es cs
    last_filled k es cs he hc =
        let ej : j ≡ length d = omega (arith, t.within) in
        let er = taken_block he hc ∙ last_records in
        λ i. filled_from (ej i) k (sym last_sound i) (er i) es cs

  -- the blocks behind it are placed, and then this one
  module _ (k m : ℕ) (es cs es₁ cs₁ : List ℕ) (w : Whole (length d) (k + n) (rest d j e).records es cs (rest d j e).fault m es₁ cs₁) where
    -- this one has room before them
    pub stacked_room : n ≤ length bes → n ≤ length bcs
        → (k + length (take n (records_of bes' bcs')) ≤ length es₁) × (k + length (take n (records_of bes' bcs')) ≤ length cs₁)
    stacked_room he hc =
        let r : List At = (rest d j e).records in
        let l = ap (length {A = At}) (taken_block he hc) ∙ first_long in
        let b = room_both_lem (k + n + length r) (length es) (length cs) w.has_room in (
          omega (arith, l, b.0, ap length w.epochs_set ∙ length-sets es (k + n) (epochs_of r)),
          omega (arith, l, b.1, ap length w.counts_set ∙ length-sets cs (k + n) (counts_of r)),
        )

    pub stacked : n ≤ length bes → n ≤ length bcs → (i : ℕ) (es' cs' : List ℕ) → Placed (take n (records_of bes' bcs')) k i es₁ cs₁ es' cs'
        → filled (Ok m) es' cs' ≡ filled_from (length d) k (rest d at prev).fault (rest d at prev).records es cs
    stacked he hc i es' cs' q =
        let p : Placed (take n (rest d at prev).records) k i es₁ cs₁ es' cs' = rw (taken_block he hc) at q in
        let f : List At = take n (rest d at prev).records in
        let r : List At = (rest d j e).records in
        let ee = behind (epochs_of f) (epochs_of r) es es₁ es' k n (length_epochs_of f ∙ first_long) w.epochs_set p.epochs_set in
        let ec = behind (counts_of f) (counts_of r) cs cs₁ cs' k n (length_counts_of f ∙ first_long) w.counts_set p.counts_set in
        filled_all (length d) k (rest d at prev).records es cs (rest d at prev).fault m es' cs' (t.fault_on ∙ w.no_fault)
        (ap (λ (i : ℕ). room_for i (length es) (length cs)) (sym (taken_long k)) ∙ w.has_room)
        (w.count ∙ taken_long k)
        (ee ∙ ap (sets es k) (sym (epochs_append f r) ∙ ap epochs_of all_records))
        (ec ∙ ap (sets cs k) (sym (counts_append f r) ∙ ap counts_of all_records))
