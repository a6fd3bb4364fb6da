-- What reading an old record answers leads back to the record at a place of the input, and what is found of its varint to the record.
-- Assumes nothing.
use Prim.Native.Nat.{ℕ, suc, ◌+◌, ◌-◌, ◌≤◌, ◌<◌}
use native.Mathlib.Decide.{dec_lt}
use native.Mathlib.Omega.{arith}
use mathlib.Core.Path.{◌≡◌, refl, sym, ap, ◌∙◌}
use mathlib.Core.Bool.{Bool, true, false, cond, ◌&&◌}
use Rattle.std.specs.Prelude.{Option, None, Some}
use mathlib.Core.List.{List}
use borrow.Author.Tests.{le-leb, lt-leb}
use lib.Dec.{leb, eqb}
use lib.ListN.{length, take, drop, length-drop}
use lib.Seq.{drop-drop}
use Rattle.fields_spec.specs.Big.{said}
use Rattle.fields_spec.specs.Varint.{largest, varint, high, value, incomplete, notCanonical, whole, canonical, found}
use Rattle.fields_spec.proofs.Varints.{length_five}
use Rattle.fields_spec.proofs.RoundTrip.{found_inv}
use Rattle.fields_spec.proofs.Places.{found_canonical, found_ten, found_cut}
use Rattle.repair_spec.specs.Olds.{Old, old_at}
use Rattle.repair_spec.specs.Inner.Steps.{count_capped, got_old_of, old_of}
use Rattle.repair_spec.specs.declared.old.GotOld.TheVariants.{Cut, TooLarge, Fits}
use Rattle.repair_spec.proofs.Reading.{old_ten, old_cut, old_there_lem, Turn, rest_more}
use Rattle.repair_spec.proofs.Padding.{capped_small, capped_above, says}

-- ---- forwards

pub got_fits : (o : Old) → o.count ≤ largest → got_old_of (Some o) ≡ Fits o.epoch o.count (o.offset + o.size)
got_fits o h = rw (le-leb o.count largest h)

pub got_large : (o : Old) → largest < o.count → got_old_of (Some o) ≡ TooLarge (o.offset + o.size)
got_large o h = rw (lt-leb o.count largest h)

-- a complete varint is whole or strange
canonical_complete : (v u : ℕ) → canonical v u ≡ incomplete → ⊥
canonical_complete v u = by (leb v largest && eqb (length (varint v)) u)
  where
    by : (b : Bool) → cond b (whole v u) notCanonical ≡ incomplete → ⊥
    by true e = let z : ◌≡◌ {A = ℕ} 0 1 = cc in omega arith
    by false e = let z : ◌≡◌ {A = ℕ} 0 1 = cc in omega arith

strange_complete : incomplete ≡ notCanonical → ⊥
strange_complete e = let z : ◌≡◌ {A = ℕ} 0 1 = cc in omega arith

-- the record at a place, by what is found of its varint
module _ (d : List ℕ) (at : ℕ) (long : at + 2 ≤ length d) where
  -- where the varint stands
  abbrev count_bytes : List ℕ
  count_bytes = drop (at + 2) d

  behind : drop 2 (drop at d) ≡ count_bytes
  behind = drop-drop 2 at d

  two : 2 ≤ length (drop at d)
  two = rw length-drop (omega arith)

  pub at_incomplete : found count_bytes ≡ incomplete → old_at at (drop at d) ≡ None
  at_incomplete e =
      elim (dec_lt (high count_bytes) 10) [
        | yes t ↦
            elim (dec_lt (high count_bytes) (length count_bytes)) [
              | yes l ↦ absurd (canonical_complete (value (take (suc (high count_bytes)) count_bytes)) (suc (high count_bytes))
                  (sym (found_canonical count_bytes (high count_bytes) refl t l) ∙ e))
              | no l ↦ old_cut at (drop at d) two (rw behind (omega arith))
            ]
        | no t ↦ old_ten at (drop at d) two (rw behind (omega arith))
      ]

  -- the record that stands there where the varint is complete
  abbrev pub standing : Old
  standing = record {
    offset = at;
    epoch = said (take 2 (drop at d));
    count = value (take (suc (high count_bytes)) count_bytes);
    size = 3 + high count_bytes;
  }

  at_complete : high count_bytes < 10 → high count_bytes < length count_bytes → old_at at (drop at d) ≡ Some standing
  at_complete t l =
      old_there_lem at (drop at d) two (rw behind t) (rw behind l)
      ∙ ap (λ (xs : List ℕ). Some (record {
        offset = at;
        epoch = said (take 2 (drop at d));
        count = value (take (suc (high xs)) xs);
        size = 3 + high xs;
      })) behind

  -- a complete varint that is not canonical
  pub other_inside : found count_bytes ≡ notCanonical → (high count_bytes < 10) × (high count_bytes < length count_bytes)
  other_inside e =
      elim (dec_lt (high count_bytes) 10) [
        | yes t ↦
            elim (dec_lt (high count_bytes) (length count_bytes)) [
              | yes l ↦ (t, l)
              | no l ↦ absurd (strange_complete (sym (found_cut count_bytes (omega arith)) ∙ e))
            ]
        | no t ↦ absurd (strange_complete (sym (found_ten count_bytes (omega arith)) ∙ e))
      ]

  module _ (e : found count_bytes ≡ notCanonical) (epoch next sum : ℕ) (ee : epoch ≡ said (take 2 (drop at d)))
      (en : next ≡ (at + 2) + suc (high count_bytes)) (es : sum ≡ count_capped (says d (at + 2) next)) where
    there : old_at at (drop at d) ≡ Some standing
    there = at_complete (other_inside e).0 (other_inside e).1

    all_groups : says d (at + 2) next ≡ standing.count
    all_groups = let z : next - (at + 2) ≡ suc (high count_bytes) = omega arith in ap (λ (n : ℕ). value (take n count_bytes)) z

    pub padded_fits : sum ≤ largest → Fits epoch sum next ≡ got_old_of (old_at at (drop at d))
    padded_fits h =
        let s : sum ≡ standing.count = es ∙ capped_small (says d (at + 2) next) (omega arith) ∙ all_groups in
        let n : next ≡ at + standing.size = omega arith in
        (λ z. Fits (ee z) (s z) (n z)) ∙ sym (ap got_old_of there ∙ got_fits standing (omega arith))

    pub padded_large : largest < sum → TooLarge next ≡ got_old_of (old_at at (drop at d))
    padded_large h =
        let n : next ≡ at + standing.size = omega arith in
        ap TooLarge n ∙ sym (ap got_old_of there ∙ got_large standing (omega (arith, capped_above (says d (at + 2) next) (omega arith), all_groups)))

  pub at_whole : (epoch count used next : ℕ) → epoch ≡ said (take 2 (drop at d)) → next ≡ (at + 2) + used → found count_bytes ≡ whole count used
      → Fits epoch count next ≡ got_old_of (old_at at (drop at d))
  at_whole epoch count used next ee en e =
      let a = found_inv count_bytes count used e in
      let five = length_five count a.fits in
      let c : count ≡ standing.count = a.says ∙ ap (λ (n : ℕ). value (take n count_bytes)) a.used in
      let n : next ≡ at + standing.size = omega (arith, a.used) in
      (λ z. Fits (ee z) (c z) (n z))
      ∙ sym (ap got_old_of (at_complete (omega (arith, a.used, a.least)) (omega (arith, a.used, a.inside)))
      ∙ got_fits standing (omega (arith, a.fits)))

-- ---- backwards: at a place of the input

-- a record whose parts are known
old_parts : (o : Old) (at e c s : ℕ) → o.offset ≡ at → o.epoch ≡ e → o.count ≡ c → o.size ≡ s
    → o ≡ record { offset = at; epoch = e; count = c; size = s }
old_parts o at e c s p q r t z = record { offset = p z; epoch = q z; count = r z; size = t z }

pub is_cut : (x : Option Old) → Cut ≡ got_old_of x → x ≡ None
is_cut None e = refl
is_cut (Some o) e =
    elim (dec_lt largest o.count) [
      | yes h ↦ let f : Cut ≡ TooLarge (o.offset + o.size) = e ∙ got_large o h in let z : ◌≡◌ {A = ℕ} 0 1 = cc in absurd (omega arith)
      | no h ↦ let f : Cut ≡ Fits o.epoch o.count (o.offset + o.size) = e ∙ got_fits o (omega arith) in let z : ◌≡◌ {A = ℕ} 0 1 = cc in
          absurd (omega arith)
    ]

-- a record whose count is too large, and the place behind it
pub record Large (x : Option Old) (next : ℕ) : Type 0 where
  pub old : Old
  pub is : x ≡ Some old
  pub large : largest < old.count
  pub behind : next ≡ old.offset + old.size

pub is_large : (x : Option Old) (next : ℕ) → TooLarge next ≡ got_old_of x → Large x next
is_large None next e = let z : ◌≡◌ {A = ℕ} 0 1 = cc in absurd (omega arith)
is_large (Some o) next e =
    elim (dec_lt largest o.count) [
      | yes h ↦ let f : TooLarge next ≡ TooLarge (o.offset + o.size) = e ∙ got_large o h in record { old = o; is = refl; large = h; behind = cc }
      | no h ↦ let f : TooLarge next ≡ Fits o.epoch o.count (o.offset + o.size) = e ∙ got_fits o (omega arith) in
          let z : ◌≡◌ {A = ℕ} 0 1 = cc in absurd (omega arith)
    ]

-- a record whose count fits
pub record Fitting (x : Option Old) (e c next : ℕ) : Type 0 where
  pub old : Old
  pub is : x ≡ Some old
  pub small : old.count ≤ largest
  pub epoch_is : old.epoch ≡ e
  pub count_is : old.count ≡ c
  pub behind : next ≡ old.offset + old.size

pub is_fitting : (x : Option Old) (e c next : ℕ) → Fits e c next ≡ got_old_of x → Fitting x e c next
is_fitting None e c next q = let z : ◌≡◌ {A = ℕ} 0 1 = cc in absurd (omega arith)
is_fitting (Some o) e c next q =
    elim (dec_lt largest o.count) [
      | yes h ↦ let f : Fits e c next ≡ TooLarge (o.offset + o.size) = q ∙ got_large o h in let z : ◌≡◌ {A = ℕ} 0 1 = cc in absurd (omega arith)
      | no h ↦
          let f : Fits e c next ≡ Fits o.epoch o.count (o.offset + o.size) = q ∙ got_fits o (omega arith) in
          record { old = o; is = refl; small = omega arith; epoch_is = cc; count_is = cc; behind = cc }
    ]

-- the same with the turn that it makes
module _ (d : List ℕ) (at : ℕ) (more : at < length d) where
  pub large_turn : (next : ℕ) (l : Large (old_at at (drop at d)) next) → Turn d at l.old × (next ≡ at + l.old.size)
  large_turn next l =
      let t = rest_more d at l.old more l.is in
      (t, omega (arith, l.behind, t.starts))

  pub fitting_turn : (e c next : ℕ) → Fitting (old_at at (drop at d)) e c next
      → Turn d at (old_of at e c next) × (next ≡ at + (old_of at e c next).size) × (c ≤ largest)
  fitting_turn e c next f =
      let t = rest_more d at f.old more f.is in
      let s : f.old.size ≡ next - at = omega (arith, f.behind, t.starts) in
      let o : f.old ≡ old_of at e c next = old_parts f.old at e c (next - at) t.starts f.epoch_is f.count_is s in
      (rw o at t, omega (arith, f.behind, t.starts), omega (arith, f.small, f.count_is))
