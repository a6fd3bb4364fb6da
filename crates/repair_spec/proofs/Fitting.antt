-- Which old records fit, which come again, and what becomes of each: the tests of the definitions, case by case. Assumes nothing.
use Prim.Native.Nat.{ℕ, ◌≤◌, ◌<◌}
use native.Mathlib.Decide.{dec_lt}
use native.Mathlib.Omega.{arith}
use mathlib.Core.Path.{◌≡◌, refl, ap, ◌∙◌}
use mathlib.Core.Bool.{Bool, true, false, cond, ◌&&◌, and-false, and-eq-true_iff}
use Rattle.std.specs.Prelude.{Option, None, Some}
use mathlib.Core.List.{List, [], ◌∷◌, ◌++◌, append_assoc}
use lib.Dec.{leb, ltb, eqb}
use borrow.Author.Tests.{lt-ltb, le-ltb, le-leb, lt-leb, eq-eqb, ne_eqb, ltb-true, ltb-false, leb-true, eqb-true}
use Rattle.fields_spec.specs.Varint.{largest}
use Rattle.records_spec.specs.Tables.{At, ◌⦂◌, put}
use Rattle.repair_spec.specs.Olds.{Old}
use Rattle.repair_spec.specs.Standing.{old_fits, map_onto}
use Rattle.repair_spec.specs.Changes.{Line, again, some_above, dropped, kept_lines, record_lines, keeping, lines_after}
use Rattle.repair_spec.specs.Theorems.{OldFits}
use Rattle.repair_spec.specs.declared.change.Change.{Change}
use Rattle.repair_spec.specs.declared.change.Change.TheVariants.{TooLarge, NotAboveBase, Replaced}
use Rattle.repair_spec.proofs.Either.{neither, first_holds}

-- ---- one record

module _ (base : ℕ) (o : Old) where
  pub fits_yes : OldFits base o → old_fits base o ≡ true
  fits_yes f = simp (le-leb o.count largest f.small, lt-ltb base o.epoch f.above)

  pub fits_inv : old_fits base o ≡ true → OldFits base o
  fits_inv e =
      let p = (and-eq-true_iff (leb o.count largest) (ltb base o.epoch)).0 e in
      record { small = leb-true o.count largest p.0; above = ltb-true base o.epoch p.1 }

  pub fits_cases : {P : Type 0} → (OldFits base o → P) → (old_fits base o ≡ false → P) → P
  fits_cases {P} y n = by (old_fits base o) refl
    where
      by : (b : Bool) → old_fits base o ≡ b → P
      by true e = y (fits_inv e)
      by false e = n e

  -- what becomes of a record, by whether a later one replaces it
  pub data Fate (replaced : Bool) : Type 0 where
    too_large : largest < o.count → dropped base replaced o ≡ Some TooLarge → old_fits base o ≡ false → Fate replaced
    too_low : o.count ≤ largest → o.epoch ≤ base → dropped base replaced o ≡ Some NotAboveBase → old_fits base o ≡ false → Fate replaced
    comes_again : OldFits base o → replaced ≡ true → dropped base replaced o ≡ Some Replaced → Fate replaced
    stays : OldFits base o → replaced ≡ false → dropped base replaced o ≡ None → Fate replaced

  module _ (replaced : Bool) where
    pub dropped_large : largest < o.count → dropped base replaced o ≡ Some TooLarge
    dropped_large h = simp (lt-ltb largest o.count h)

    pub dropped_low : o.count ≤ largest → o.epoch ≤ base → dropped base replaced o ≡ Some NotAboveBase
    dropped_low h l = simp (le-ltb largest o.count h, le-leb o.epoch base l)

    pub dropped_fits : OldFits base o → dropped base replaced o ≡ cond replaced (Some Replaced) None
    dropped_fits f = simp (le-ltb largest o.count f.small, lt-leb o.epoch base f.above)

    pub fate : Fate replaced
    fate =
        elim (dec_lt largest o.count) [
          | yes h ↦ too_large h (dropped_large h) (simp (lt-leb o.count largest h))
          | no h ↦
              elim (dec_lt base o.epoch) [
                | yes l ↦ by replaced refl (record { small = omega arith; above = l })
                | no l ↦ too_low (omega arith) (omega arith) (dropped_low (omega arith) (omega arith))
                    (simp (le-ltb base o.epoch (omega arith), and-false))
              ]
        ]
      where
        by : (b : Bool) → replaced ≡ b → OldFits base o → Fate replaced
        by true e f = comes_again f e (dropped_fits f ∙ ap (λ (b : Bool). cond b (Some Replaced) None) e)
        by false e f = stays f e (dropped_fits f ∙ ap (λ (b : Bool). cond b (Some Replaced) None) e)

-- ---- the records behind it

pub again_none : (base e : ℕ) → again base e [] ≡ false
unfolding again
again_none base e = refl

module _ (base e : ℕ) (o : Old) (os : List Old) where
  pub again_here : OldFits base o → e ≡ o.epoch → again base e (o ∷ os) ≡ true
  unfolding again
  again_here f h = simp (fits_yes base o f, eq-eqb e o.epoch h)

  pub again_past : (e ≡ o.epoch → ⊥) → again base e (o ∷ os) ≡ again base e os
  unfolding again
  again_past h = simp (ne_eqb e o.epoch h, and-false)

  -- neither the first nor one behind it
  pub again_no : again base e (o ∷ os) ≡ false → ((old_fits base o && eqb e o.epoch) ≡ false) × (again base e os ≡ false)
  unfolding again
  again_no = neither (old_fits base o && eqb e o.epoch) (again base e os)

  -- the first, where none behind it is one
  pub again_yes : again base e (o ∷ os) ≡ true → again base e os ≡ false → OldFits base o × (e ≡ o.epoch)
  unfolding again
  again_yes h n =
      let p = (and-eq-true_iff (old_fits base o) (eqb e o.epoch)).0 (first_holds (old_fits base o && eqb e o.epoch) (again base e os) h n) in
      (fits_inv base o p.0, eqb-true e o.epoch p.1)

-- ---- the lines of a record and of those behind it

module _ (base : ℕ) (before : List ℕ) (o : Old) (os : List Old) where
  -- of a kept record
  pub lines_kept : dropped base (again base o.epoch os) o ≡ None
      → lines_after base before (o ∷ os) ≡ kept_lines (some_above o.epoch before) o ++ lines_after base (o.epoch ∷ before) os
  unfolding lines_after
  lines_kept e = ap (λ (x : Option Change). record_lines x (some_above o.epoch before) o ++ lines_after base (keeping x o before) os) e

  -- with what follows them all
  pub lines_on : (ls : List Line)
      → lines_after base before (o ∷ os) ++ ls
      ≡ record_lines (dropped base (again base o.epoch os) o) (some_above o.epoch before) o
      ++ (lines_after base (keeping (dropped base (again base o.epoch os) o) o before) os ++ ls)
  unfolding lines_after
  lines_on ls = append_assoc (record_lines (dropped base (again base o.epoch os) o) (some_above o.epoch before) o) _ ls

pub lines_none : (base : ℕ) (before : List ℕ) → lines_after base before [] ≡ []
unfolding lines_after
lines_none base before = refl

-- ---- epochs of those before

-- none of these epochs is above e
abbrev pub Under : ℕ → List ℕ → Type 0
Under e xs = some_above e xs ≡ false

pub under_none : (e : ℕ) → Under e []
unfolding some_above
under_none e = refl

pub under_cons : (e x : ℕ) (xs : List ℕ) → x ≤ e → Under e xs → Under e (x ∷ xs)
unfolding some_above
under_cons e x xs h u = simp (le-ltb e x h) u

under_inv : (e x : ℕ) (xs : List ℕ) → Under e (x ∷ xs) → (x ≤ e) × Under e xs
unfolding some_above
under_inv e x xs u = let p = neither (ltb e x) (some_above e xs) u in (ltb-false e x p.0, p.1)

-- nor above what is higher
pub under_more : (e f : ℕ) (xs : List ℕ) → e ≤ f → Under e xs → Under f xs
under_more e f [] h u = under_none f
under_more e f (x ∷ xs) h u =
    let p = under_inv e x xs u in
    under_cons f x xs (omega (arith, p.0)) (under_more e f xs h p.1)

-- ---- the map

pub map_none : (base : ℕ) (m : List At) → map_onto base m [] ≡ m
unfolding map_onto
map_none base m = refl

module _ (base : ℕ) (m : List At) (o : Old) (os : List Old) where
  pub map_fits : OldFits base o → map_onto base m (o ∷ os) ≡ map_onto base (put (o.epoch ⦂ o.count) m) os
  unfolding map_onto
  map_fits f = simp (fits_yes base o f)

  pub map_not : old_fits base o ≡ false → map_onto base m (o ∷ os) ≡ map_onto base m os
  unfolding map_onto
  map_not h = simp h
