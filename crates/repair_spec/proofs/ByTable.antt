-- The lines by the table of offsets are the lines of the definition: the table has a record's offset exactly where no later one that
-- fits has its epoch, and the highest kept epoch says whether some kept one is above. By cases on the records. Assumes nothing.
use Prim.Native.Nat.{ℕ, ◌+◌, ◌≤◌, ◌<◌}
use native.Mathlib.Decide.{dec_lt}
use native.Mathlib.Omega.{arith}
use mathlib.Core.Path.{◌≡◌, refl, sym, ap, ap₂, subst, ◌∙◌}
use mathlib.Core.Bool.{Bool, true, false, cond, not, ◌&&◌}
use Rattle.std.specs.Prelude.{Option, None, Some}
use mathlib.Core.List.{List, [], ◌∷◌, ◌++◌}
use borrow.Author.Tests.{lt-ltb, le-ltb, eq-eqb, ne_eqb}
use lib.Dec.{ltb, eqb}
use lib.ListN.{length, get_or, set, length-set}
use lib.Seq.{get_or-set_same, get_or-set_other}
use Rattle.records_spec.specs.declared.head.Kind.{Kind}
use Rattle.repair_spec.specs.Olds.{Old}
use Rattle.repair_spec.specs.Standing.{old_fits}
use Rattle.repair_spec.specs.Changes.{Line, again, some_above, dropped, record_lines, keeping, lines_after}
use Rattle.repair_spec.specs.Inner.Steps.{marks, higher, lines_by}
use Rattle.repair_spec.specs.Limits.{all_epochs}
use Rattle.repair_spec.specs.declared.change.Change.{Change}
use Rattle.repair_spec.specs.Theorems.{Link, Chain, OldFits}
use Rattle.repair_spec.proofs.Fitting.{fits_yes, Fate, too_large, too_low, comes_again, stays, fate, dropped_large, dropped_low}
use Rattle.repair_spec.proofs.Fitting.{again_none, again_no, again_yes}
use Rattle.repair_spec.proofs.Holding.{Short}
use Rattle.repair_spec.proofs.Marks.{marked_long}

no_true : ◌≡◌ {A = Bool} true false → ⊥
no_true e = let z : ◌≡◌ {A = ℕ} 0 1 = cc in omega arith

-- a table with a record's mark, if this fits
abbrev pub marked : (Old → ℕ) → ℕ → Old → List ℕ → List ℕ
marked give base o t = cond (old_fits base o) (set t o.epoch (give o)) t

-- a record's offset
abbrev offset : Old → ℕ
offset o = o.offset

-- ---- what the table has at an epoch

module _ (base e : ℕ) where
  -- one that does not fit, or has another epoch, leaves the table there
  mark_beside : (give : Old → ℕ) (t : List ℕ) (o : Old) → (old_fits base o && eqb e o.epoch) ≡ false → get_or (marked give base o t) e 0 ≡ get_or t e 0
  mark_beside give t o q = by (old_fits base o) refl
    where
      by : (b : Bool) → old_fits base o ≡ b → get_or (cond b (set t o.epoch (give o)) t) e 0 ≡ get_or t e 0
      by false p = refl
      by true p =
          let n : eqb e o.epoch ≡ false = sym (ap (λ (x : Bool). x && eqb e o.epoch) p) ∙ q in
          get_or-set_other t o.epoch e (give o) 0 (λ d. no_true (sym (eq-eqb e o.epoch d) ∙ n))

  -- where no record comes again, the table stands
  pub marks_beside : (give : Old → ℕ) (t : List ℕ) (os : List Old) → again base e os ≡ false → get_or (marks give base t os) e 0 ≡ get_or t e 0
  unfolding marks
  marks_beside give t [] h = refl
  marks_beside give t (o ∷ os) h =
      let s = again_no base e o os h in
      marks_beside give (marked give base o t) os s.1 ∙ mark_beside give t o s.0

  -- where one comes again, the table has an offset from the first record on
  marks_later : (k : Kind) (d : List ℕ) (lo : ℕ) (os : List Old) (c : Option ℕ) (t : List ℕ) → all_epochs ≤ length t → Chain k d lo os c → Short os
      → again base e os ≡ true
      → lo ≤ get_or (marks offset base t os) e 0
  unfolding marks
  marks_later k d lo [] c t l ch s h = absurd (no_true (sym h ∙ again_none base e))
  marks_later k d lo (o ∷ os) c t l ch s h =
      let m : all_epochs ≤ length (marked offset base o t) = omega (arith, marked_long (old_fits base o) t o.epoch o.offset) in
      by (again base e os) refl (marks_later k d (lo + o.size) os c (marked offset base o t) m ch.1 s.1)
    where
      by : (a : Bool) → again base e os ≡ a → (again base e os ≡ true → lo + o.size ≤ get_or (marks offset base (marked offset base o t) os) e 0)
          → lo ≤ get_or (marks offset base (marked offset base o t) os) e 0
      by true q later = omega (arith, later q)
      by false q later =
          let f = again_yes base e o os h q in
          let v : get_or (marked offset base o t) e 0 ≡ o.offset =
          ap₂ (λ (b : Bool) (i : ℕ). get_or (cond b (set t o.epoch o.offset) t) i 0) (fits_yes base o f.0) f.1
          ∙ get_or-set_same t o.epoch o.offset 0 (omega (arith, s.0)) in
          omega (arith, marks_beside offset (marked offset base o t) os q, ch.0.starts)

-- the table has a record's offset exactly where it does not come again
stands : (base : ℕ) (k : Kind) (d : List ℕ) (o : Old) (os : List Old) (c : Option ℕ) (t : List ℕ) → all_epochs ≤ length t
    → Chain k d o.offset (o ∷ os) c → Short (o ∷ os) → OldFits base o
    → not (eqb (get_or (marks offset base t (o ∷ os)) o.epoch 0) o.offset) ≡ again base o.epoch os
unfolding marks
stands base k d o os c t l ch s f = rw (fits_yes base o f) (by (again base o.epoch os) refl)
  where
    by : (a : Bool) → again base o.epoch os ≡ a
        → not (eqb (get_or (marks offset base (set t o.epoch o.offset) os) o.epoch 0) o.offset) ≡ again base o.epoch os
    by true e =
        let m = marks_later base o.epoch k d (o.offset + o.size) os c (set t o.epoch o.offset)
        (omega (arith, length-set t o.epoch o.offset)) ch.1 s.1 e in
        rw (e, ne_eqb (get_or (marks offset base (set t o.epoch o.offset) os) o.epoch 0) o.offset (λ d. omega (arith, ch.0.some_bytes)))
    by false e =
        let m = marks_beside base o.epoch offset (set t o.epoch o.offset) os e
        ∙ get_or-set_same t o.epoch o.offset 0 (omega (arith, s.0)) in
        rw (e, eq-eqb (get_or (marks offset base (set t o.epoch o.offset) os) o.epoch 0) o.offset m)

-- ---- the highest kept epoch

-- it says whether some kept epoch is above
abbrev Highest : List ℕ → ℕ → Type 0
Highest before h = (e : ℕ) → some_above e before ≡ ltb e h

highest_kept : (x : Option Change) (o : Old) (before : List ℕ) (h : ℕ) → Highest before h → Highest (keeping x o before) (higher x o h)
unfolding some_above
highest_kept (Some c) o before h s e = s e
highest_kept None o before h s e = rw (s e) (by (dec_lt e o.epoch) (dec_lt o.epoch h))
  where
    by : Dec (e < o.epoch) → Dec (o.epoch < h) → cond (ltb e o.epoch) true (ltb e h) ≡ ltb e (cond (ltb o.epoch h) h o.epoch)
    by (yes p) (yes q) = rw (lt-ltb e o.epoch p, lt-ltb o.epoch h q, lt-ltb e h (omega arith))
    by (yes p) (no q) = rw (lt-ltb e o.epoch p, le-ltb o.epoch h (omega arith), lt-ltb e o.epoch p)
    by (no p) (yes q) = rw (le-ltb e o.epoch (omega arith), lt-ltb o.epoch h q)
    by (no p) (no q) = rw (
      le-ltb e o.epoch (omega arith),
      le-ltb o.epoch h (omega arith),
      le-ltb e h (omega arith),
      le-ltb e o.epoch (omega arith),
    )

highest_none : Highest [] 0
unfolding some_above
highest_none e = sym (le-ltb e 0 (omega arith))

-- ---- the lines

-- whether and why a record is dropped, by the table as by the definition
dropped_same : (base : ℕ) (k : Kind) (d : List ℕ) (o : Old) (os : List Old) (c : Option ℕ) (t : List ℕ) → all_epochs ≤ length t
    → Chain k d o.offset (o ∷ os) c → Short (o ∷ os)
    → dropped base (not (eqb (get_or (marks offset base t (o ∷ os)) o.epoch 0) o.offset)) o ≡ dropped base (again base o.epoch os) o
dropped_same base k d o os c t l ch s = by (fate base o (again base o.epoch os))
  where
    table : Bool
    table = not (eqb (get_or (marks offset base t (o ∷ os)) o.epoch 0) o.offset)

    fitting : OldFits base o → dropped base table o ≡ dropped base (again base o.epoch os) o
    fitting f = ap (λ (b : Bool). dropped base b o) (stands base k d o os c t l ch s f)

    by : Fate base o (again base o.epoch os) → dropped base table o ≡ dropped base (again base o.epoch os) o
    by (too_large h p n) = dropped_large base o table h ∙ sym p
    by (too_low h l p n) = dropped_low base o table h l ∙ sym p
    by (comes_again f q p) = fitting f
    by (stays f q p) = fitting f

lines_same : (base : ℕ) (k : Kind) (d : List ℕ) (at : ℕ) (os : List Old) (c : Option ℕ) (t : List ℕ) (before : List ℕ) (h : ℕ) → all_epochs ≤ length t
    → Chain k d at os c → Short os → Highest before h
    → lines_by base (marks offset base t os) h os ≡ lines_after base before os
unfolding lines_by lines_after marks
lines_same base k d at [] c t before h l ch s g = refl
lines_same base k d at (o ∷ os) c t before h l ch s g =
    let ch' : Chain k d o.offset (o ∷ os) c = subst (λ (i : ℕ). Link d i o × Chain k d (i + o.size) os c) (sym ch.0.starts) ch in
    let x = dropped base (again base o.epoch os) o in
    let m : all_epochs ≤ length (marked offset base o t) = omega (arith, marked_long (old_fits base o) t o.epoch o.offset) in
    ap₂ (λ (y : Option Change) (b : Bool). record_lines y b o ++ lines_by base (marks offset base (marked offset base o t) os) (higher y o h) os)
    (dropped_same base k d o os c t l ch' s) (sym (g o.epoch))
    ∙ ap (λ (ls : List Line). record_lines x (some_above o.epoch before) o ++ ls)
    (lines_same base k d (at + o.size) os c (marked offset base o t) (keeping x o before) (higher x o h) m ch.1 s.1
    (highest_kept x o before h g))

-- THE LINES BY THE TABLE ARE THOSE OF THE DEFINITION
pub by_table : (base : ℕ) (k : Kind) (d : List ℕ) (at : ℕ) (os : List Old) (c : Option ℕ) (t : List ℕ) → all_epochs ≤ length t → Chain k d at os c
    → Short os
    → lines_by base (marks (λ (o : Old). o.offset) base t os) 0 os ≡ lines_after base [] os
by_table base k d at os c t l ch s = lines_same base k d at os c t [] 0 l ch s highest_none
