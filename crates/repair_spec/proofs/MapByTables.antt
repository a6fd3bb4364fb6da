-- The two tables by epoch, once all records have marked them, hold the map that is left: drawn together they are its records.
-- Assumes nothing.
use Prim.Native.Nat.{ℕ, zero, suc, ◌+◌, ◌-◌, ◌≤◌, ◌<◌}
use native.Mathlib.Omega.{arith}
use mathlib.Core.Path.{◌≡◌, refl, sym, ap, ◌∙◌}
use mathlib.Core.Bool.{Bool, true, false, cond, ◌&&◌}
use Rattle.std.specs.Prelude.{Option}
use mathlib.Core.List.{List, [], ◌∷◌}
use borrow.Author.Tests.{lt-ltb, eq-eqb, eqb-true, ltb-true, ltb-false}
use lib.Dec.{ltb, eqb}
use lib.ListN.{length, get_or, set}
use lib.Seq.{get_or-set_same, get_or-set_other}
use Rattle.records_spec.specs.Tables.{At, epochs_of, ascending, has, held}
use Rattle.records_spec.proofs.Rising.{Side, side, lower, equal, higher, asc_none, asc_cons}
use Rattle.records_spec.proofs.Held.{has_none, has_passes, held_passes, has_above}
use Rattle.records_spec.specs.declared.head.Kind.{Kind}
use Rattle.codec_spec.specs.Theorems.{Canonical}
use Rattle.repair_spec.specs.Olds.{Old}
use Rattle.repair_spec.specs.Standing.{old_fits, map_onto, map_of}
use Rattle.repair_spec.specs.Inner.Steps.{marks, gathered, Blank}
use Rattle.repair_spec.specs.Limits.{last_epoch, all_epochs}
use Rattle.repair_spec.specs.Theorems.{Chain}
use Rattle.repair_spec.proofs.Marks.{marked_long}
use Rattle.repair_spec.proofs.Gathering.{gathered_end, gathered_skip, gathered_take}
use Rattle.repair_spec.proofs.Holding.{with, has_with, held_with, Short, map_canonical}
use Rattle.repair_spec.proofs.ByTable.{marked}

-- ---- what the tables say of an epoch

-- what f reads of a table's place for the epoch e is what `read` finds in the map
module _ {A : Type 0} (base e : ℕ) (give : Old → ℕ) (f : ℕ → A) (read : List At → A)
    (step : (o : Old) (m : List At) → 1 ≤ o.offset → read (with base o m) ≡ cond (old_fits base o && eqb e o.epoch) (f (give o)) (read m)) where
  marked_read : (o : Old) (t : List ℕ) → o.epoch < length t
      → f (get_or (marked give base o t) e 0) ≡ cond (old_fits base o && eqb e o.epoch) (f (give o)) (f (get_or t e 0))
  marked_read o t h = by (old_fits base o) (eqb e o.epoch) refl
    where
      by : (b c : Bool) → eqb e o.epoch ≡ c → f (get_or (cond b (set t o.epoch (give o)) t) e 0) ≡ cond (b && c) (f (give o)) (f (get_or t e 0))
      by false c q = refl
      by true true q = ap (λ (i : ℕ). f (get_or (set t o.epoch (give o)) i 0)) (eqb-true e o.epoch q)
          ∙ ap f (get_or-set_same t o.epoch (give o) 0 h)
      by true false q = ap f (get_or-set_other t o.epoch e (give o) 0
          (λ d. let z : ◌≡◌ {A = Bool} true false = sym (eq-eqb e o.epoch d) ∙ q in let y : ◌≡◌ {A = ℕ} 0 1 = cc in omega arith))

  marks_read : (k : Kind) (d : List ℕ) (at : ℕ) (os : List Old) (c : Option ℕ) (t : List ℕ) (m : List At) → 1 ≤ at → Chain k d at os c → Short os
      → all_epochs ≤ length t
      → f (get_or t e 0) ≡ read m → f (get_or (marks give base t os) e 0) ≡ read (map_onto base m os)
  unfolding marks map_onto
  marks_read k d at [] c t m h ch s l q = q
  marks_read k d at (o ∷ os) c t m h ch s l q =
      marks_read k d (at + o.size) os c (marked give base o t) (with base o m) (omega arith) ch.1 s.1
      (omega (arith, marked_long (old_fits base o) t o.epoch (give o)))
      (marked_read o t (omega (arith, s.0)) ∙ ap (cond (old_fits base o && eqb e o.epoch) (f (give o))) q
      ∙ sym (step o m (omega (arith, ch.0.starts))))

-- ---- drawn together

pub canonical_ascends : (prev : ℕ) (m : List At) → Canonical prev m → ascending prev (epochs_of m) ≡ true
unfolding epochs_of
canonical_ascends prev [] c = asc_none prev
canonical_ascends prev (r ∷ rs) c = asc_cons prev r.epoch (epochs_of rs) c.0 (canonical_ascends r.epoch rs c.3)

-- tables that say of each epoch above prev what the map has there
record Says (ps cs : List ℕ) (prev : ℕ) (m : List At) : Type 0 where
  is_there : (e : ℕ) → prev < e → ltb 0 (get_or ps e 0) ≡ has e m
  counts_it : (e : ℕ) → prev < e → get_or cs e 0 ≡ held e m

module _ (ps cs : List ℕ) where
  -- the same of the next epoch
  says_next : (prev : ℕ) (m : List At) → Says ps cs prev m → Says ps cs (prev + 1) m
  says_next prev m s = record { is_there = λ e h. s.is_there e (omega arith); counts_it = λ e h. s.counts_it e (omega arith) }

  -- behind a record at the next epoch
  says_behind : (prev : ℕ) (r : At) (rs : List At) → r.epoch ≡ prev + 1 → Says ps cs prev (r ∷ rs) → Says ps cs (prev + 1) rs
  says_behind prev r rs q s =
      record {
        is_there = λ e h. s.is_there e (omega arith) ∙ has_passes e r rs (λ d. omega arith);
        counts_it = λ e h. s.counts_it e (omega arith) ∙ held_passes e r rs (λ d. omega arith);
      }

  -- no record at the next epoch
  skipped : (f prev : ℕ) (m : List At) → Says ps cs prev m → has (prev + 1) m ≡ false
      → gathered ps cs (prev + 1) (suc f) ≡ gathered ps cs (prev + 1 + 1) f
  skipped f prev m s h =
      let z = ltb-false 0 (get_or ps (prev + 1) 0) (s.is_there (prev + 1) (omega arith) ∙ h) in
      let l : suc f - 1 ≡ f = omega arith in
      gathered_skip ps cs (prev + 1) (suc f) (omega arith) (omega arith) ∙ ap (gathered ps cs (prev + 1 + 1)) l

  -- one there
  taken : (f prev : ℕ) (r : At) (rs : List At) → r.epoch ≡ prev + 1 → Says ps cs prev (r ∷ rs)
      → gathered ps cs (prev + 1) (suc f) ≡ r ∷ gathered ps cs (prev + 1 + 1) f
  unfolding has held
  taken f prev r rs q s =
      let t = eq-eqb (prev + 1) r.epoch (sym q) in
      let z = ltb-true 0 (get_or ps (prev + 1) 0) (s.is_there (prev + 1) (omega arith) ∙ rw t) in
      let n : get_or cs (prev + 1) 0 ≡ r.bytes = s.counts_it (prev + 1) (omega arith) ∙ rw t in
      let l : suc f - 1 ≡ f = omega arith in
      gathered_take ps cs (prev + 1) (suc f) (omega arith) z ∙ (λ i. (record { epoch = sym q i; bytes = n i }) ∷ gathered ps cs (prev + 1 + 1) (l i))

  -- a map whose epochs are above prev
  drawn : (f prev : ℕ) (m : List At) → prev + 1 + f ≡ all_epochs → Canonical prev m → Says ps cs prev m → gathered ps cs (prev + 1) f ≡ m
  drawn zero prev [] l c s = gathered_end ps cs (prev + 1) 0 refl
  drawn zero prev (r ∷ rs) l c s = absurd (omega (arith, c.0, c.1))
  drawn (suc f) prev [] l c s =
      skipped f prev [] s (has_none (prev + 1)) ∙ drawn f (prev + 1) [] (omega arith) tt (says_next prev [] s)
  drawn (suc f) prev (r ∷ rs) l c s = by (side r.epoch (prev + 1)) (λ p q. drawn f (prev + 1) (r ∷ rs) (omega arith) p q)
      (λ p q. drawn f (prev + 1) rs (omega arith) p q)
    where
      by : Side r.epoch (prev + 1) → (Canonical (prev + 1) (r ∷ rs) → Says ps cs (prev + 1) (r ∷ rs) → gathered ps cs (prev + 1 + 1) f ≡ r ∷ rs)
          → (Canonical (prev + 1) rs → Says ps cs (prev + 1) rs → gathered ps cs (prev + 1 + 1) f ≡ rs) → gathered ps cs (prev + 1) (suc f) ≡ r ∷ rs
      by (lower h) whole behind = absurd (omega (arith, c.0))
      by (equal h) whole behind =
          taken f prev r rs h s ∙ ap (λ (l : List At). r ∷ l) (behind (rw (sym h) c.3) (says_behind prev r rs h s))
      by (higher h) whole behind =
          skipped f prev (r ∷ rs) s (above (r ∷ rs) (h, c.1, c.2, c.3)) ∙ whole (h, c.1, c.2, c.3) (says_next prev (r ∷ rs) s)
        where
          above : (m : List At) → Canonical (prev + 1) m → has (prev + 1) m ≡ false
          above m p = has_above (prev + 1) (prev + 1) m (omega arith) (canonical_ascends (prev + 1) m p)

-- ---- all together

-- THE TABLES DRAWN TOGETHER ARE WHAT IS LEFT
pub drawn_left : (base : ℕ) (k : Kind) (d : List ℕ) (at : ℕ) (os : List Old) (c : Option ℕ) (ps cs : List ℕ) → base ≤ last_epoch → 1 ≤ at
    → Chain k d at os c → Short os → Blank ps → Blank cs
    → gathered (marks (λ (o : Old). o.offset) base ps os) (marks (λ (o : Old). o.count) base cs os) (base + 1) (last_epoch - base) ≡ map_of base os
unfolding held
drawn_left base k d at os c ps cs b h ch s bp bc =
    drawn (marks (λ (o : Old). o.offset) base ps os) (marks (λ (o : Old). o.count) base cs os) (last_epoch - base) base (map_of base os) (omega arith)
    (map_canonical base os s)
    (record {
      is_there = λ e i. marks_read base e (λ (o : Old). o.offset) (ltb 0) (has e) (there_step e) k d at os c ps [] h ch s bp.wide
          (rw (bp.zeros e) (sym (has_none e)));
      counts_it = λ e i. marks_read base e (λ (o : Old). o.count) (λ (n : ℕ). n) (held e) (λ o m l. held_with base e o m) k d at os c cs [] h ch s
          bc.wide (bc.zeros e);
    })
  where
    there_step : (e : ℕ) (o : Old) (m : List At) → 1 ≤ o.offset
        → has e (with base o m) ≡ cond (old_fits base o && eqb e o.epoch) (ltb 0 o.offset) (has e m)
    there_step e o m l = rw (lt-ltb 0 o.offset l) (has_with base e o m)
