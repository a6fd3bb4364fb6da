-- What is left of old records, as a map would read them: at each epoch the last record that fits, epochs ascending, and none at or below
-- the base. Assumes nothing.
use Prim.Native.Nat.{ℕ, ◌≤◌, ◌<◌}
use mathlib.Core.Path.{◌≡◌, refl, sym, ap, ◌∙◌}
use mathlib.Core.Bool.{Bool, true, false, cond, ◌&&◌, false≢true}
use mathlib.Core.List.{List, [], ◌∷◌, ◌++◌}
use lib.Dec.{eqb}
use borrow.Author.Tests.{eq-eqb}
use Rattle.fields_spec.specs.Varint.{largest}
use Rattle.records_spec.specs.Tables.{At, ◌⦂◌, put, has, held}
use Rattle.records_spec.proofs.Held.{has_none, has_put, held_put}
use Rattle.records_spec.proofs.Unions.{put_cases}
use Rattle.codec_spec.specs.Theorems.{Canonical}
use Rattle.repair_spec.specs.Olds.{Old}
use Rattle.repair_spec.specs.Standing.{old_fits, map_onto, map_of}
use Rattle.repair_spec.specs.Changes.{again}
use Rattle.repair_spec.specs.Theorems.{OldFits, FitsLast, LastThatFits, LeftAt, nothing_left, last_left}
use Rattle.repair_spec.proofs.Among.{among_first, among_behind}
use Rattle.repair_spec.proofs.Either.{second_holds, first_alone, either_turn}
use Rattle.repair_spec.proofs.Fitting.{fits_yes, fits_cases, again_none, again_here, again_yes, again_no, map_none, map_fits, map_not}

-- ---- one record

-- the map with a record, if this fits
abbrev pub with : ℕ → Old → List At → List At
with base o m = cond (old_fits base o) (put (o.epoch ⦂ o.count) m) m

module _ (base e : ℕ) (o : Old) (m : List At) where
  pub has_with : has e (with base o m) ≡ cond (old_fits base o && eqb e o.epoch) true (has e m)
  has_with = by (old_fits base o)
    where
      by : (b : Bool) → has e (cond b (put (o.epoch ⦂ o.count) m) m) ≡ cond (b && eqb e o.epoch) true (has e m)
      by true = has_put e (o.epoch ⦂ o.count) m
      by false = refl

  pub held_with : held e (with base o m) ≡ cond (old_fits base o && eqb e o.epoch) o.count (held e m)
  held_with = by (old_fits base o)
    where
      by : (b : Bool) → held e (cond b (put (o.epoch ⦂ o.count) m) m) ≡ cond (b && eqb e o.epoch) o.count (held e m)
      by true = held_put e (o.epoch ⦂ o.count) m
      by false = refl

-- ---- all records

module _ (base : ℕ) where
  map_append : (m : List At) (xs ys : List Old) → map_onto base m (xs ++ ys) ≡ map_onto base (map_onto base m xs) ys
  unfolding map_onto
  map_append m [] ys = refl
  map_append m (o ∷ xs) ys = map_append (with base o m) xs ys

  -- there is a record where there was one, or where some record fits
  has_onto : (e : ℕ) (m : List At) (os : List Old) → has e (map_onto base m os) ≡ cond (again base e os) true (has e m)
  unfolding map_onto again
  has_onto e m [] = refl
  has_onto e m (o ∷ os) = has_onto e (with base o m) os
      ∙ rw (has_with base e o m) (sym (either_turn (old_fits base o && eqb e o.epoch) (again base e os) (has e m)))

  -- records that do not fit, or are at other epochs, change nothing
  held_onto : (e : ℕ) (m : List At) (os : List Old) → again base e os ≡ false → held e (map_onto base m os) ≡ held e m
  unfolding map_onto
  held_onto e m [] h = refl
  held_onto e m (o ∷ os) h =
      let p = again_no base e o os h in
      held_onto e (with base o m) os p.1 ∙ held_with base e o m ∙ rw p.0

-- ---- the last record that fits

-- where some record fits and has the epoch, one of these is the last
pub last_there : (base e : ℕ) (os : List Old) → again base e os ≡ true → LastThatFits base e os
last_there base e [] h = absurd (false≢true (sym (again_none base e) ∙ h))
last_there base e (o ∷ os) h = by (again base e os) refl (λ q. last_there base e os q)
  where
    by : (a : Bool) → again base e os ≡ a → (again base e os ≡ true → LastThatFits base e os) → LastThatFits base e (o ∷ os)
    by true q ih = among_behind (FitsLast base e) o os (ih q)
    by false q ih =
        let p = again_yes base e o os h q in
        among_first (FitsLast base e) o os (record { last_fits = p.0; last_epoch_lem = p.1; not_again = q })

-- and where one is the last, there is some
again_behind : (base e : ℕ) (xs : List Old) (o : Old) (later : List Old) → OldFits base o → e ≡ o.epoch → again base e (xs ++ (o ∷ later)) ≡ true
unfolding again
again_behind base e [] o later f h = again_here base e o later f h
again_behind base e (x ∷ xs) o later f h = rw (again_behind base e xs o later f h) (second_holds (old_fits base x && eqb e x.epoch))

pub last_again : (base e : ℕ) (os : List Old) → LastThatFits base e os → again base e os ≡ true
last_again base e os l = rw l.split (again_behind base e l.earlier l.one l.later l.holds.last_fits l.holds.last_epoch_lem)

-- its count is the one that the map holds
pub last_held : (base e : ℕ) (os : List Old) (l : LastThatFits base e os) → held e (map_of base os) ≡ l.one.count
unfolding map_onto
last_held base e os l =
    let o = l.one in
    let m = map_of base l.earlier in
    ap (λ (x : List Old). held e (map_of base x)) l.split
    ∙ ap (held e) (map_append base [] l.earlier (o ∷ l.later))
    ∙ held_onto base e (with base o m) l.later l.holds.not_again
    ∙ held_with base e o m
    ∙ rw (fits_yes base o l.holds.last_fits, eq-eqb e o.epoch l.holds.last_epoch_lem)

-- THE MAP HAS A RECORD EXACTLY WHERE SOME RECORD FITS
pub map_has : (base e : ℕ) (os : List Old) → has e (map_of base os) ≡ again base e os
map_has base e os = has_onto base e [] os ∙ rw (has_none e) (first_alone (again base e os))

-- AND HOLDS THERE THE COUNT OF THE LAST OF THESE
pub left_at : (base e : ℕ) (os : List Old) → LeftAt base e os
left_at base e os = by (again base e os) refl
  where
    by : (b : Bool) → again base e os ≡ b → LeftAt base e os
    by true q = let l = last_there base e os q in last_left l (map_has base e os ∙ q) (last_held base e os l)
    by false q = nothing_left q (map_has base e os ∙ q)

-- ---- it is canonical

-- a record put in keeps records canonical
put_canonical : (b : ℕ) (r : At) (rs : List At) → b < r.epoch → r.epoch < 65536 → r.bytes ≤ largest → Canonical b rs → Canonical b (put r rs)
unfolding put
put_canonical b r [] l h c p = (l, h, c, tt)
put_canonical b r (s ∷ ss) l h c p =
    put_cases (Canonical b) r s ss
    (λ q. (l, h, c, (q, p.1, p.2, p.3)))
    (λ q. (l, h, c, rw q p.3))
    (λ q. (p.0, p.1, p.2, put_canonical s.epoch r ss q h c p.3))

-- every epoch has 16 bits
abbrev pub Short : List Old → Type 0
Short [] = Unit {0}
Short (o ∷ os) = (o.epoch < 65536) × Short os

onto_canonical : (base : ℕ) (m : List At) (os : List Old) → Short os → Canonical base m → Canonical base (map_onto base m os)
onto_canonical base m [] s p = rw (map_none base m) p
onto_canonical base m (o ∷ os) s p =
    fits_cases base o
    (λ f. rw (map_fits base m o os f) (onto_canonical base (put (o.epoch ⦂ o.count) m) os s.1 (put_canonical base (o.epoch ⦂ o.count) m f.above s.0 f.small p)))
    (λ n. rw (map_not base m o os n) (onto_canonical base m os s.1 p))

-- WHAT IS LEFT IS CANONICAL
pub map_canonical : (base : ℕ) (os : List Old) → Short os → Canonical base (map_of base os)
map_canonical base os s = onto_canonical base [] os s tt
