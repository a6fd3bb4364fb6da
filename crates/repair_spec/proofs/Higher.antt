-- Kept records before a record: whether some of them has a higher epoch, as the definitions go on from the epochs of those before, and
-- that this says what it should. Assumes nothing.
use Prim.Native.Nat.{ℕ}
use mathlib.Core.Path.{◌≡◌, refl}
use mathlib.Core.Logic.{◌↔◌}
use mathlib.Core.Bool.{Bool, true, false, cond, not, ◌&&◌, and-eq-true_iff, false≢true}
use mathlib.Core.List.{List, [], ◌∷◌, ◌++◌}
use lib.Dec.{ltb}
use borrow.Author.Tests.{lt-ltb, ltb-true, not-true}
use Rattle.repair_spec.specs.Olds.{Old}
use Rattle.repair_spec.specs.Standing.{old_fits}
use Rattle.repair_spec.specs.Changes.{again, some_above, dropped, keeping}
use Rattle.repair_spec.specs.Theorems.{is_kept, higher_kept, KeptAbove, HigherKept}
use Rattle.repair_spec.proofs.Among.{among_first, among_behind}
use Rattle.repair_spec.proofs.Either.{second_holds}
use Rattle.repair_spec.proofs.Fitting.{fits_yes, fits_inv, Fate, fate, too_large, too_low, comes_again, stays}

rises : (base e : ℕ) (later : List Old) (o : Old) (between : List Old) → (is_kept base o (between ++ later) && ltb e o.epoch) ≡ true
    → KeptAbove base e later o between
rises base e later o between h =
    let p = (and-eq-true_iff (is_kept base o (between ++ later)) (ltb e o.epoch)).0 h in
    let q = (and-eq-true_iff (old_fits base o) (not (again base o.epoch (between ++ later)))).0 p.0 in
    record {
      kept_fits = fits_inv base o q.0;
      not_again = not-true (again base o.epoch (between ++ later)) q.1;
      above = ltb-true e o.epoch p.1;
    }

higher_there : (base e : ℕ) (earlier later : List Old) → higher_kept base e earlier later ≡ true → HigherKept base e earlier later
higher_there base e [] later h = absurd (false≢true h)
higher_there base e (o ∷ earlier) later h =
    by (is_kept base o (earlier ++ later) && ltb e o.epoch) refl h (λ q. higher_there base e earlier later q)
  where
    by : (t : Bool) → (is_kept base o (earlier ++ later) && ltb e o.epoch) ≡ t → cond t true (higher_kept base e earlier later) ≡ true
        → (higher_kept base e earlier later ≡ true → HigherKept base e earlier later) → HigherKept base e (o ∷ earlier) later
    by true q h ih = among_first (KeptAbove base e later) o earlier (rises base e later o earlier q)
    by false q h ih = among_behind (KeptAbove base e later) o earlier (ih h)

higher_yes : (base e : ℕ) (xs : List Old) (o : Old) (between later : List Old) → KeptAbove base e later o between
    → higher_kept base e (xs ++ (o ∷ between)) later ≡ true
higher_yes base e [] o between later r = simp (fits_yes base o r.kept_fits, r.not_again, lt-ltb e o.epoch r.above)
higher_yes base e (x ∷ xs) o between later r =
    rw (higher_yes base e xs o between later r) (second_holds (is_kept base x (xs ++ (o ∷ between) ++ later) && ltb e x.epoch))

-- MOVED EXACTLY WHERE SOME KEPT RECORD BEFORE HAS A HIGHER EPOCH
pub higher_kept_lem : (base e : ℕ) (earlier later : List Old) → (higher_kept base e earlier later ≡ true) ↔ HigherKept base e earlier later
higher_kept_lem base e earlier later = (
  higher_there base e earlier later,
  λ h. rw h.split (higher_yes base e h.earlier h.one h.later later h.holds),
)

-- as the lines go on from the epochs of those before
pub keeping_above : (base e : ℕ) (before : List ℕ) (o : Old) (later : List Old)
    → some_above e (keeping (dropped base (again base o.epoch later) o) o before)
    ≡ cond (is_kept base o later && ltb e o.epoch) true (some_above e before)
unfolding some_above
keeping_above base e before o later = by (fate base o (again base o.epoch later))
  where
    by : Fate base o (again base o.epoch later)
        → some_above e (keeping (dropped base (again base o.epoch later) o) o before)
        ≡ cond (is_kept base o later && ltb e o.epoch) true (some_above e before)
    by (too_large h d n) = simp (d, n)
    by (too_low h l d n) = simp (d, n)
    by (comes_again f a d) = rw d (simp (fits_yes base o f, a))
    by (stays f a d) = rw d (simp (fits_yes base o f, a))
