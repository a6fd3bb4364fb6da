-- Two rising tables that have and hold the same at each epoch are one: their first records are the same, and so are those behind.
-- Assumes nothing.
use mathlib.Core.Path.{◌≡◌, refl, sym, ap, ◌∙◌}
use mathlib.Core.Bool.{Bool, true, false, cond, true≢false}
use mathlib.Core.List.{List, [], ◌∷◌}
use Prim.Native.Nat.{ℕ, ◌<◌}
use native.Mathlib.Omega.{arith}
use native.Mathlib.Decide.{ℕ_discrete}
use lib.Dec.{eqb}
use borrow.Author.Tests.{eqb-false, eq-eqb}
use Rattle.records_spec.specs.Tables.{At, epochs_of, ascending, rising, has, held}
use Rattle.records_spec.proofs.Rising.{lower, equal, higher, side, asc_rises, asc_cons}
use Rattle.records_spec.proofs.Held.{Passes, has_none, has_passes, held_passes, read_above, has_above}

-- ---- the first record

-- where a table has nothing, its first record does not stand, and there is nothing behind it
pub apart : (e : ℕ) (r : At) (rs : List At) → has e (r ∷ rs) ≡ false → (e ≡ r.epoch → ⊥) × (has e rs ≡ false)
unfolding has
apart e r rs h = by (eqb e r.epoch) refl h
  where
    by : (t : Bool) → eqb e r.epoch ≡ t → cond t true (has e rs) ≡ false → (e ≡ r.epoch → ⊥) × (has e rs ≡ false)
    by true p q = absurd (true≢false q)
    by false p q = (eqb-false e r.epoch p, q)

-- a table has its first record
pub not_first : {A : Type 0} (r : At) (rs : List At) → has r.epoch (r ∷ rs) ≡ false → A
not_first r rs h = absurd ((apart r.epoch r rs h).0 refl)

pub held_first : (r : At) (rs : List At) → held r.epoch (r ∷ rs) ≡ r.bytes
unfolding held
held_first r rs = rw (eq-eqb r.epoch r.epoch refl)

-- nothing is held where there is no record
pub held_none : (e : ℕ) (rs : List At) → has e rs ≡ false → held e rs ≡ 0
unfolding held
held_none e [] h = refl
held_none e (r ∷ rs) h =
    let p = apart e r rs h in
    held_passes e r rs p.0 ∙ held_none e rs p.1

-- a record stands where it cannot be missing
pub has_unless : (e : ℕ) (rs : List At) → (has e rs ≡ false → ⊥) → has e rs ≡ true
has_unless e rs = by (has e rs)
  where
    by : (b : Bool) → (b ≡ false → ⊥) → b ≡ true
    by true n = refl
    by false n = absurd (n refl)

-- so where something is held
pub has_held : (e : ℕ) (rs : List At) → 0 < held e rs → has e rs ≡ true
has_held e rs h = has_unless e rs (λ p. omega (arith, held_none e rs p))

-- ---- two tables

-- what is read at each epoch of both tables is read behind their first records
behind : {A : Type 0} (read : ℕ → List At → A) → ((e : ℕ) → Passes e (read e)) → (x y : At) (xs ys : List At) → x.epoch ≡ y.epoch
    → ascending x.epoch (epochs_of xs) ≡ true → ascending y.epoch (epochs_of ys) ≡ true
    → ((e : ℕ) → read e (x ∷ xs) ≡ read e (y ∷ ys)) → (e : ℕ) → read e xs ≡ read e ys
behind read passes x y xs ys p hx hy same e =
    elim (ℕ_discrete e x.epoch) [
      | yes q ↦
          read_above e (read e) (passes e) x.epoch xs (omega arith) hx
          ∙ sym (read_above e (read e) (passes e) y.epoch ys (omega arith) hy)
      | no q ↦ sym (passes e x xs q) ∙ same e ∙ passes e y ys (λ d. q (d ∙ sym p))
    ]

-- a first record below all of the other table is not there
alone : {A : Type 0} (x y : At) (xs ys : List At) → x.epoch < y.epoch → ascending y.epoch (epochs_of ys) ≡ true
    → has x.epoch (x ∷ xs) ≡ has x.epoch (y ∷ ys) → A
unfolding epochs_of
alone x y xs ys p hy same =
    not_first x xs (same ∙ has_above x.epoch x.epoch (y ∷ ys) (omega arith) (asc_cons x.epoch y.epoch (epochs_of ys) p hy))

-- first records at one epoch are the same
first_same : (x y : At) (xs ys : List At) → x.epoch ≡ y.epoch → ((e : ℕ) → held e (x ∷ xs) ≡ held e (y ∷ ys)) → x ≡ y
first_same x y xs ys p same =
    let q = sym (held_first x xs) ∙ same x.epoch ∙ ap (λ (d : ℕ). held d (y ∷ ys)) p ∙ held_first y ys in
    λ i. record { epoch = p i; bytes = q i }

pub alike : (xs ys : List At) → rising (epochs_of xs) ≡ true → rising (epochs_of ys) ≡ true
    → ((e : ℕ) → has e xs ≡ has e ys) → ((e : ℕ) → held e xs ≡ held e ys) → xs ≡ ys
unfolding rising epochs_of
alike [] [] hx hy has_same held_same = refl
alike [] (y ∷ ys) hx hy has_same held_same = not_first y ys (sym (has_same y.epoch) ∙ has_none y.epoch)
alike (x ∷ xs) [] hx hy has_same held_same = not_first x xs (has_same x.epoch ∙ has_none x.epoch)
alike (x ∷ xs) (y ∷ ys) hx hy has_same held_same =
    elim (side x.epoch y.epoch) [
      | lower p ↦ alone x y xs ys p hy (has_same x.epoch)
      | higher p ↦ alone y x ys xs p hx (sym (has_same y.epoch))
      | equal p ↦
          let first = first_same x y xs ys p held_same in
          let has-behind = behind has has_passes x y xs ys p hx hy has_same in
          let held-behind = behind held held_passes x y xs ys p hx hy held_same in
          let rest = alike xs ys (asc_rises x.epoch (epochs_of xs) hx) (asc_rises y.epoch (epochs_of ys) hy) has-behind held-behind in
          λ i. first i ∷ rest i
    ]
