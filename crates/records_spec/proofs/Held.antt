-- What a union holds at each epoch: their count where they have a record, else ours. For one record put in, then for all.
-- Assumes nothing.
use mathlib.Core.Path.{◌≡◌, refl, sym, ◌∙◌}
use mathlib.Core.List.{List, [], ◌∷◌}
use mathlib.Core.Bool.{Bool, true, false, cond}
use Prim.Native.Nat.{ℕ, ◌≤◌}
use native.Mathlib.Omega.{arith}
use lib.Dec.{eqb}
use borrow.Author.Tests.{eqb-true, ne_eqb}
use Rattle.records_spec.specs.Tables.{At, epochs_of, ascending, has, held, put, union}
use Rattle.records_spec.proofs.Rising.{asc_head, asc_tail}
use Rattle.records_spec.proofs.Unions.{put_cases}

module _ (e : ℕ) (r : At) where
  pub has_put : (rs : List At) → has e (put r rs) ≡ cond (eqb e r.epoch) true (has e rs)
  unfolding has put
  has_put [] = refl
  has_put (s ∷ ss) =
      put_cases (λ l. has e l ≡ cond (eqb e r.epoch) true (has e (s ∷ ss))) r s ss (λ p. refl)
      (λ p. rw p (twice (eqb e s.epoch) (has e ss)))
      (λ p. rw (has_put ss) (turn (eqb e s.epoch) (eqb e r.epoch) (has e ss)))
    where
      twice : (a b : Bool) → cond a true b ≡ cond a true (cond a true b)
      twice true b = refl
      twice false b = refl

      turn : (a b c : Bool) → cond a true (cond b true c) ≡ cond b true (cond a true c)
      turn true true c = refl
      turn true false c = refl
      turn false b c = refl

  pub held_put : (rs : List At) → held e (put r rs) ≡ cond (eqb e r.epoch) r.bytes (held e rs)
  unfolding held put
  held_put [] = refl
  held_put (s ∷ ss) =
      put_cases (λ l. held e l ≡ cond (eqb e r.epoch) r.bytes (held e (s ∷ ss))) r s ss (λ p. refl)
      (λ p. rw p (twice (eqb e s.epoch)))
      (λ p. rw (held_put ss) (turn (λ d. omega arith) (eqb e s.epoch) refl (eqb e r.epoch) refl))
    where
      twice : (a : Bool) → cond a r.bytes (held e ss) ≡ cond a r.bytes (cond a s.bytes (held e ss))
      twice true = refl
      twice false = refl

      turn : (r.epoch ≡ s.epoch → ⊥) → (a : Bool) → eqb e s.epoch ≡ a → (b : Bool) → eqb e r.epoch ≡ b
          → cond a s.bytes (cond b r.bytes (held e ss)) ≡ cond b r.bytes (cond a s.bytes (held e ss))
      turn d true p true q = absurd (d (sym (eqb-true e r.epoch q) ∙ eqb-true e s.epoch p))
      turn d true p false q = refl
      turn d false p b q = refl

-- ---- all of theirs

module _ (e : ℕ) (os : List At) where
  -- a union has a record where either has one
  pub has_union : (ts : List At) → has e (union os ts) ≡ cond (has e ts) true (has e os)
  unfolding has union
  has_union [] = refl
  has_union (t ∷ ts) = has_put e t (union os ts) ∙ rw (has_union ts) (by (eqb e t.epoch))
    where
      by : (a : Bool) → cond a true (cond (has e ts) true (has e os)) ≡ cond (cond a true (has e ts)) true (has e os)
      by true = refl
      by false = refl

  -- where both have a record, theirs stands
  pub held_union : (ts : List At) → held e (union os ts) ≡ cond (has e ts) (held e ts) (held e os)
  unfolding has held union
  held_union [] = refl
  held_union (t ∷ ts) = held_put e t (union os ts) ∙ rw (held_union ts) (by (eqb e t.epoch))
    where
      by : (a : Bool) → cond a t.bytes (cond (has e ts) (held e ts) (held e os))
          ≡ cond (cond a true (has e ts)) (cond a t.bytes (held e ts)) (held e os)
      by true = refl
      by false = refl

pub has_none : (e : ℕ) → has e [] ≡ false
unfolding has
has_none e = refl

-- ---- what is read at an epoch

-- records at other epochs are passed
abbrev pub Passes : {A : Type 0} → ℕ → (List At → A) → Type 0
Passes e read = (r : At) (rs : List At) → (e ≡ r.epoch → ⊥) → read (r ∷ rs) ≡ read rs

module _ (e : ℕ) where
  pub has_passes : Passes e (has e)
  unfolding has
  has_passes r rs p = rw (ne_eqb e r.epoch p)

  pub held_passes : Passes e (held e)
  unfolding held
  held_passes r rs p = rw (ne_eqb e r.epoch p)

  -- nothing is read of records above an epoch
  pub read_above : {A : Type 0} (read : List At → A) → Passes e read → (b : ℕ) (rs : List At) → e ≤ b → ascending b (epochs_of rs) ≡ true
      → read rs ≡ read []
  unfolding epochs_of
  read_above read passes b [] p h = refl
  read_above read passes b (r ∷ rs) p h =
      let q = asc_head b r.epoch (epochs_of rs) h in
      passes r rs (λ d. omega arith) ∙ read_above read passes r.epoch rs (omega arith) (asc_tail b r.epoch (epochs_of rs) h)

  pub has_above : (b : ℕ) (rs : List At) → e ≤ b → ascending b (epochs_of rs) ≡ true → has e rs ≡ false
  unfolding has
  has_above = read_above (has e) has_passes

  pub held_above : (b : ℕ) (rs : List At) → e ≤ b → ascending b (epochs_of rs) ≡ true → held e rs ≡ 0
  unfolding held
  held_above = read_above (held e) held_passes

  -- records above e do not change the count there
  pub held_beside : (os ts : List At) → ascending e (epochs_of ts) ≡ true → held e (union os ts) ≡ held e os
  held_beside os ts h = held_union e os ts ∙ rw (has_above e ts (omega arith) h)
