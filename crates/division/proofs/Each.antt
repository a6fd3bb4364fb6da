-- What is said of each record: how it follows from what holds wherever a record stands among all, and what it tells of each epoch with a record. An
-- epoch is the base, a record's, or neither; so what is shown of these three is shown of every epoch.
-- Assumes nothing.
use mathlib.Core.Path.{◌≡◌, refl, sym, subst, ◌∙◌}
use mathlib.Core.Bool.{Bool, true, false, true≢false}
use mathlib.Core.List.{List, [], ◌∷◌, ◌++◌, append_assoc}
use Prim.Native.Nat.{ℕ}
use native.Mathlib.Decide.{ℕ_discrete}
use Rattle.records_spec.specs.Tables.{At, has}
use Rattle.records_spec.proofs.Held.{has_none, has_passes}
use Rattle.division.specs.Fair.{OfEach}

-- what holds of a record wherever it stands among all holds of each
module _ (Q : List At → Type 0) (P : List At → At → List At → Type 0)
    (at : (xs : List At) (r : At) (ys : List At) → Q (xs ++ (r ∷ ys)) → P (xs ++ (r ∷ ys)) r ys) where
  among : (xs ys : List At) → Q (xs ++ ys) → OfEach (P (xs ++ ys)) ys
  among xs [] q = tt
  among xs (r ∷ ys) q =
      (at xs r ys q, subst (λ (rs : List At). Q rs → OfEach (P rs) ys) (append_assoc xs (r ∷ []) ys) (among (xs ++ (r ∷ [])) ys) q)

  pub of_each : (rs : List At) → Q rs → OfEach (P rs) rs
  of_each rs = among [] rs

-- what follows from two properties of a record holds at each epoch that has one
module _ {P Q : At → List At → Type 0} (R : ℕ → Type 0) (both : (r : At) (later : List At) → P r later → Q r later → R r.epoch) where
  pub at_each : (rs : List At) → OfEach P rs → OfEach Q rs → (e : ℕ) → has e rs ≡ true → R e
  at_each [] p q e h = absurd (true≢false (sym h ∙ has_none e))
  at_each (r ∷ later) p q e h =
      elim (ℕ_discrete e r.epoch) [
        | yes s ↦ subst R (sym s) (both r later p.0 q.0)
        | no s ↦ at_each later p.1 q.1 e (sym (has_passes e r later s) ∙ h)
      ]

-- ---- every epoch: the base, a record's, or another

module _ (base : ℕ) (rs : List At) where
  pub at_every : (P : ℕ → Type 0) → P base → ((e : ℕ) → has e rs ≡ true → P e) → ((e : ℕ) → (e ≡ base → ⊥) → has e rs ≡ false → P e) → (e : ℕ) → P e
  at_every P b r o e =
      elim (ℕ_discrete e base) [
        | yes p ↦ subst P (sym p) b
        | no p ↦ by (has e rs) (λ q. r e q) (λ q. o e p q)
      ]
    where
      by : {A : Type 0} (t : Bool) → (t ≡ true → A) → (t ≡ false → A) → A
      by true f g = f refl
      by false f g = g refl

  -- what is read of two sets of sections is the same at every epoch, if it is so at the base, at each record, and where there is neither
  pub read_alike : {A : Type 0} (read : ℕ → List At → A) (x : A) (v : At → List At → A) (ss us : List At) → read base ss ≡ x → read base us ≡ x
      → OfEach (λ r later. read r.epoch ss ≡ v r later) rs → OfEach (λ r later. read r.epoch us ≡ v r later) rs
      → ((e : ℕ) → (e ≡ base → ⊥) → has e rs ≡ false → read e ss ≡ read e us) → (e : ℕ) → read e ss ≡ read e us
  read_alike read x v ss us p q f g other =
      at_every (λ e. read e ss ≡ read e us) (p ∙ sym q) (at_each (λ e. read e ss ≡ read e us) (λ r later h k. h ∙ sym k) rs f g) other
