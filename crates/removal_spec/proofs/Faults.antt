-- The first section at fault: a section that is not, and how the first one decides of all.
-- Assumes nothing.
use mathlib.Core.Path.{◌≡◌, refl, ap}
use mathlib.Core.List.{List, [], ◌∷◌}
use Prim.Native.Nat.{ℕ, ◌≤◌}
use borrow.Author.Tests.{le-leb, eq-eqb, ne_eqb}
use Rattle.std.proofs.Common.{true, ◌⊎◌, inl, inr}
use Rattle.records_spec.specs.Tables.{At, ◌⦂◌, records_of, has, held}
use Rattle.removal_spec.specs.Removing.{fine, all_fine}
use Rattle.records_spec.specs.Outcomes.{Answer, ok, refused, ◌>>=◌}

-- ---- one section

module _ (base : ℕ) (rs : List At) (e n : ℕ) where
  -- the base is skipped
  pub fault_base : e ≡ base → fine base rs (e ⦂ n) ≡ ok tt
  fault_base p = rw (eq-eqb e base p)

  -- a record stands at the epoch, and holds as much
  pub fault_within : (e ≡ base → ⊥) → has e rs ≡ true → n ≤ held e rs → fine base rs (e ⦂ n) ≡ ok tt
  fault_within d h p = simp (ne_eqb e base d, h, le-leb n (held e rs) p)

-- ---- all sections

module _ (base : ℕ) (rs : List At) where
  pub fault_none : all_fine base rs [] ≡ ok tt
  unfolding all_fine
  fault_none = refl

  -- the first section is not at fault: the others decide
  pub fault_on : (s : At) (ss : List At) → fine base rs s ≡ ok tt → all_fine base rs (s ∷ ss) ≡ all_fine base rs ss
  unfolding all_fine
  fault_on s ss h = ap (λ (x : Answer (Unit {0})). ◌>>=◌ x (λ done. all_fine base rs ss)) h

  -- the first section is at fault
  fault_at : (s : At) (ss : List At) (k : ℕ) → fine base rs s ≡ refused k → all_fine base rs (s ∷ ss) ≡ refused k
  unfolding all_fine
  fault_at s ss k h = ap (λ (x : Answer (Unit {0})). ◌>>=◌ x (λ done. all_fine base rs ss)) h

  -- the same of the sections that two lists are: none are left, or the first is not at fault, or it is
  pub faults_end : (es ns : List ℕ) → (es ≡ []) ⊎ (ns ≡ []) → all_fine base rs (records_of es ns) ≡ ok tt
  unfolding records_of
  faults_end es ns (inl p) = rw p fault_none
  faults_end [] ns (inr p) = fault_none
  faults_end (e ∷ es) ns (inr p) = rw p fault_none

  module _ (e n : ℕ) (es ns : List ℕ) where
    pub faults_on : {fs ms : List ℕ} → fs ≡ e ∷ es → ms ≡ n ∷ ns → fine base rs (e ⦂ n) ≡ ok tt
        → all_fine base rs (records_of fs ms) ≡ all_fine base rs (records_of es ns)
    unfolding records_of
    faults_on p q h = rw (p, q) (fault_on (e ⦂ n) (records_of es ns) h)

    pub faults_at : {fs ms : List ℕ} → fs ≡ e ∷ es → ms ≡ n ∷ ns → (k : ℕ) → fine base rs (e ⦂ n) ≡ refused k
        → all_fine base rs (records_of fs ms) ≡ refused k
    unfolding records_of
    faults_at p q k h = rw (p, q) (fault_at (e ⦂ n) (records_of es ns) k h)
