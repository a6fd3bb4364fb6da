-- What the sections of a division come to is what the base and the records' epochs give together: each section stands at one of them.
-- By cases on the sections.
-- Assumes nothing.
use mathlib.Core.Path.{◌≡◌, refl, sym, ap, ◌∙◌}
use mathlib.Core.Bool.{true, false, true≢false}
use mathlib.Core.List.{List, [], ◌∷◌}
use Prim.Native.Nat.{ℕ, ◌+◌}
use native.Mathlib.Omega.{arith}
use native.Mathlib.Decide.{ℕ_discrete}
use Rattle.records_spec.specs.Tables.{At, ◌⦂◌, epochs_of, ascending, rising, has, held}
use Rattle.records_spec.proofs.Rising.{asc_rises}
use Rattle.records_spec.proofs.Held.{has_none, has_passes, held_passes, has_above, held_above}
use Rattle.records_spec.proofs.Alike.{apart, not_first, held_first, has_unless}
use Rattle.division.specs.Fair.{Division, all_sections, gives, together}

-- ---- one section more

together_none : (rs : List At) → together [] rs ≡ 0
unfolding together held
together_none [] = refl
together_none (r ∷ rs) = omega (arith, together_none rs)

module _ (s : At) (ss : List At) where
  -- it adds nothing where no record stands at its epoch
  beside : (rs : List At) → has s.epoch rs ≡ false → together (s ∷ ss) rs ≡ together ss rs
  unfolding together
  beside [] h = refl
  beside (r ∷ rs) h =
      let p = apart s.epoch r rs h in
      rw (held_passes r.epoch s ss (λ d. p.0 (sym d)), beside rs p.1)

  -- and its bytes where one does
  among : (rs : List At) → rising (epochs_of rs) ≡ true → held s.epoch ss ≡ 0 → has s.epoch rs ≡ true
      → together (s ∷ ss) rs ≡ s.bytes + together ss rs
  unfolding together epochs_of rising
  among [] a z h = absurd (true≢false (sym h ∙ has_none s.epoch))
  among (r ∷ rs) a z h =
      elim (ℕ_discrete s.epoch r.epoch) [
        | yes p ↦
            let x : held r.epoch (s ∷ ss) ≡ s.bytes = ap (λ (d : ℕ). held d (s ∷ ss)) (sym p) ∙ held_first s ss in
            let y : held r.epoch ss ≡ 0 = ap (λ (d : ℕ). held d ss) (sym p) ∙ z in
            omega (arith, x, y, beside rs (has_above s.epoch r.epoch rs (omega arith) a))
        | no p ↦
            omega (
              arith,
              held_passes r.epoch s ss (λ d. p (sym d)),
              among rs (asc_rises r.epoch (epochs_of rs) a) z (sym (has_passes s.epoch r rs p) ∙ h),
            )
      ]

-- ---- all sections

-- no section stands where there is no record
abbrev Only : List At → List At → Type 0
Only rs ss = (e : ℕ) → has e rs ≡ false → has e ss ≡ false

only_behind : (rs : List At) (s : At) (ss : List At) → ascending s.epoch (epochs_of ss) ≡ true → Only rs (s ∷ ss) → Only rs ss
only_behind rs s ss a o e h =
    elim (ℕ_discrete e s.epoch) [
      | yes p ↦ has_above e s.epoch ss (omega arith) a
      | no p ↦ sym (has_passes e s ss p) ∙ o e h
    ]

all_sections_lem : (rs ss : List At) → rising (epochs_of rs) ≡ true → rising (epochs_of ss) ≡ true → Only rs ss → all_sections ss ≡ together ss rs
unfolding all_sections epochs_of rising
all_sections_lem rs [] a h o = sym (together_none rs)
all_sections_lem rs (s ∷ ss) a h o =
    let rest = all_sections_lem rs ss a (asc_rises s.epoch (epochs_of ss) h) (only_behind rs s ss h o) in
    let record-there = has_unless s.epoch rs (λ p. not_first s ss (o s.epoch p)) in
    omega (arith, rest, among s ss rs a (held_above s.epoch s.epoch ss (omega arith) h) record-there)

-- the base stands before the records
pub total_gives : (base : ℕ) (rs ss : List At) → ascending base (epochs_of rs) ≡ true → Division base rs ss
    → all_sections ss ≡ gives ss base + together ss rs
unfolding together epochs_of rising
total_gives base rs ss a d =
    all_sections_lem (base ⦂ 0 ∷ rs) ss a d.ascends (λ e h.
    let p = apart e (base ⦂ 0) rs h in
    d.nowhere_else e p.0 p.1)
