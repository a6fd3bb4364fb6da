-- None of the five properties follows from the others: for each a division that has all but this one. Base 5, and few bytes.
-- Assumes nothing.
use mathlib.Core.Path.{◌≡◌, refl, sym, ap, ◌∙◌}
use mathlib.Core.Bool.{true, false, true≢false}
use mathlib.Core.List.{List, [], ◌∷◌}
use Prim.Native.Nat.{ℕ}
use native.Mathlib.Omega.{arith}
use native.Mathlib.Decide.{ℕ_discrete}
use Rattle.records_spec.specs.Tables.{At, ◌⦂◌, epochs_of, ascending, rising, has, held}
use Rattle.records_spec.proofs.Held.{has_none, has_passes}
use Rattle.division.specs.Fair.{Division, OfEach, all_sections, together}
use Rattle.division.specs.Needed.{Property, right_sum, three_kept, latest_first, base_last, section_where_asked, Says, AllBut}

-- sections in order that each stand at the base or a record's epoch are a division
module _ (base : ℕ) (rs : List At) where
  nowhere : (ss : List At) → OfEach (λ s later. has s.epoch (base ⦂ 0 ∷ rs) ≡ true) ss → (e : ℕ) → (e ≡ base → ⊥) → has e rs ≡ false
      → has e ss ≡ false
  nowhere [] f e p h = has_none e
  nowhere (s ∷ ss) f e p h =
      elim (ℕ_discrete e s.epoch) [
        | yes q ↦ absurd (true≢false (sym f.0 ∙ ap (λ (d : ℕ). has d (base ⦂ 0 ∷ rs)) (sym q) ∙ has_passes e (base ⦂ 0) rs p ∙ h))
        | no q ↦ has_passes e s ss q ∙ nowhere ss f.1 e p h
      ]

  placed : (ss : List At) → rising (epochs_of ss) ≡ true → OfEach (λ s later. has s.epoch (base ⦂ 0 ∷ rs) ≡ true) ss → Division base rs ss
  placed ss h f = record { ascends = h; nowhere_else = nowhere ss f }

-- for each property records, an amount and sections
abbrev example : Property → List At × ℕ × List At
-- they come to 3
example right_sum = (7 ⦂ 4 ∷ [], 2, 5 ⦂ 2 ∷ 7 ⦂ 1 ∷ [])
-- epoch 7 is left with 2
example three_kept = (7 ⦂ 4 ∷ [], 2, 7 ⦂ 2 ∷ [])
-- epoch 7 gives what epoch 9 could
example latest_first = (7 ⦂ 4 ∷ 9 ⦂ 4 ∷ [], 1, 7 ⦂ 1 ∷ 9 ⦂ 0 ∷ [])
-- the base gives what epoch 7 could
example base_last = (7 ⦂ 4 ∷ [], 1, 5 ⦂ 1 ∷ 7 ⦂ 0 ∷ [])
-- the section of 0 bytes at 9 is left out
example section_where_asked = (7 ⦂ 10 ∷ 9 ⦂ 3 ∷ [], 1, 7 ⦂ 1 ∷ [])

-- what a property says of an example
abbrev SaysOf : Property → Property → Type 0
SaysOf q p = Says q 5 (example p).0 (example p).1 (example p).2

rises : (p : Property) → ascending 5 (epochs_of (example p).0) ≡ true
unfolding ascending epochs_of
rises right_sum = refl
rises three_kept = refl
rises latest_first = refl
rises base_last = refl
rises section_where_asked = refl

division : (p : Property) → Division 5 (example p).0 (example p).2
unfolding epochs_of ascending rising has
division right_sum = placed 5 (7 ⦂ 4 ∷ []) (5 ⦂ 2 ∷ 7 ⦂ 1 ∷ []) refl (refl, (refl, tt))
division three_kept = placed 5 (7 ⦂ 4 ∷ []) (7 ⦂ 2 ∷ []) refl (refl, tt)
division latest_first = placed 5 (7 ⦂ 4 ∷ 9 ⦂ 4 ∷ []) (7 ⦂ 1 ∷ 9 ⦂ 0 ∷ []) refl (refl, (refl, tt))
division base_last = placed 5 (7 ⦂ 4 ∷ []) (5 ⦂ 1 ∷ 7 ⦂ 0 ∷ []) refl (refl, (refl, tt))
division section_where_asked = placed 5 (7 ⦂ 10 ∷ 9 ⦂ 3 ∷ []) (7 ⦂ 1 ∷ []) refl (refl, tt)

lacks : (p : Property) → SaysOf p p → ⊥
unfolding has held all_sections together
lacks right_sum h = omega arith
lacks three_kept h = omega (arith, h.0)
lacks latest_first h = omega (arith, (h.0 (omega arith)).0)
lacks base_last h = omega (arith, (h (omega arith)).0)
lacks section_where_asked h = true≢false (sym h.at_records.1.0)

others : (p q : Property) → (q ≡ p → ⊥) → SaysOf q p
unfolding has held all_sections together
others right_sum right_sum n = absurd (n refl)
others right_sum three_kept n = (omega arith, tt)
others right_sum latest_first n = (λ h. tt, tt)
others right_sum base_last n = λ h. (refl, tt)
others right_sum section_where_asked n = record { at_base = refl; at_records = (refl, tt) }
others three_kept right_sum n = refl
others three_kept three_kept n = absurd (n refl)
others three_kept latest_first n = (λ h. tt, tt)
others three_kept base_last n = λ h. absurd (omega arith)
others three_kept section_where_asked n = record { at_base = refl; at_records = (refl, tt) }
others latest_first right_sum n = refl
others latest_first three_kept n = (omega arith, (omega arith, tt))
others latest_first latest_first n = absurd (n refl)
others latest_first base_last n = λ h. absurd (omega arith)
others latest_first section_where_asked n = record { at_base = refl; at_records = (refl, (refl, tt)) }
others base_last right_sum n = refl
others base_last three_kept n = (omega arith, tt)
others base_last latest_first n = (λ h. tt, tt)
others base_last base_last n = absurd (n refl)
others base_last section_where_asked n = record { at_base = refl; at_records = (refl, tt) }
others section_where_asked right_sum n = refl
others section_where_asked three_kept n = (omega arith, (omega arith, tt))
others section_where_asked latest_first n = (λ h. (refl, tt), (λ h. tt, tt))
others section_where_asked base_last n = λ h. absurd (omega arith)
others section_where_asked section_where_asked n = absurd (n refl)

pub needed : (p : Property) → AllBut p
needed p =
    record {
      base = 5;
      records = (example p).0;
      amount = (example p).1;
      sections = (example p).2;
      ascends = rises p;
      is_division = division p;
      has_not = lacks p;
      has_others = others p;
    }
