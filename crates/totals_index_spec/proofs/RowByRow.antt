-- What is known after all of some rows, field by field, from what was known before them. Each by induction on the rows.
-- Assumes nothing.
use mathlib.Core.Path.{◌≡◌, refl, sym, ap, ◌∙◌}
use mathlib.Core.Bool.{Bool, true, false, cond, ◌&&◌, and-true, and_assoc}
use mathlib.Core.List.{List, [], ◌∷◌}
use Prim.Native.Nat.{◌-◌}
use native.Mathlib.Omega.{arith}
use lib.Dec.{ltb}
use Rattle.rows_spec.specs.Rows.{Row, row, leads, ascends}
use Rattle.totals_spec.specs.Table.{all_positive}
use Rattle.totals_index_spec.specs.Inner.Judging.{follows, judged_next, judged_all}
use Rattle.totals_index_spec.specs.declared.judging.Judging.{Judging}
use Rattle.totals_index_spec.proofs.Exchange.{count_of}
use Rattle.totals_index_spec.proofs.Tallies.{held, going, meeting}
use Rattle.totals_index_spec.proofs.RowsFit.{rows_fit_lem}

-- rows ascend, and stand behind the last one, if there is one
abbrev pub goes_on : Judging → List Row → Bool
goes_on j t = cond j.any (leads (row j.owner j.epoch 0) t) true && ascends t

always : (b : Bool) → cond b true true ≡ true
always true = refl
always false = refl

-- only a row's pair says what it leads
leads_pair : (b : Row) (t : List Row) → leads (row b.identifier b.part.epoch 0) t ≡ leads b t
leads_pair b [] = refl
leads_pair b (c ∷ t) = refl

regrouped : (g f p a z : Bool) → ((g && (f && p)) && (a && z)) ≡ (g && ((f && a) && (p && z)))
regrouped false f p a z = refl
regrouped true false p a z = refl
regrouped true true true a z = refl
regrouped true true false true z = refl
regrouped true true false false z = refl

module _ (os ns : List Row) where
  pub judged_good : (t : List Row) (j : Judging) → (judged_all os ns j t).good ≡ (j.good && (goes_on j t && all_positive t))
  unfolding judged_all ascends all_positive
  judged_good [] j = sym (rw (always j.any) (and-true j.good))
  judged_good (b ∷ t) j =
      judged_good t (judged_next os ns j b)
      ∙ ap (λ (l : Bool). (j.good && (follows j b && ltb 0 b.part.bytes)) && ((l && ascends t) && all_positive t)) (leads_pair b t)
      ∙ regrouped j.good (follows j b) (ltb 0 b.part.bytes) (leads b t && ascends t) (all_positive t)

  pub judged_fits : (t : List Row) (j : Judging) → (judged_all os ns j t).fits ≡ (j.fits && rows_fit_lem os ns t)
  unfolding judged_all rows_fit_lem
  judged_fits [] j = sym (and-true j.fits)
  judged_fits (b ∷ t) j = judged_fits t (judged_next os ns j b) ∙ and_assoc j.fits _ (rows_fit_lem os ns t)

  pub judged_owed : (t : List Row) (j : Judging) → (judged_all os ns j t).owed ≡ j.owed - count_of held os t
  unfolding judged_all count_of
  judged_owed [] j = omega arith
  judged_owed (b ∷ t) j = judged_owed t (judged_next os ns j b) ∙ omega arith

  pub judged_left : (t : List Row) (j : Judging) → (judged_all os ns j t).left ≡ j.left - count_of going os t
  unfolding judged_all count_of
  judged_left [] j = omega arith
  judged_left (b ∷ t) j = judged_left t (judged_next os ns j b) ∙ omega arith

  pub judged_made : (t : List Row) (j : Judging) → (judged_all os ns j t).made ≡ j.made - count_of (meeting os) ns t
  unfolding judged_all count_of
  judged_made [] j = omega arith
  judged_made (b ∷ t) j = judged_made t (judged_next os ns j b) ∙ omega arith
