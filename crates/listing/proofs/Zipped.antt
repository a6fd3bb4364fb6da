-- The lines of the records that a loop over both tables has left: a turn of the loop takes the first of them. Assumes nothing.
use Rattle.std.proofs.Common.{ℕ, ◌+◌, ◌≡◌, refl, ap, ap₂, ◌∙◌, arith, List, [], ◌∷◌, ◌++◌, length, length-append, ◌⊎◌, inl, inr}
use Rattle.std.proofs.Common.{Option, Some, None}
use Rattle.std.proofs.iter.Yields.{fronts}
use Rattle.std.proofs.lemmas.Iterator.{zips}
use Rattle.std.proofs.lemmas.Slice.Zip.{Zip-more, either_empty_from_Zip}
use Rattle.std.specs.Iterator.Adapters.{zip_first, zip_second}
use Rattle.std.specs.Slice.Iter.{iter_rest}
use Rattle.std.specs.declared.iter.Zip.{Zip}
use Rattle.std.specs.declared.slice.Iter.{Iter}
use denote.Ref.{Bor}
use Rattle.records_spec.specs.Tables.{records_of, ◌⦂◌}
use Rattle.listing_spec.specs.Text.{record_line, record_texts}

abbrev pub lines_left : Zip (Iter ℕ) (Iter ℕ) → List ℕ
lines_left z = record_texts (records_of (iter_rest (zip_first z)) (iter_rest (zip_second z)))

-- a call of `next` on t, which answers r and leaves u
module _ (t u : Zip (Iter ℕ) (Iter ℕ)) (r : Option (Bor ℕ × Bor ℕ)) (step : zips fronts fronts t r u) where
  module _ (e c : Bor ℕ) (is : r ≡ Some (e, c)) where
    pub line_turn : lines_left t ≡ record_line (e.now ⦂ c.now) ++ lines_left u
    unfolding record_texts records_of
    line_turn = let m = Zip-more t u r (e, c) is step in ap₂ (λ es cs. record_texts (records_of es cs)) m.0 m.1

    pub length_turn : length (lines_left t) ≡ length (record_line (e.now ⦂ c.now)) + length (lines_left u)
    length_turn = ap length line_turn ∙ length-append (record_line (e.now ⦂ c.now)) (lines_left u)

    pub rest_turn : length (iter_rest (zip_first t)) ≡ length (iter_rest (zip_first u)) + 1
    rest_turn = omega (arith, ap length (Zip-more t u r (e, c) is step).0)

  pub line_end : r ≡ None → lines_left t ≡ []
  unfolding record_texts records_of
  line_end is = by (iter_rest (zip_first t)) (iter_rest (zip_second t)) (either_empty_from_Zip t u r is step)
    where
      by : (es cs : List ℕ) → (es ≡ []) ⊎ (cs ≡ []) → record_texts (records_of es cs) ≡ []
      by [] cs h = refl
      by (e ∷ es) [] h = refl
      by (e ∷ es) (c ∷ cs) (inl a) = absurd (cc)
      by (e ∷ es) (c ∷ cs) (inr b) = absurd (cc)
