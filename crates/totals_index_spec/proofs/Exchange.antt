-- How many rows of one list meet the rows of another: counted over either list it is the same number, where both ascend. By induction on
-- one list and then on the other, by how their first rows stand.
-- Assumes nothing.
use mathlib.Core.Path.{◌≡◌, refl, ap, ◌∙◌}
use mathlib.Core.Bool.{Bool, true, false}
use mathlib.Core.List.{List, [], ◌∷◌}
use Prim.Native.Nat.{ℕ, ◌+◌}
use native.Mathlib.Omega.{arith}
use Rattle.rows_spec.specs.Rows.{Row, compared, ascends}
use Rattle.rows_spec.specs.Order.{is_equal}
use Rattle.std.specs.declared.cmp.Ordering.{Ordering}
use Rattle.std.specs.declared.cmp.Ordering.TheVariants.{Less, Equal, Greater}
use Rattle.rows_spec.proofs.Comparing.{flipped}
use Rattle.rows_spec.proofs.Rows.{asc_tail}
use Rattle.totals_spec.specs.Table.{total_at}
use Rattle.totals_spec.proofs.Totals.{total_none, total_at_lem, total_behind}
use Rattle.totals_index_spec.specs.Inner.Judging.{one}

-- a test of a row's pair, a count of the one list and a total of the other
abbrev pub Test : Type 0
Test = Row → ℕ → ℕ → Bool

-- how many counts of rs meet their total in t
unfoldable pub count_by : Test → List Row → List Row → ℕ
count_by p [] t = 0
count_by p (r ∷ rs) t = one (p r r.part.bytes (total_at r t)) + count_by p rs t

-- how many totals of t meet their count in rs
unfoldable pub count_of : Test → List Row → List Row → ℕ
count_of p rs [] = 0
count_of p rs (b ∷ t) = one (p b (total_at b rs) b.part.bytes) + count_of p rs t

-- a test that depends on the pair alone, and fails where there is nothing
pub record Fair (p : Test) : Type 0 where
  pub same : (a b : Row) (c v : ℕ) → compared a b ≡ Equal → p a c v ≡ p b c v
  pub no_count : (a : Row) (v : ℕ) → p a 0 v ≡ false
  pub no_total : (a : Row) (c : ℕ) → p a c 0 ≡ false

module _ (p : Test) (f : Fair p) where
  none_by : (rs : List Row) → count_by p rs [] ≡ 0
  unfolding count_by
  none_by [] = refl
  none_by (r ∷ rs) = rw (total_none r, f.no_total r r.part.bytes) (omega (arith, none_by rs))

  -- one row more of t
  by_more : (b : Row) (t rs : List Row) → ascends (b ∷ t) ≡ true → ascends rs ≡ true
      → count_by p rs (b ∷ t) ≡ one (p b (total_at b rs) b.part.bytes) + count_by p rs t
  unfolding count_by
  by_more b t [] s a = rw (total_none b, f.no_count b b.part.bytes) (omega arith)
  by_more b t (r ∷ rs) s a = go (compared r b) refl (by_more b t rs s (asc_tail r rs a))
    where
      on : (o : Ordering) → compared r b ≡ o → is_equal o ≡ false → (q : Ordering) → compared b r ≡ q → is_equal q ≡ false
          → count_by p rs (b ∷ t) ≡ one (p b (total_at b rs) b.part.bytes) + count_by p rs t
          → one (p r r.part.bytes (total_at r (b ∷ t))) + count_by p rs (b ∷ t)
          ≡ one (p b (total_at b (r ∷ rs)) b.part.bytes) + (one (p r r.part.bytes (total_at r t)) + count_by p rs t)
      on o e n q g m ih =
          let x : total_at r (b ∷ t) ≡ total_at r t = total_at_lem r b t o e ∙ rw n in
          let y : total_at b (r ∷ rs) ≡ total_at b rs = total_at_lem b r rs q g ∙ rw m in
          rw (x, y) (omega (arith, ih))

      go : (o : Ordering) → compared r b ≡ o → count_by p rs (b ∷ t) ≡ one (p b (total_at b rs) b.part.bytes) + count_by p rs t
          → one (p r r.part.bytes (total_at r (b ∷ t))) + count_by p rs (b ∷ t)
          ≡ one (p b (total_at b (r ∷ rs)) b.part.bytes) + (one (p r r.part.bytes (total_at r t)) + count_by p rs t)
      go Less e ih = on Less e refl Greater (flipped r b Less e) refl ih
      go Equal e ih =
          let g = flipped r b Equal e in
          let z : one (p r r.part.bytes (total_at r t)) ≡ 0 =
          ap (λ (n : ℕ). one (p r r.part.bytes n)) (total_behind r b t e s) ∙ ap one (f.no_total r r.part.bytes) in
          let u : one (p b (total_at b rs) b.part.bytes) ≡ 0 =
          ap (λ (n : ℕ). one (p b n b.part.bytes)) (total_behind b r rs g a) ∙ ap one (f.no_count b b.part.bytes) in
          rw (total_at_lem r b t Equal e, total_at_lem b r rs Equal g, f.same r b r.part.bytes b.part.bytes e) (omega (arith, ih))
      go Greater e ih = on Greater e refl Less (flipped r b Greater e) refl ih

  -- BOTH COUNT THE SAME
  pub exchange : (rs t : List Row) → ascends rs ≡ true → ascends t ≡ true → count_by p rs t ≡ count_of p rs t
  unfolding count_of
  exchange rs [] a s = none_by rs
  exchange rs (b ∷ t) a s =
      by_more b t rs s a ∙ ap (λ (n : ℕ). one (p b (total_at b rs) b.part.bytes) + n) (exchange rs t a (asc_tail b t s))
