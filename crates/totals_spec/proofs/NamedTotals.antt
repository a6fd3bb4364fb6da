-- The rows that others name: by their totals and counts, and a table's rows without them.
-- Assumes nothing.
use mathlib.Core.Path.{◌≡◌, refl, sym, ap, ◌∙◌}
use mathlib.Core.Bool.{Bool, true, false, cond}
use mathlib.Core.List.{List, [], ◌∷◌, ◌++◌}
use Prim.Native.Nat.{ℕ}
use native.Mathlib.Omega.{arith}
use lib.Dec.{ltb}
use borrow.Author.Tests.{lt-ltb}
use Rattle.rows_spec.specs.Rows.{Row, compared, ascends}
use Rattle.rows_spec.specs.Order.{is_equal}
use Rattle.std.specs.declared.cmp.Ordering.{Ordering}
use Rattle.std.specs.declared.cmp.Ordering.TheVariants.{Less, Equal, Greater}
use Rattle.rows_spec.proofs.Comparing.{left_same}
use Rattle.rows_spec.proofs.Rows.{Before, before_trans, asc_before, asc_tail, asc_cons}
use Rattle.totals_spec.specs.Table.{all_positive, total_at}
use Rattle.totals_spec.specs.Recount.{count_at}
use Rattle.totals_spec.specs.Theorems.{names, not_named}
use Rattle.totals_spec.proofs.Totals.{total_none, total_at_lem, above_cons, above_first, above_tail}
use Rattle.totals_spec.proofs.Counts.{count_none, count_cons}

-- ---- whether a row is named

-- by how it stands to the first
names_at : (k r : Row) (rs : List Row) (o : Ordering) → compared k r ≡ o → names k (r ∷ rs) ≡ cond (is_equal o) true (names k rs)
unfolding names
names_at k r rs o h = ap (λ (p : Ordering). cond (is_equal p) true (names k rs)) h

-- of a table without zeros: where its total is above 0
pub names_total : (k : Row) (t : List Row) → all_positive t ≡ true → names k t ≡ ltb 0 (total_at k t)
unfolding names
names_total k [] a = sym (ap (ltb 0) (total_none k))
names_total k (b ∷ t) a = go (compared k b) refl (names_total k t (above_tail b t a)) ∙ sym (ap (ltb 0) (total_at_lem k b t (compared k b) refl))
  where
    go : (o : Ordering) → compared k b ≡ o → names k t ≡ ltb 0 (total_at k t)
        → cond (is_equal o) true (names k t) ≡ ltb 0 (cond (is_equal o) b.part.bytes (total_at k t))
    go Less e ih = ih
    go Equal e ih = sym (lt-ltb 0 b.part.bytes (above_first b t a))
    go Greater e ih = ih

-- rows of one pair are named together
names_same : (a b : Row) (rs : List Row) → compared a b ≡ Equal → names a rs ≡ names b rs
unfolding names
names_same a b [] h = refl
names_same a b (r ∷ rs) h = rw (left_same r a b h, names_same a b rs h)

pub names_append : (k : Row) (xs ys : List Row) → names k (xs ++ ys) ≡ cond (names k xs) true (names k ys)
unfolding names
names_append k [] ys = refl
names_append k (x ∷ xs) ys = go (compared k x) (names_append k xs ys)
  where
    go : (o : Ordering) → names k (xs ++ ys) ≡ cond (names k xs) true (names k ys)
        → cond (is_equal o) true (names k (xs ++ ys)) ≡ cond (cond (is_equal o) true (names k xs)) true (names k ys)
    go Less ih = ih
    go Equal ih = refl
    go Greater ih = ih

-- what is not named has no count
pub not_counted : (k : Row) (rs : List Row) → names k rs ≡ false → count_at k rs ≡ 0
not_counted k [] h = count_none k
not_counted k (r ∷ rs) h = go (compared k r) refl (not_counted k rs) (sym (names_at k r rs (compared k r) refl) ∙ h)
  where
    go : (o : Ordering) → compared k r ≡ o → (names k rs ≡ false → count_at k rs ≡ 0) → cond (is_equal o) true (names k rs) ≡ false
        → count_at k (r ∷ rs) ≡ 0
    go Less e ih f = omega (arith, count_cons k r rs Less e, ih f)
    go Equal e ih f = let z : ◌≡◌ {A = ℕ} 0 1 = cc in absurd (omega arith)
    go Greater e ih f = omega (arith, count_cons k r rs Greater e, ih f)

-- ---- a table's rows that are not named

module _ (rs : List Row) where
  -- by whether the first is named
  not_cases : (P : List Row → Type 0) (b : Row) (t : List Row) → (names b rs ≡ true → P (not_named rs t))
      → (names b rs ≡ false → P (b ∷ not_named rs t)) → P (not_named rs (b ∷ t))
  unfolding not_named
  not_cases P b t gone there = go (names b rs) refl
    where
      go : (n : Bool) → names b rs ≡ n → P (cond n (not_named rs t) (b ∷ not_named rs t))
      go true e = gone e
      go false e = there e

  before_not : (a : Row) (t : List Row) → Before a t → ascends t ≡ true → Before a (not_named rs t)
  unfolding not_named
  before_not a [] h s = tt
  before_not a (b ∷ t) h s =
      let ih = before_not a t (before_trans a b t h (asc_before b t s)) (asc_tail b t s) in
      not_cases (Before a) b t (λ e. ih) (λ e. h)

  pub not_ascends : (t : List Row) → ascends t ≡ true → ascends (not_named rs t) ≡ true
  unfolding not_named
  not_ascends [] s = s
  not_ascends (b ∷ t) s =
      let ih = not_ascends t (asc_tail b t s) in
      not_cases (λ (l : List Row). ascends l ≡ true) b t (λ e. ih)
      (λ e. asc_cons b (not_named rs t) (before_not b t (asc_before b t s) (asc_tail b t s)) ih)

  pub not_above : (t : List Row) → all_positive t ≡ true → all_positive (not_named rs t) ≡ true
  unfolding not_named
  not_above [] s = s
  not_above (b ∷ t) s =
      let ih = not_above t (above_tail b t s) in
      not_cases (λ (l : List Row). all_positive l ≡ true) b t (λ e. ih) (λ e. above_cons b (not_named rs t) (above_first b t s) ih)

  -- their totals
  pub not_total : (k : Row) (t : List Row) → total_at k (not_named rs t) ≡ cond (names k rs) 0 (total_at k t)
  unfolding not_named
  not_total k [] = total_none k ∙ none (names k rs)
    where
      none : (n : Bool) → 0 ≡ cond n 0 (total_at k [])
      none true = refl
      none false = sym (total_none k)
  not_total k (b ∷ t) =
      let ih = not_total k t in
      not_cases (λ (l : List Row). total_at k l ≡ cond (names k rs) 0 (total_at k (b ∷ t))) b t
      (λ e. gone (compared k b) refl e ih)
      (λ e. there (compared k b) refl e ih)
    where
      gone : (o : Ordering) → compared k b ≡ o → names b rs ≡ true → total_at k (not_named rs t) ≡ cond (names k rs) 0 (total_at k t)
          → total_at k (not_named rs t) ≡ cond (names k rs) 0 (total_at k (b ∷ t))
      gone Less f e ih = ih ∙ ap (cond (names k rs) 0) (sym (total_at_lem k b t Less f))
      gone Equal f e ih = let n = names_same k b rs f ∙ e in ih ∙ rw n
      gone Greater f e ih = ih ∙ ap (cond (names k rs) 0) (sym (total_at_lem k b t Greater f))

      there : (o : Ordering) → compared k b ≡ o → names b rs ≡ false → total_at k (not_named rs t) ≡ cond (names k rs) 0 (total_at k t)
          → total_at k (b ∷ not_named rs t) ≡ cond (names k rs) 0 (total_at k (b ∷ t))
      there Less f e ih = total_at_lem k b (not_named rs t) Less f ∙ ih ∙ ap (cond (names k rs) 0) (sym (total_at_lem k b t Less f))
      there Equal f e ih = let n = names_same k b rs f ∙ e in total_at_lem k b (not_named rs t) Equal f ∙ rw n (sym (total_at_lem k b t Equal f))
      there Greater f e ih = total_at_lem k b (not_named rs t) Greater f ∙ ih ∙ ap (cond (names k rs) 0) (sym (total_at_lem k b t Greater f))
