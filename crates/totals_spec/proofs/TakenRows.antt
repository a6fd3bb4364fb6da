-- Counts taken from ascending rows, the first count first: the rows before its pair stay in front, and what is left of its total follows.
-- Assumes nothing.
use mathlib.Core.Path.{◌≡◌, refl, sym, ap, ◌∙◌}
use mathlib.Core.Bool.{true}
use mathlib.Core.List.{List, [], ◌∷◌, ◌++◌}
use Prim.Native.Nat.{ℕ, suc, ◌-◌, ◌≤◌, ◌<◌}
use native.Mathlib.Nat.{sub-zero}
use native.Mathlib.Omega.{arith}
use lib.ListN.{length, take, drop}
use Rattle.rows_spec.specs.Order.{is_less}
use Rattle.rows_spec.specs.Rows.{Row, compared, ascends}
use Rattle.std.specs.declared.cmp.Ordering.{Ordering}
use Rattle.std.specs.declared.cmp.Ordering.TheVariants.{Less, Equal, Greater}
use Rattle.rows_spec.proofs.Comparing.{self_same, flipped}
use Rattle.rows_spec.proofs.Rows.{Before, before_trans, before_same, asc_before, asc_tail}
use Rattle.totals_spec.specs.Table.{all_positive, total_at, row_if, put_total, with_total, take_counts}
use Rattle.totals_spec.specs.Replacing.{covered}
use Rattle.totals_spec.specs.Inner.Steps.{place_in}
use Rattle.totals_spec.proofs.Totals.{total_none, total_at_lem, total_before, total_same, put_at, put_back}
use Rattle.totals_spec.proofs.Counts.{take_ascends, take_above, covered_tail, covered_total}
use Rattle.totals_spec.proofs.Places.{place_at, place_upto}

-- ---- a row before all counts

module _ (b : Row) (l : List Row) where
  -- it stays in front
  take_past : (os : List Row) → Before b os → ascends os ≡ true → take_counts os (b ∷ l) ≡ b ∷ take_counts os l
  unfolding take_counts
  take_past [] h s = refl
  take_past (o ∷ os) h s =
      let g = flipped b o Less h in
      let rest = take_counts os l in
      ap (λ (m : List Row). put_total (with_total o (total_at o m - o.part.bytes)) m)
      (take_past os (before_trans b o os h (asc_before o os s)) (asc_tail o os s))
      ∙ ap (λ (n : ℕ). put_total (with_total o (n - o.part.bytes)) (b ∷ rest)) (total_at_lem o b rest Greater g)
      ∙ put_at (with_total o (total_at o rest - o.part.bytes)) b rest Greater g

  -- and has no part in covering them
  covered_past : (os : List Row) → Before b os → ascends os ≡ true → covered os (b ∷ l) ≡ covered os l
  unfolding covered
  covered_past [] h s = refl
  covered_past (o ∷ os) h s =
      rw (total_at_lem o b l Greater (flipped b o Less h), covered_past os (before_trans b o os h (asc_before o os s)) (asc_tail o os s))

-- ---- the first count

module _ (k : Row) (c : ℕ) (os : List Row) where
  -- nothing is taken
  pub take_nothing : (l : List Row) → c ≡ 0 → ascends l ≡ true → all_positive l ≡ true → take_counts (with_total k c ∷ os) l ≡ take_counts os l
  unfolding take_counts
  take_nothing l z s a =
      let rest = take_counts os l in
      let n : total_at (with_total k c) rest - c ≡ total_at k rest = rw (z, sub-zero) (total_same (with_total k 0) k rest (self_same k)) in
      ap (λ (m : ℕ). put_total (with_total k m) rest) n ∙ put_back k rest (take_ascends l os s) (take_above l os a)

  -- its pair is the first row's
  take_first : (b : Row) (l : List Row) → compared k b ≡ Equal → Before k os → ascends os ≡ true
      → take_counts (with_total k c ∷ os) (b ∷ l) ≡ row_if (with_total k (b.part.bytes - c)) (take_counts os l)
  unfolding take_counts
  take_first b l e h s =
      let rest = take_counts os l in
      ap (λ (m : List Row). put_total (with_total k (total_at (with_total k c) m - c)) m)
      (take_past b l os (before_same b k os (flipped k b Equal e) h) s)
      ∙ ap (λ (n : ℕ). put_total (with_total k (n - c)) (b ∷ rest)) (total_at_lem (with_total k c) b rest Equal e)
      ∙ put_at (with_total k (b.part.bytes - c)) b rest Equal e

-- a count c at k's pair, taken before others: the rows in front, what is left of the total, and the rows behind, which cover the others
pub record TakenAt (k : Row) (c : ℕ) (os l : List Row) : Type 0 where
  pub found : place_in k l < length l
  pub enough : c ≤ total_at k l
  pub taken : take_counts (with_total k c ∷ os) l
      ≡ take (place_in k l) l ++ row_if (with_total k (total_at k l - c)) (take_counts os (drop (suc (place_in k l)) l))
  pub covers : covered os (drop (suc (place_in k l)) l) ≡ true

module _ (k : Row) (c : ℕ) (os : List Row) (some : 0 < c) (h : ascends (with_total k c ∷ os) ≡ true) where
  most : (l : List Row) → covered (with_total k c ∷ os) l ≡ true → c ≤ total_at k l
  most l v = omega (arith, covered_total l (with_total k c ∷ os) h v k, total_at_lem k (with_total k c) os Equal (self_same k))

  pub taken_at : (l : List Row) → ascends l ≡ true → covered (with_total k c ∷ os) l ≡ true → TakenAt k c os l
  taken_at [] s v = absurd (omega (arith, most [] v, total_none k))
  taken_at (b ∷ l) s v = go (compared b k) refl (taken_at l (asc_tail b l s))
    where
      go : (o : Ordering) → compared b k ≡ o → (covered (with_total k c ∷ os) l ≡ true → TakenAt k c os l) → TakenAt k c os (b ∷ l)
      go Less e ih =
          let r = ih (sym (covered_past b l (with_total k c ∷ os) e h) ∙ v) in
          let p = place_at k b l Less e in
          let n = total_at_lem k b l Greater (flipped b k Less e) in
          record {
            found = omega (arith, r.found);
            enough = most (b ∷ l) v;
            taken = rw (p, n) (take_past b l (with_total k c ∷ os) e h ∙ ap (λ (m : List Row). b ∷ m) r.taken);
            covers = rw p r.covers;
          }
      go Equal e ih =
          let f = flipped b k Equal e in
          let p : place_in k (b ∷ l) ≡ 0 = omega (arith, place_upto k b l (b ∷ l) 0 refl (ap is_less e)) in
          let n = total_at_lem k b l Equal f in
          let q = before_same k (with_total k c) os (self_same k) (asc_before (with_total k c) os h) in
          let t = asc_tail (with_total k c) os h in
          record {
            found = omega arith;
            enough = most (b ∷ l) v;
            taken = rw (p, n) (take_first k c os b l f q t);
            covers = rw p (sym (covered_past b l os (before_same b k os e q) t) ∙ covered_tail (b ∷ l) (with_total k c) os v);
          }
      go Greater e ih = absurd (omega (arith, most (b ∷ l) v, total_before k (b ∷ l) (flipped b k Greater e) s))
