-- Counts added to a table and taken from it: what stays proper, and what the totals are afterwards. Counts that a table covers.
-- Assumes nothing.
use mathlib.Core.Path.{◌≡◌, refl, sym, ap, ◌∙◌}
use mathlib.Core.Bool.{true, cond, and-eq-true_iff}
use Rattle.std.specs.Prelude.{Option, None, Some}
use mathlib.Core.List.{List, [], ◌∷◌}
use Prim.Native.Nat.{ℕ, ◌+◌, ◌-◌, ◌≤◌}
use native.Mathlib.Omega.{arith}
use lib.Dec.{leb}
use borrow.Author.Tests.{leb-true, le-leb}
use Rattle.records_spec.specs.Tables.{epochs_of, rising}
use Rattle.records_spec.specs.Flags.{Flags, id_of}
use Rattle.rows_spec.specs.Rows.{Row, compared, ascends}
use Rattle.rows_spec.specs.Order.{is_equal}
use Rattle.std.specs.declared.cmp.Ordering.{Ordering}
use Rattle.std.specs.declared.cmp.Ordering.TheVariants.{Less, Equal, Greater}
use Rattle.rows_spec.proofs.Comparing.{self_same}
use Rattle.rows_spec.proofs.Rows.{asc_none, asc_tail}
use Rattle.rows_spec.proofs.Under.{asc_under}
use Rattle.totals_spec.specs.Table.{all_positive, total_at, put_total, with_total, add_counts, take_counts}
use Rattle.totals_spec.specs.Recount.{named, count_at}
use Rattle.totals_spec.specs.Replacing.{covered}
use Rattle.totals_spec.specs.Theorems.{rises}
use Rattle.totals_spec.proofs.Totals.{total_none, total_at_lem, total_same, total_behind, put_ascends, put_above, total_put}

-- ---- the counts at a row

pub count_none : (k : Row) → count_at k [] ≡ 0
unfolding count_at
count_none k = refl

-- by how it stands to the first
pub count_cons : (k r : Row) (rs : List Row) (o : Ordering) → compared k r ≡ o
    → count_at k (r ∷ rs) ≡ cond (is_equal o) r.part.bytes 0 + count_at k rs
unfolding count_at
count_cons k r rs o h = ap (λ (p : Ordering). cond (is_equal p) r.part.bytes 0 + count_at k rs) h

-- of ascending rows, no pair of which stands twice, it is the total
pub count_total : (k : Row) (rs : List Row) → ascends rs ≡ true → count_at k rs ≡ total_at k rs
count_total k [] s = count_none k ∙ sym (total_none k)
count_total k (r ∷ rs) s = count_cons k r rs (compared k r) refl ∙ go (compared k r) refl (count_total k rs (asc_tail r rs s))
    ∙ sym (total_at_lem k r rs (compared k r) refl)
  where
    go : (o : Ordering) → compared k r ≡ o → count_at k rs ≡ total_at k rs
        → cond (is_equal o) r.part.bytes 0 + count_at k rs ≡ cond (is_equal o) r.part.bytes (total_at k rs)
    go Less e ih = omega arith
    go Equal e ih = omega (arith, total_behind k r rs e s)
    go Greater e ih = omega arith

-- the rows that flags name ascend where their epochs do
pub named_ascends : (f : Flags) → rising (epochs_of f.records) ≡ true → ascends (named (Some f)) ≡ true
named_ascends f h = asc_under (id_of f.owner) f.records h

-- the rows that flags with ascending epochs name
pub given_ascends : (f : Option Flags) → rises f ≡ true → ascends (named f) ≡ true
given_ascends None h = asc_none
given_ascends (Some f) h = named_ascends f h

-- ---- a table stays proper

-- what putting a total keeps, adding and taking counts keep
module _ (P : List Row → Type 0) (put : (r : Row) (l : List Row) → P l → P (put_total r l)) (t : List Row) where
  add_keeps : (rs : List Row) → P t → P (add_counts rs t)
  unfolding add_counts
  add_keeps [] h = h
  add_keeps (r ∷ rs) h = put _ (add_counts rs t) (add_keeps rs h)

  take_keeps : (rs : List Row) → P t → P (take_counts rs t)
  unfolding take_counts
  take_keeps [] h = h
  take_keeps (r ∷ rs) h = put _ (take_counts rs t) (take_keeps rs h)

pub add_ascends : (t rs : List Row) → ascends t ≡ true → ascends (add_counts rs t) ≡ true
add_ascends = add_keeps (λ (l : List Row). ascends l ≡ true) put_ascends

pub take_ascends : (t rs : List Row) → ascends t ≡ true → ascends (take_counts rs t) ≡ true
take_ascends = take_keeps (λ (l : List Row). ascends l ≡ true) put_ascends

pub add_above : (t rs : List Row) → all_positive t ≡ true → all_positive (add_counts rs t) ≡ true
add_above = add_keeps (λ (l : List Row). all_positive l ≡ true) put_above

pub take_above : (t rs : List Row) → all_positive t ≡ true → all_positive (take_counts rs t) ≡ true
take_above = take_keeps (λ (l : List Row). all_positive l ≡ true) put_above

-- ---- the totals afterwards

module _ (k r : Row) (u : List Row) (s : ascends u ≡ true) where
  -- a total put at r that f makes of the one there and a count, where a count of 0 changes none
  put_by : (f : ℕ → ℕ → ℕ) → ((n : ℕ) → f n 0 ≡ n)
      → total_at k (put_total (with_total r (f (total_at r u) r.part.bytes)) u) ≡ f (total_at k u) (cond (is_equal (compared k r)) r.part.bytes 0)
  put_by f z = total_put k (with_total r (f (total_at r u) r.part.bytes)) u s ∙ go (compared k r) refl
    where
      go : (o : Ordering) → compared k r ≡ o → cond (is_equal o) (f (total_at r u) r.part.bytes) (total_at k u)
          ≡ f (total_at k u) (cond (is_equal o) r.part.bytes 0)
      go Less e = sym (z (total_at k u))
      go Equal e = ap (λ (n : ℕ). f n r.part.bytes) (sym (total_same k r u e))
      go Greater e = sym (z (total_at k u))

module _ (k : Row) (t : List Row) (s : ascends t ≡ true) where
  pub total_added : (rs : List Row) → total_at k (add_counts rs t) ≡ total_at k t + count_at k rs
  unfolding add_counts
  total_added [] = omega (arith, count_none k)
  total_added (r ∷ rs) =
      put_by k r (add_counts rs t) (add_ascends t rs s) ◌+◌ (λ n. omega arith)
      ∙ omega (arith, total_added rs, count_cons k r rs (compared k r) refl)

  pub total_taken : (rs : List Row) → total_at k (take_counts rs t) ≡ total_at k t - count_at k rs
  unfolding take_counts
  total_taken [] = omega (arith, count_none k)
  total_taken (r ∷ rs) =
      put_by k r (take_counts rs t) (take_ascends t rs s) ◌-◌ (λ n. omega arith)
      ∙ omega (arith, total_taken rs, count_cons k r rs (compared k r) refl)

-- ---- counts that a table covers

module _ (t : List Row) where
  pub covered_first : (o : Row) (os : List Row) → covered (o ∷ os) t ≡ true → o.part.bytes ≤ total_at o t
  unfolding covered
  covered_first o os h = leb-true _ _ ((and-eq-true_iff (leb o.part.bytes (total_at o t)) (covered os t)).0 h).0

  pub covered_tail : (o : Row) (os : List Row) → covered (o ∷ os) t ≡ true → covered os t ≡ true
  unfolding covered
  covered_tail o os h = ((and-eq-true_iff (leb o.part.bytes (total_at o t)) (covered os t)).0 h).1

  -- no total is less than the counts at its pair
  pub covered_at : (os : List Row) → ascends os ≡ true → covered os t ≡ true → (k : Row) → count_at k os ≤ total_at k t
  covered_at [] s h k = omega (arith, count_none k)
  covered_at (o ∷ os) s h k = go (compared k o) refl (covered_at os (asc_tail o os s) (covered_tail o os h) k)
    where
      go : (p : Ordering) → compared k o ≡ p → count_at k os ≤ total_at k t → count_at k (o ∷ os) ≤ total_at k t
      go Less e ih = omega (arith, count_cons k o os Less e)
      go Equal e ih =
          omega (
            arith,
            count_cons k o os Equal e,
            count_total k os (asc_tail o os s),
            total_behind k o os e s,
            covered_first o os h,
            total_same k o t e,
          )
      go Greater e ih = omega (arith, count_cons k o os Greater e)

  pub covered_total : (os : List Row) → ascends os ≡ true → covered os t ≡ true → (k : Row) → total_at k os ≤ total_at k t
  covered_total os s h k = omega (arith, covered_at os s h k, count_total k os s)

  -- and where none is, it covers them
  pub covers : (os : List Row) → ((k : Row) → count_at k os ≤ total_at k t) → covered os t ≡ true
  unfolding covered
  covers [] h = refl
  covers (o ∷ os) h =
      let p = count_cons o o os Equal (self_same o) in
      let q : o.part.bytes ≤ total_at o t = omega (arith, h o) in
      rw (le-leb o.part.bytes (total_at o t) q) (covers os (λ k. omega (arith, h k, count_cons k o os (compared k o) refl)))
