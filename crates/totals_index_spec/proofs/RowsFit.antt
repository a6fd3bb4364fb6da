-- Whether every row of a table fits 64 bits afterwards is the test for 6, where its totals and the new counts fit. By `totals`' law on the
-- total at each pair.
-- Assumes nothing.
use mathlib.Core.Path.{◌≡◌, refl, sym, ◌∙◌}
use mathlib.Core.Bool.{Bool, true, false, cond, ◌&&◌, and-eq-true_iff}
use mathlib.Core.List.{List, [], ◌∷◌}
use Prim.Native.Nat.{ℕ, zero, suc, ◌+◌, ◌-◌, ◌≤◌}
use native.Mathlib.Omega.{arith}
use lib.Dec.{leb}
use lib.ListN.{take}
use borrow.Author.Tests.{leb-true, le-leb}
use Rattle.records_spec.specs.Tables.{records_of}
use Rattle.rows_spec.specs.Rows.{Row, compared, ascends, rows_of, rows_in, rows_under}
use Rattle.rows_spec.specs.Order.{is_equal}
use Rattle.std.specs.declared.cmp.Ordering.{Ordering}
use Rattle.std.specs.declared.cmp.Ordering.TheVariants.{Less, Equal, Greater}
use Rattle.rows_spec.proofs.Comparing.{self_same}
use Rattle.rows_spec.proofs.Rows.{asc_tail}
use Rattle.totals_spec.specs.Table.{total_at}
use Rattle.totals_spec.specs.Replacing.{largest_total, all_fit}
use Rattle.totals_spec.specs.Inner.Steps.{under}
use Rattle.totals_spec.specs.Theorems.{In64Bits}
use Rattle.totals_spec.proofs.Totals.{total_none, total_at_lem, total_same, total_behind}
use Rattle.totals_spec.proofs.Counts.{count_total}
use Rattle.totals_spec.proofs.Fitting.{fits_at, fits_all}
use Rattle.totals_index_spec.specs.Inner.Judging.{Small, TotalsFit}
use Rattle.totals_index_spec.specs.Structs.{owners_of, total_epochs_of, totals_of, columns}
use Rattle.totals_index_spec.specs.declared.structs.Total.{Total}

-- no row's total less the old count plus the new passes 64 bits
unfoldable pub rows_fit_lem : List Row → List Row → List Row → Bool
rows_fit_lem os ns [] = true
rows_fit_lem os ns (b ∷ t) = leb (b.part.bytes - total_at b os + total_at b ns) largest_total && rows_fit_lem os ns t

-- a total behind the first row is one of the whole
total_tail : (k b : Row) (t : List Row) → ascends (b ∷ t) ≡ true → total_at k t ≤ total_at k (b ∷ t)
total_tail k b t s = go (compared k b) refl
  where
    go : (o : Ordering) → compared k b ≡ o → total_at k t ≤ total_at k (b ∷ t)
    go Less e = omega (arith, total_at_lem k b t Less e)
    go Equal e = omega (arith, total_behind k b t e s)
    go Greater e = omega (arith, total_at_lem k b t Greater e)

module _ (os ns : List Row) where
  -- the change leaves a total at every pair that fits
  abbrev FitAt : List Row → Type 0
  FitAt t = (k : Row) → total_at k t - total_at k os + total_at k ns ≤ largest_total

  fit_rows : (t : List Row) → ascends t ≡ true → FitAt t → rows_fit_lem os ns t ≡ true
  unfolding rows_fit_lem
  fit_rows [] s h = refl
  fit_rows (b ∷ t) s h =
      let l : b.part.bytes - total_at b os + total_at b ns ≤ largest_total = omega (arith, h b, total_at_lem b b t Equal (self_same b)) in
      rw (le-leb (b.part.bytes - total_at b os + total_at b ns) largest_total l)
      (fit_rows t (asc_tail b t s) (λ k. omega (arith, h k, total_tail k b t s)))

  fit_at : (t : List Row) → rows_fit_lem os ns t ≡ true → In64Bits ns → FitAt t
  unfolding rows_fit_lem
  fit_at [] h m k = omega (arith, m k, total_none k)
  fit_at (b ∷ t) h m k =
      let p = (and-eq-true_iff (leb (b.part.bytes - total_at b os + total_at b ns) largest_total) (rows_fit_lem os ns t)).0 h in
      go (leb-true _ _ p.0) (compared k b) refl (fit_at t p.1 m k)
    where
      go : b.part.bytes - total_at b os + total_at b ns ≤ largest_total → (o : Ordering) → compared k b ≡ o
          → total_at k t - total_at k os + total_at k ns ≤ largest_total
          → total_at k (b ∷ t) - total_at k os + total_at k ns ≤ largest_total
      go f Less e ih = omega (arith, total_at_lem k b t Less e)
      go f Equal e ih = omega (arith, total_at_lem k b t Equal e, total_same k b os e, total_same k b ns e)
      go f Greater e ih = omega (arith, total_at_lem k b t Greater e)

  -- THE ROWS FIT EXACTLY WHERE THE NEW COUNTS DO
  pub rows_fit : (t : List Row) → ascends os ≡ true → ascends ns ≡ true → ascends t ≡ true → In64Bits t → In64Bits ns
      → rows_fit_lem os ns t ≡ all_fit os ns t
  rows_fit t a b s m l = go (rows_fit_lem os ns t) (all_fit os ns t) refl refl
    where
      passes : rows_fit_lem os ns t ≡ true → all_fit os ns t ≡ true
      passes h = fits_all os t a ns (λ k. omega (arith, fit_at t h l k, count_total k os a, count_total k ns b))

      back : all_fit os ns t ≡ true → rows_fit_lem os ns t ≡ true
      back h = fit_rows t s (λ k. omega (arith, fits_at os t a ns b h k (m k), count_total k os a, count_total k ns b))

      go : (x y : Bool) → rows_fit_lem os ns t ≡ x → all_fit os ns t ≡ y → x ≡ y
      go true y e f = sym (passes e) ∙ f
      go false true e f = sym e ∙ back f
      go false false e f = refl

-- ---- totals of 64 bits

-- one row more
small_cons : (r : Row) (l : List Row) → r.part.bytes ≤ largest_total → In64Bits l → In64Bits (r ∷ l)
small_cons r l h m k = rw (total_at_lem k r l (compared k r) refl) (go (is_equal (compared k r)))
  where
    go : (b : Bool) → cond b r.part.bytes (total_at k l) ≤ largest_total
    go true = h
    go false = m k

small_none : In64Bits []
small_none k = omega (arith, total_none k)

-- of the first records under an owner
pub small_under : (n : ℕ) (o es cs : List ℕ) → Small cs → In64Bits (under o (take n es) (take n cs))
unfolding rows_under records_of
small_under zero o es cs h = small_none
small_under (suc n) o [] cs h = small_none
small_under (suc n) o (e ∷ es) [] h = small_none
small_under (suc n) o (e ∷ es) (c ∷ cs) h = small_cons _ _ (h zero) (small_under n o es cs (λ i. h (suc i)))

-- of the first rows of a table of structs
pub small_rows_lem : (n : ℕ) (ts : List Total) → TotalsFit n ts → In64Bits (rows_in n (columns ts))
unfolding rows_of records_of owners_of total_epochs_of totals_of
small_rows_lem zero ts h = small_none
small_rows_lem (suc n) [] h = small_none
small_rows_lem (suc n) (t ∷ ts) h =
    small_cons _ _ (omega (arith, h zero (omega arith))) (small_rows_lem n ts (λ i l. h (suc i) (omega arith)))
