-- The test for 6 is what it says: of totals that fit in 64 bits, all fit afterwards exactly where it passes.
-- Assumes nothing.
use mathlib.Core.Path.{◌≡◌, refl, ◌∙◌}
use mathlib.Core.Bool.{true, and-eq-true_iff}
use mathlib.Core.List.{List, [], ◌∷◌}
use Prim.Native.Nat.{◌+◌, ◌-◌, ◌≤◌}
use native.Mathlib.Omega.{arith}
use lib.Dec.{leb}
use borrow.Author.Tests.{leb-true, le-leb}
use Rattle.rows_spec.specs.Rows.{Row, compared, ascends}
use Rattle.records_spec.specs.Outcomes.{ok}
use Rattle.std.specs.declared.cmp.Ordering.{Ordering}
use Rattle.std.specs.declared.cmp.Ordering.TheVariants.{Less, Equal, Greater}
use Rattle.rows_spec.proofs.Comparing.{self_same}
use Rattle.rows_spec.proofs.Rows.{asc_tail}
use Rattle.totals_spec.specs.Table.{total_at}
use Rattle.totals_spec.specs.Recount.{count_at}
use Rattle.totals_spec.specs.Replacing.{largest_total, all_fit, replaced_rows, changed}
use Rattle.totals_spec.specs.Theorems.{In64Bits}
use Rattle.totals_spec.proofs.Totals.{total_same, total_behind}
use Rattle.totals_spec.proofs.Counts.{count_none, count_cons, count_total}
use Rattle.totals_spec.proofs.Accepted.{accepted, replaced_total}

module _ (os t : List Row) where
  pub fits_first : (n : Row) (ns : List Row) → all_fit os (n ∷ ns) t ≡ true → total_at n t - total_at n os + n.part.bytes ≤ largest_total
  unfolding all_fit
  fits_first n ns h = leb-true _ _ ((and-eq-true_iff (leb (total_at n t - total_at n os + n.part.bytes) largest_total) (all_fit os ns t)).0 h).0

  pub fits_tail : (n : Row) (ns : List Row) → all_fit os (n ∷ ns) t ≡ true → all_fit os ns t ≡ true
  unfolding all_fit
  fits_tail n ns h = ((and-eq-true_iff (leb (total_at n t - total_at n os + n.part.bytes) largest_total) (all_fit os ns t)).0 h).1

module _ (os t : List Row) (s : ascends os ≡ true) where
  -- where it passes, no total passes 64 bits
  pub fits_at : (ns : List Row) → ascends ns ≡ true → all_fit os ns t ≡ true → (k : Row) → total_at k t ≤ largest_total
      → total_at k t - count_at k os + count_at k ns ≤ largest_total
  fits_at [] r h k m = omega (arith, count_none k)
  fits_at (n ∷ ns) r h k m = go (compared k n) refl (fits_at ns (asc_tail n ns r) (fits_tail os t n ns h) k m)
    where
      go : (p : Ordering) → compared k n ≡ p → total_at k t - count_at k os + count_at k ns ≤ largest_total
          → total_at k t - count_at k os + count_at k (n ∷ ns) ≤ largest_total
      go Less e ih = let c = count_cons k n ns Less e in omega arith
      go Equal e ih =
          let c = count_cons k n ns Equal e in
          let z = count_total k ns (asc_tail n ns r) ∙ total_behind k n ns e r in
          let o = count_total k os s ∙ total_same k n os e in
          omega (arith, total_same k n t e, fits_first os t n ns h)
      go Greater e ih = let c = count_cons k n ns Greater e in omega arith

  -- and where none does, it passes
  pub fits_all : (ns : List Row) → ((k : Row) → total_at k t - count_at k os + count_at k ns ≤ largest_total) → all_fit os ns t ≡ true
  unfolding all_fit
  fits_all [] h = refl
  fits_all (n ∷ ns) h =
      let c = count_cons n n ns Equal (self_same n) in
      let o = count_total n os s in
      let l : total_at n t - total_at n os + n.part.bytes ≤ largest_total = omega (arith, h n) in
      rw (le-leb (total_at n t - total_at n os + n.part.bytes) largest_total l)
      (fits_all ns (λ k. omega (arith, h k, count_cons k n ns (compared k n) refl)))

-- TOTALS OF 64 BITS STAY SO
pub changed_small : (os ns t u : List Row) → ascends os ≡ true → ascends ns ≡ true → ascends t ≡ true → changed os ns t ≡ ok u → In64Bits t
    → In64Bits u
changed_small os ns t u s r a h m k =
    let p = accepted os ns t u h in
    rw (p.is, replaced_total os ns t a k) (fits_at os t s ns r p.room k (m k))

-- 6 IS ONLY WHERE A TOTAL WOULD PASS THEM
pub small_fits : (os ns t : List Row) → ascends os ≡ true → ascends t ≡ true → In64Bits (replaced_rows os ns t) → all_fit os ns t ≡ true
small_fits os ns t s a m = fits_all os t s ns (λ k. rw (← replaced_total os ns t a k) (m k))
