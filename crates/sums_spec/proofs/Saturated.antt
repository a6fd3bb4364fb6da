-- Where something saturates, the total of a sum is less than the sum of the totals. For a row added, for rows joined, then for removals.
-- Assumes nothing.
use mathlib.Core.Path.{◌≡◌, refl, ◌∙◌}
use mathlib.Core.Bool.{Bool, true, false, ◌&&◌, and-eq-true_iff, true≢false}
use mathlib.Core.List.{List, [], ◌∷◌}
use Prim.Native.Nat.{ℕ, ◌+◌, ◌≤◌, ◌<◌}
use native.Mathlib.Omega.{arith}
use lib.Dec.{leb}
use borrow.Author.Tests.{leb-true, leb-false}
use Rattle.fields_spec.specs.Varint.{largest}
use Rattle.rows_spec.specs.Rows.{Row, ascends}
use Rattle.rows_spec.specs.Removals.{nothing, basic, sectioned, total_rows}
use Rattle.std.specs.declared.cmp.Ordering.TheVariants.{Less, Equal, Greater}
use Rattle.rows_spec.proofs.Rows.{asc_tail, asc_cons}
use Rattle.rows_spec.proofs.Removals.{total_cons}
use Rattle.sums_spec.specs.Joins.{plus, add_row, joined}
use Rattle.sums_spec.specs.Sums.{unknown, bytes_at, sum_fits}
use Rattle.sums_spec.specs.AnyOrder.{small_rows, SaturatedTotal}
use Rattle.sums_spec.proofs.Adding.{add_cases}
use Rattle.sums_spec.proofs.Joining.{AllAfter, all_after, joined_ascends}
use Rattle.sums_spec.proofs.Losing.{basic_cases}
use Rattle.sums_spec.proofs.Exact.{bytes_at_lem, bytes_joined, most_added, most_joined, most_without}

-- rows behind a row have nothing at its pair
bytes_none : (r : Row) (l : List Row) → AllAfter r l → bytes_at r l ≡ 0
unfolding bytes_at
bytes_none r [] h = refl
bytes_none r (b ∷ l) h = bytes_at_lem r b l Less h.0 ∙ bytes_none r l h.1

less_added : (r : Row) (l : List Row) → ascends l ≡ true → r.part.bytes ≤ largest → largest < r.part.bytes + bytes_at r l
    → total_rows (add_row r l) < r.part.bytes + total_rows l
unfolding bytes_at
less_added r [] s k h = absurd (omega (arith, h, k))
less_added r (b ∷ l) s k h =
    let t = total_cons b l in
    add_cases (λ (m : List Row). total_rows m < r.part.bytes + total_rows (b ∷ l)) r b l
    (λ o. absurd (omega (arith, h, k, bytes_none r (b ∷ l) (all_after r (b ∷ l) (asc_cons r (b ∷ l) o s)))))
    (λ o. let e = bytes_at_lem r b l Equal o in let p = total_cons (plus r b) l in omega arith)
    (λ o. let e = bytes_at_lem r b l Greater o in let p = total_cons b (add_row r l) in let ih = less_added r l (asc_tail b l s) k (omega arith) in
    omega arith)

less_joined : (xs ys : List Row) → ascends xs ≡ true → ascends ys ≡ true → small_rows xs ≡ true → sum_fits xs ys ≡ false
    → total_rows (joined xs ys) < total_rows xs + total_rows ys
unfolding joined sum_fits small_rows
less_joined [] ys s u k h = absurd (true≢false h)
less_joined (x ∷ xs) ys s u k h =
    let small = (and-eq-true_iff (leb x.part.bytes largest) (small_rows xs)).0 k in
    go (leb (x.part.bytes + bytes_at x ys) largest) refl h (leb-true _ _ small.0) (λ f. less_joined xs ys (asc_tail x xs s) u small.1 f)
  where
    go : (b : Bool) → leb (x.part.bytes + bytes_at x ys) largest ≡ b → (b && sum_fits xs ys) ≡ false → x.part.bytes ≤ largest
        → (sum_fits xs ys ≡ false → total_rows (joined xs ys) < total_rows xs + total_rows ys)
        → total_rows (add_row x (joined xs ys)) < total_rows (x ∷ xs) + total_rows ys
    go true e f w ih = let l = ih f in omega (arith, most_added x (joined xs ys), total_cons x xs)
    go false e f w ih =
        let at = bytes_joined x xs ys (all_after x xs s) in
        let o = leb-false (x.part.bytes + bytes_at x ys) largest e in
        omega (arith, less_added x (joined xs ys) (joined_ascends xs ys u) w (omega arith), most_joined xs ys, total_cons x xs)

fits_one : (r : Row) (l : List Row) → sum_fits (r ∷ []) l ≡ false → largest < r.part.bytes + bytes_at r l
unfolding sum_fits
fits_one r l h = leb-false _ _ (go (leb (r.part.bytes + bytes_at r l) largest) h)
  where
    go : (b : Bool) → (b && true) ≡ false → b ≡ false
    go true e = e
    go false e = refl

-- WHERE SOMETHING SATURATES THE TOTAL IS LESS, AT EVERY VERSION
pub sum_less : (v : ℕ) → SaturatedTotal v
sum_less v nothing y p q k l e = absurd (true≢false e)
sum_less v (basic m) nothing p q k l e = absurd (true≢false e)
sum_less v (basic m) (basic n) p q k l e = let f = leb-false (m + n) largest e in omega arith
sum_less v (basic m) (sectioned ys) p q k l e =
    let f = fits_one (unknown m) ys e in
    let w = leb-true m largest k in
    basic_cases (λ (r : List Row). total_rows r < m + total_rows ys) v m ys (less_added (unknown m) ys q w f) (omega (arith, most_without m ys))
sum_less v (sectioned xs) nothing p q k l e = absurd (true≢false e)
sum_less v (sectioned xs) (basic n) p q k l e =
    let a = less_added (unknown n) xs p (leb-true n largest l) (fits_one (unknown n) xs e) in
    omega arith
sum_less v (sectioned xs) (sectioned ys) p q k l e = less_joined xs ys p q k e
