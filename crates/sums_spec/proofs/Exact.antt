-- From version 1 on a sum keeps the exact total wherever nothing saturates; at every version it is never more. For a row added, for rows
-- joined, then for removals.
-- Assumes nothing.
use mathlib.Core.Path.{◌≡◌, refl, sym, ap, ◌∙◌}
use mathlib.Core.Bool.{Bool, true, false, cond, and-eq-true_iff}
use mathlib.Core.List.{List, [], ◌∷◌}
use Prim.Native.Nat.{ℕ, ◌+◌, ◌≤◌}
use native.Mathlib.Omega.{arith}
use lib.Dec.{leb}
use borrow.Author.Tests.{leb-true}
use Rattle.fields_spec.specs.Varint.{largest}
use Rattle.records_spec.specs.Flags.{zeros, same}
use Rattle.records_spec.proofs.Owners.{same_self}
use Rattle.rows_spec.specs.Rows.{Row, compared, ascends}
use Rattle.rows_spec.specs.Removals.{Removal, nothing, basic, sectioned, rows_of_removal, total_rows, total}
use Rattle.rows_spec.specs.Order.{is_equal}
use Rattle.std.specs.declared.cmp.Ordering.{Ordering}
use Rattle.std.specs.declared.cmp.Ordering.TheVariants.{Less, Equal, Greater}
use Rattle.rows_spec.proofs.Comparing.{compared_same, right_same}
use Rattle.rows_spec.proofs.Rows.{asc_tail}
use Rattle.rows_spec.proofs.Removals.{total_cons, total_none}
use Rattle.sums_spec.specs.Joins.{plus, add_row, joined}
use Rattle.sums_spec.specs.Sums.{unknown, of_zeros, without_zeros, sum, bytes_at, sum_fits, exact}
use Rattle.sums_spec.proofs.Adding.{add_cases, add_none}
use Rattle.sums_spec.proofs.Joining.{AllAfter, all_after}
use Rattle.sums_spec.proofs.Losing.{basic_later, basic_cases}

-- ---- the bytes at a row's pair

pub bytes_at_lem : (r b : Row) (l : List Row) (o : Ordering) → compared r b ≡ o → bytes_at r (b ∷ l) ≡ cond (is_equal o) b.part.bytes (bytes_at r l)
unfolding bytes_at
bytes_at_lem r b l o e = ap (λ (p : Ordering). cond (is_equal p) b.part.bytes (bytes_at r l)) e

-- a row behind x does not stand at its pair
bytes_behind : (x a : Row) (l : List Row) → compared x a ≡ Less → bytes_at x (add_row a l) ≡ bytes_at x l
bytes_behind x a [] e = ap (bytes_at x) (add_none a) ∙ bytes_at_lem x a [] Less e
bytes_behind x a (b ∷ l) e =
    let ih = bytes_behind x a l e in
    add_cases (λ (m : List Row). bytes_at x m ≡ bytes_at x (b ∷ l)) a b l
    (λ o. bytes_at_lem x a (b ∷ l) Less e)
    (λ o. bytes_at_lem x (plus a b) l Less e ∙ sym (bytes_at_lem x b l Less (sym (right_same x a b o) ∙ e)))
    (λ o. kept x b l (add_row a l) ih)
  where
    kept : (x b : Row) (l m : List Row) → bytes_at x m ≡ bytes_at x l → bytes_at x (b ∷ m) ≡ bytes_at x (b ∷ l)
    kept x b l m e =
        bytes_at_lem x b m (compared x b) refl ∙ ap (cond (is_equal (compared x b)) b.part.bytes) e ∙ sym (bytes_at_lem x b l (compared x b) refl)

pub bytes_joined : (x : Row) (xs ys : List Row) → AllAfter x xs → bytes_at x (joined xs ys) ≡ bytes_at x ys
unfolding joined
bytes_joined x [] ys h = refl
bytes_joined x (a ∷ xs) ys h = bytes_behind x a (joined xs ys) h.0 ∙ bytes_joined x xs ys h.1

-- ---- the total

pub total_added : (r : Row) (l : List Row) → r.part.bytes + bytes_at r l ≤ largest → total_rows (add_row r l) ≡ r.part.bytes + total_rows l
total_added r [] h = ap total_rows (add_none r) ∙ total_cons r []
total_added r (b ∷ l) h =
    let t = total_cons b l in
    add_cases (λ (m : List Row). total_rows m ≡ r.part.bytes + total_rows (b ∷ l)) r b l
    (λ o. total_cons r (b ∷ l))
    (λ o. let e = bytes_at_lem r b l Equal o in let p = total_cons (plus r b) l in omega arith)
    (λ o. let e = bytes_at_lem r b l Greater o in let p = total_cons b (add_row r l) in let ih = total_added r l (omega arith) in omega arith)

fits_first : (x : Row) (xs ys : List Row) → sum_fits (x ∷ xs) ys ≡ true → (x.part.bytes + bytes_at x ys ≤ largest) × (sum_fits xs ys ≡ true)
unfolding sum_fits
fits_first x xs ys h =
    let a = (and-eq-true_iff (leb (x.part.bytes + bytes_at x ys) largest) (sum_fits xs ys)).0 h in
    (leb-true _ _ a.0, a.1)

pub total_joined : (xs ys : List Row) → ascends xs ≡ true → sum_fits xs ys ≡ true → total_rows (joined xs ys) ≡ total_rows xs + total_rows ys
unfolding joined
total_joined [] ys s h = let t = total_none in omega arith
total_joined (x ∷ xs) ys s h =
    let f = fits_first x xs ys h in
    let ih = total_joined xs ys (asc_tail x xs s) f.1 in
    let e = bytes_joined x xs ys (all_after x xs s) in
    let a = total_added x (joined xs ys) (omega (arith, f.0)) in
    let t = total_cons x xs in
    omega arith

-- ---- removals

-- FROM VERSION 1 ON THE EXACT TOTAL IS KEPT WHEREVER NOTHING SATURATES
pub sum_exact : (v : ℕ) → 1 ≤ v → (x y : Removal) → ascends (rows_of_removal x) ≡ true → exact x y ≡ true → total (sum v x y) ≡ total x + total y
sum_exact v h nothing y p e = omega arith
sum_exact v h (basic m) nothing p e = omega arith
sum_exact v h (basic m) (basic n) p e = let f = leb-true (m + n) largest e in omega arith
sum_exact v h (basic m) (sectioned ys) p e = ap total_rows (basic_later v m ys h) ∙ total_added (unknown m) ys (fits_first (unknown m) [] ys e).0
sum_exact v h (sectioned xs) nothing p e = omega arith
sum_exact v h (sectioned xs) (basic n) p e = let t = total_added (unknown n) xs (fits_first (unknown n) [] xs e).0 in omega arith
sum_exact v h (sectioned xs) (sectioned ys) p e = total_joined xs ys p e

-- ---- never more than was added

pub most_added : (r : Row) (l : List Row) → total_rows (add_row r l) ≤ r.part.bytes + total_rows l
most_added r [] = omega (arith, ap total_rows (add_none r), total_cons r [])
most_added r (b ∷ l) =
    let t = total_cons b l in
    let ih = most_added r l in
    add_cases (λ (m : List Row). total_rows m ≤ r.part.bytes + total_rows (b ∷ l)) r b l
    (λ e. omega (arith, total_cons r (b ∷ l)))
    (λ e. let p = total_cons (plus r b) l in omega arith)
    (λ e. let p = total_cons b (add_row r l) in omega arith)

pub most_joined : (xs ys : List Row) → total_rows (joined xs ys) ≤ total_rows xs + total_rows ys
unfolding joined
most_joined [] ys = omega (arith, total_none)
most_joined (x ∷ xs) ys = omega (arith, most_joined xs ys, most_added x (joined xs ys), total_cons x xs)

-- what is lost at version 0 has the bytes at a number's pair
pub most_without : (n : ℕ) (l : List Row) → total_rows (without_zeros l) + bytes_at (unknown n) l ≤ total_rows l
unfolding without_zeros bytes_at
most_without n [] = omega arith
most_without n (b ∷ l) = go (compared (unknown n) b) refl (most_without n l)
  where
    others : (z : Bool) → total_rows (without_zeros l) + bytes_at (unknown n) l ≤ total_rows l
        → total_rows (cond z (without_zeros l) (b ∷ without_zeros l)) + bytes_at (unknown n) l ≤ total_rows (b ∷ l)
    others true h = omega (arith, total_cons b l)
    others false h = omega (arith, total_cons b l, total_cons b (without_zeros l))

    go : (o : Ordering) → compared (unknown n) b ≡ o → total_rows (without_zeros l) + bytes_at (unknown n) l ≤ total_rows l
        → total_rows (without_zeros (b ∷ l)) + cond (is_equal o) b.part.bytes (bytes_at (unknown n) l) ≤ total_rows (b ∷ l)
    go Less o h = others (of_zeros b) h
    go Greater o h = others (of_zeros b) h
    go Equal o h =
        let z : of_zeros b ≡ true = ap (λ (i : List ℕ). same i zeros) (sym (compared_same (unknown n) b o).0) ∙ same_self zeros in
        rw z (omega (arith, h, total_cons b l))

-- AT EVERY VERSION A SUM IS AT MOST WHAT WAS ADDED, saturated or not
pub sum_most : (v : ℕ) (x y : Removal) → total (sum v x y) ≤ total x + total y
sum_most v nothing y = omega arith
sum_most v (basic m) nothing = omega arith
sum_most v (basic m) (basic n) = omega arith
sum_most v (basic m) (sectioned ys) =
    basic_cases (λ (l : List Row). total_rows l ≤ m + total_rows ys) v m ys (most_added (unknown m) ys) (omega (arith, most_without m ys))
sum_most v (sectioned xs) nothing = omega arith
sum_most v (sectioned xs) (basic n) = omega (arith, most_added (unknown n) xs)
sum_most v (sectioned xs) (sectioned ys) = most_joined xs ys
