-- The total at a row's owner and epoch, and the table with another total put there: it stays proper, and no other total changes.
-- Assumes nothing.
use mathlib.Core.Path.{◌≡◌, refl, sym, ap, ◌∙◌}
use mathlib.Core.Bool.{Bool, true, false, cond, and-eq-true_iff}
use mathlib.Core.List.{List, [], ◌∷◌}
use Prim.Native.Nat.{ℕ, ◌≤◌, ◌<◌}
use native.Mathlib.Omega.{arith}
use lib.Dec.{ltb}
use borrow.Author.Tests.{ltb-true, ltb-false, lt-ltb}
use Rattle.rows_spec.specs.Rows.{Row, compared, ascends}
use Rattle.rows_spec.specs.Order.{is_equal}
use Rattle.std.specs.declared.cmp.Ordering.{Ordering}
use Rattle.std.specs.declared.cmp.Ordering.TheVariants.{Less, Equal, Greater}
use Rattle.rows_spec.proofs.Comparing.{compared_same, self_same, flipped, right_same, left_same, row_same}
use Rattle.rows_spec.proofs.Rows.{Before, before_trans, before_same, asc_before, asc_tail, asc_cons}
use Rattle.totals_spec.specs.Table.{all_positive, total_at, row_if, put_beside, put_total, with_total}

-- ---- the total at a row

pub total_none : (k : Row) → total_at k [] ≡ 0
unfolding total_at
total_none k = refl

-- by how it stands to the first
pub total_at_lem : (k b : Row) (l : List Row) (o : Ordering) → compared k b ≡ o → total_at k (b ∷ l) ≡ cond (is_equal o) b.part.bytes (total_at k l)
unfolding total_at
total_at_lem k b l o h = ap (λ (p : Ordering). cond (is_equal p) b.part.bytes (total_at k l)) h

-- a row before them all has none
pub total_before : (k : Row) (l : List Row) → Before k l → ascends l ≡ true → total_at k l ≡ 0
total_before k [] h s = total_none k
total_before k (b ∷ l) h s = total_at_lem k b l Less h ∙ total_before k l (before_trans k b l h (asc_before b l s)) (asc_tail b l s)

-- rows of one pair have one total
pub total_same : (a b : Row) (l : List Row) → compared a b ≡ Equal → total_at a l ≡ total_at b l
total_same a b [] h = total_none a ∙ sym (total_none b)
total_same a b (c ∷ l) h =
    total_at_lem a c l (compared b c) (left_same c a b h) ∙ ap (cond (is_equal (compared b c)) c.part.bytes) (total_same a b l h)
    ∙ sym (total_at_lem b c l (compared b c) refl)

-- no row behind the first is of its pair
pub total_behind : (k b : Row) (l : List Row) → compared k b ≡ Equal → ascends (b ∷ l) ≡ true → total_at k l ≡ 0
total_behind k b l h s = total_before k l (before_same k b l h (asc_before b l s)) (asc_tail b l s)

-- ---- no total is 0

pub above_none : all_positive [] ≡ true
unfolding all_positive
above_none = refl

pub above_cons : (r : Row) (l : List Row) → 0 < r.part.bytes → all_positive l ≡ true → all_positive (r ∷ l) ≡ true
unfolding all_positive
above_cons r l h s = rw (lt-ltb 0 r.part.bytes h) s

pub above_first : (r : Row) (l : List Row) → all_positive (r ∷ l) ≡ true → 0 < r.part.bytes
unfolding all_positive
above_first r l h = ltb-true 0 r.part.bytes ((and-eq-true_iff (ltb 0 r.part.bytes) (all_positive l)).0 h).0

pub above_tail : (r : Row) (l : List Row) → all_positive (r ∷ l) ≡ true → all_positive l ≡ true
unfolding all_positive
above_tail r l h = ((and-eq-true_iff (ltb 0 r.part.bytes) (all_positive l)).0 h).1

-- ---- another total put

-- a row that is put unless its total is 0
pub if_cases : (P : List Row → Type 0) (r : Row) (l : List Row) → (0 < r.part.bytes → P (r ∷ l)) → (r.part.bytes ≡ 0 → P l) → P (row_if r l)
if_cases P r l there gone = go (ltb 0 r.part.bytes) refl
  where
    go : (t : Bool) → ltb 0 r.part.bytes ≡ t → P (cond t (r ∷ l) l)
    go true e = there (ltb-true 0 r.part.bytes e)
    go false e = let z : r.part.bytes ≤ 0 = ltb-false 0 r.part.bytes e in gone (omega arith)

pub put_none : (r : Row) → put_total r [] ≡ row_if r []
unfolding put_total
put_none r = refl

-- by how the row stands to the first
pub put_at : (r b : Row) (l : List Row) (o : Ordering) → compared r b ≡ o → put_total r (b ∷ l) ≡ put_beside o r b l (put_total r l)
unfolding put_total
put_at r b l o h = ap (λ (p : Ordering). put_beside p r b l (put_total r l)) h

pub put_cases : (P : List Row → Type 0) (r b : Row) (l : List Row)
    → (compared r b ≡ Less → P (row_if r (b ∷ l))) → (compared r b ≡ Equal → P (row_if r l)) → (compared r b ≡ Greater → P (b ∷ put_total r l))
    → P (put_total r (b ∷ l))
unfolding put_total
put_cases P r b l less equal greater = go (compared r b) refl
  where
    go : (o : Ordering) → compared r b ≡ o → P (put_beside o r b l (put_total r l))
    go Less e = less e
    go Equal e = equal e
    go Greater e = greater e

pub before_put : (a r : Row) (l : List Row) → compared a r ≡ Less → Before a l → ascends l ≡ true → Before a (put_total r l)
before_put a r [] e h s = rw (put_none r) (if_cases (Before a) r [] (λ p. e) (λ p. tt))
before_put a r (b ∷ l) e h s =
    put_cases (Before a) r b l
    (λ o. if_cases (Before a) r (b ∷ l) (λ p. e) (λ p. h))
    (λ o. if_cases (Before a) r l (λ p. e) (λ p. before_trans a b l h (asc_before b l s)))
    (λ o. h)

-- ascending rows stay so
pub put_ascends : (r : Row) (l : List Row) → ascends l ≡ true → ascends (put_total r l) ≡ true
put_ascends r [] s = rw (put_none r) (if_cases (λ (m : List Row). ascends m ≡ true) r [] (λ p. asc_cons r [] tt s) (λ p. s))
put_ascends r (b ∷ l) s =
    let t = asc_tail b l s in
    let ih = put_ascends r l t in
    put_cases (λ (m : List Row). ascends m ≡ true) r b l
    (λ e. if_cases (λ (m : List Row). ascends m ≡ true) r (b ∷ l) (λ p. asc_cons r (b ∷ l) e s) (λ p. s))
    (λ e. if_cases (λ (m : List Row). ascends m ≡ true) r l (λ p. asc_cons r l (before_same r b l e (asc_before b l s)) t) (λ p. t))
    (λ e. asc_cons b (put_total r l) (before_put b r l (flipped r b Greater e) (asc_before b l s) t) ih)

if_above : (r : Row) (l : List Row) → all_positive l ≡ true → all_positive (row_if r l) ≡ true
if_above r l s = if_cases (λ (m : List Row). all_positive m ≡ true) r l (λ p. above_cons r l p s) (λ p. s)

-- and no total is 0
pub put_above : (r : Row) (l : List Row) → all_positive l ≡ true → all_positive (put_total r l) ≡ true
put_above r [] s = rw (put_none r) (if_above r [] s)
put_above r (b ∷ l) s =
    let t = above_tail b l s in
    let ih = put_above r l t in
    put_cases (λ (m : List Row). all_positive m ≡ true) r b l (λ e. if_above r (b ∷ l) s) (λ e. if_above r l t)
    (λ e. above_cons b (put_total r l) (above_first b l s) ih)

-- ---- the totals afterwards

total_if : (k r : Row) (l : List Row) → (compared k r ≡ Equal → total_at k l ≡ 0)
    → total_at k (row_if r l) ≡ cond (is_equal (compared k r)) r.part.bytes (total_at k l)
total_if k r l none =
    if_cases (λ (m : List Row). total_at k m ≡ cond (is_equal (compared k r)) r.part.bytes (total_at k l)) r l
    (λ p. total_at_lem k r l (compared k r) refl) (λ p. go p (compared k r) refl)
  where
    go : r.part.bytes ≡ 0 → (o : Ordering) → compared k r ≡ o → total_at k l ≡ cond (is_equal o) r.part.bytes (total_at k l)
    go p Less e = refl
    go p Equal e = none e ∙ sym p
    go p Greater e = refl

-- THE TOTAL PUT STANDS AT ITS PAIR, AND EVERY OTHER TOTAL IS THE SAME
pub total_put : (k r : Row) (l : List Row) → ascends l ≡ true
    → total_at k (put_total r l) ≡ cond (is_equal (compared k r)) r.part.bytes (total_at k l)
total_put k r [] s = ap (total_at k) (put_none r) ∙ total_if k r [] (λ e. total_none k)
total_put k r (b ∷ l) s =
    let ih = total_put k r l (asc_tail b l s) in
    put_cases (λ (m : List Row). total_at k m ≡ cond (is_equal (compared k r)) r.part.bytes (total_at k (b ∷ l))) r b l
    (λ e. total_if k r (b ∷ l) (λ f. total_before k (b ∷ l) (left_same b k r f ∙ e) s))
    (λ e. total_if k r l (λ f. total_behind k b l (left_same b k r f ∙ e) s) ∙ same (compared k r) e refl)
    (λ e. total_at_lem k b (put_total r l) (compared k b) refl ∙ ap (cond (is_equal (compared k b)) b.part.bytes) ih
    ∙ apart (compared k b) (compared k r) e refl refl)
  where
    same : (o : Ordering) → compared r b ≡ Equal → compared k r ≡ o
        → cond (is_equal o) r.part.bytes (total_at k l) ≡ cond (is_equal o) r.part.bytes (total_at k (b ∷ l))
    same Less e f = sym (total_at_lem k b l Less (sym (right_same k r b e) ∙ f))
    same Equal e f = refl
    same Greater e f = sym (total_at_lem k b l Greater (sym (right_same k r b e) ∙ f))

    apart : (o p : Ordering) → compared r b ≡ Greater → compared k b ≡ o → compared k r ≡ p
        → cond (is_equal o) b.part.bytes (cond (is_equal p) r.part.bytes (total_at k l)) ≡ cond (is_equal p) r.part.bytes (total_at k (b ∷ l))
    apart Less Less e f g = sym (total_at_lem k b l Less f)
    apart Less Equal e f g = refl
    apart Less Greater e f g = sym (total_at_lem k b l Less f)
    apart Equal Less e f g = sym (total_at_lem k b l Equal f)
    apart Equal Equal e f g = let h = left_same b k r g in cc
    apart Equal Greater e f g = sym (total_at_lem k b l Equal f)
    apart Greater Less e f g = sym (total_at_lem k b l Greater f)
    apart Greater Equal e f g = refl
    apart Greater Greater e f g = sym (total_at_lem k b l Greater f)

-- a total put back where it stands changes nothing
pub put_back : (r : Row) (l : List Row) → ascends l ≡ true → all_positive l ≡ true → put_total (with_total r (total_at r l)) l ≡ l
put_back r [] s a = ap (λ (n : ℕ). put_total (with_total r n) []) (total_none r) ∙ put_none (with_total r 0)
put_back r (b ∷ l) s a = go (compared r b) refl (put_back r l (asc_tail b l s) (above_tail b l a))
  where
    go : (o : Ordering) → compared r b ≡ o → put_total (with_total r (total_at r l)) l ≡ l
        → put_total (with_total r (total_at r (b ∷ l))) (b ∷ l) ≡ b ∷ l
    go Less e ih = ap (λ (n : ℕ). put_total (with_total r n) (b ∷ l)) (total_before r (b ∷ l) e s) ∙ put_at (with_total r 0) b l Less e
    go Equal e ih =
        ap (λ (n : ℕ). put_total (with_total r n) (b ∷ l)) (total_at_lem r b l Equal e) ∙ put_at (with_total r b.part.bytes) b l Equal e
        ∙ rw (lt-ltb 0 b.part.bytes (above_first b l a)) (ap (λ (x : Row). x ∷ l) (row_same r b _ _ e refl))
    go Greater e ih =
        ap (λ (n : ℕ). put_total (with_total r n) (b ∷ l)) (total_at_lem r b l Greater e) ∙ put_at (with_total r (total_at r l)) b l Greater e
        ∙ ap (λ (m : List Row). b ∷ m) ih

-- ---- the totals tell the table

module _ (x y : Row) (a b : List Row) (s : ascends (x ∷ a) ≡ true) (t : ascends (y ∷ b) ≡ true) (e : compared x y ≡ Equal)
    (same : (k : Row) → total_at k (x ∷ a) ≡ total_at k (y ∷ b)) where
  first_same : x ≡ y
  first_same =
      let p = compared_same x y e in
      let n : x.part.bytes ≡ y.part.bytes = sym (total_at_lem x x a Equal (self_same x)) ∙ same x ∙ total_at_lem x y b Equal e in
      λ j. record { identifier = p.0 j; part = record { epoch = p.1 j; bytes = n j } }

  behind_same : (k : Row) → total_at k a ≡ total_at k b
  behind_same k = go (compared k x) refl
    where
      on : (o : Ordering) → compared k x ≡ o → is_equal o ≡ false → total_at k a ≡ total_at k b
      on o f n =
          let p : total_at k (x ∷ a) ≡ total_at k a = total_at_lem k x a o f ∙ rw n in
          let q : total_at k (y ∷ b) ≡ total_at k b = total_at_lem k y b o (sym (right_same k x y e) ∙ f) ∙ rw n in
          sym p ∙ same k ∙ q

      go : (o : Ordering) → compared k x ≡ o → total_at k a ≡ total_at k b
      go Less f = on Less f refl
      go Equal f = total_behind k x a f s ∙ sym (total_behind k y b (sym (right_same k x y e) ∙ f) t)
      go Greater f = on Greater f refl

-- a row that is before a table is not its first
not_first : (x : Row) (a b : List Row) → all_positive (x ∷ a) ≡ true → Before x b → ascends b ≡ true → total_at x (x ∷ a) ≡ total_at x b → ⊥
not_first x a b f h t e = omega (arith, above_first x a f, total_at_lem x x a Equal (self_same x), total_before x b h t)

-- TABLES WITH THE SAME TOTALS ARE THE SAME
pub same_totals : (a b : List Row) → ascends a ≡ true → all_positive a ≡ true → ascends b ≡ true → all_positive b ≡ true
    → ((k : Row) → total_at k a ≡ total_at k b) → a ≡ b
same_totals [] [] s f t g same = refl
same_totals [] (y ∷ b) s f t g same = absurd (not_first y b [] g tt s (sym (same y)))
same_totals (x ∷ a) [] s f t g same = absurd (not_first x a [] f tt t (same x))
same_totals (x ∷ a) (y ∷ b) s f t g same =
    go (compared x y) refl (same_totals a b (asc_tail x a s) (above_tail x a f) (asc_tail y b t) (above_tail y b g))
  where
    go : (o : Ordering) → compared x y ≡ o → (((k : Row) → total_at k a ≡ total_at k b) → a ≡ b) → x ∷ a ≡ y ∷ b
    go Less e ih = absurd (not_first x a (y ∷ b) f e t (same x))
    go Equal e ih = ap (λ (l : List Row). x ∷ l) (ih (behind_same x y a b s t e same)) ∙ ap (λ (z : Row). z ∷ b) (first_same x y a b s t e same)
    go Greater e ih = absurd (not_first y b (x ∷ a) g (flipped x y Greater e) s (sym (same y)))
