-- Counts added to a table, the last of them first: its total is put in its place, and the others are added to the rows before it.
-- Assumes nothing.
use mathlib.Core.Path.{◌≡◌, refl, sym, ap, ◌∙◌}
use mathlib.Core.Bool.{Bool, true, false, cond}
use mathlib.Core.List.{List, [], ◌∷◌, ◌++◌, append_assoc}
use Prim.Native.Nat.{ℕ, zero, suc, ◌+◌, ◌≤◌, ◌<◌}
use native.Mathlib.Omega.{arith}
use lib.Dec.{ltb}
use lib.ListN.{length, take, drop}
use lib.Seq.{length-take-le, drop_at}
use borrow.Author.Tests.{lt-ltb}
use Rattle.rows_spec.specs.Rows.{Row, compared, ascends}
use Rattle.rows_spec.specs.Order.{is_equal}
use Rattle.std.specs.declared.cmp.Ordering.{Ordering}
use Rattle.std.specs.declared.cmp.Ordering.TheVariants.{Less, Equal, Greater}
use Rattle.rows_spec.proofs.Comparing.{less_trans, flipped, self_same}
use Rattle.rows_spec.proofs.Rows.{asc_before, asc_tail, asc_drop}
use Rattle.totals_spec.specs.Table.{all_positive, total_at, row_if, put_beside, put_total, with_total, add_count, add_counts}
use Rattle.totals_spec.specs.Replacing.{largest_total, all_fit}
use Rattle.totals_spec.specs.Inner.Steps.{place_in}
use Rattle.totals_spec.proofs.Totals.{total_none, total_at_lem, total_before, total_same, above_none, above_cons, above_first, above_tail}
use Rattle.totals_spec.proofs.Totals.{put_none, put_at, put_ascends, put_back}
use Rattle.totals_spec.proofs.Counts.{add_ascends, add_above}
use Rattle.totals_spec.proofs.Places.{place_within}
use Rattle.totals_spec.proofs.Fitting.{fits_first, fits_tail}
use Rattle.totals_spec.proofs.Lengths.{one_most, length_put, made_or_there}

-- the place behind a row, where it stands among others; its place, where it does not
abbrev pub behind_in : Row → List Row → ℕ
behind_in k l = place_in k l + cond (ltb 0 (total_at k l)) 1 0

pub behind_within : (k : Row) (l : List Row) → behind_in k l ≤ length l
unfolding place_in total_at
behind_within k [] = omega arith
behind_within k (b ∷ l) = go (compared b k) refl (behind_within k l)
  where
    go : (o : Ordering) → compared b k ≡ o → behind_in k l ≤ length l → behind_in k (b ∷ l) ≤ suc (length l)
    go Less e ih = rw (e, flipped b k Less e) (omega arith)
    go Equal e ih = rw e (omega (arith, one_most (ltb 0 (total_at k (b ∷ l)))))
    go Greater e ih = rw e (omega (arith, one_most (ltb 0 (total_at k (b ∷ l)))))

-- ---- one count

-- a total is put in its place: what is before and behind it stays
put_split : (k : Row) (n : ℕ) → 0 < n → (l : List Row) → ascends l ≡ true → all_positive l ≡ true
    → put_total (with_total k n) l ≡ take (place_in k l) l ++ (with_total k n ∷ drop (behind_in k l) l)
unfolding place_in
put_split k n p [] s a = put_none (with_total k n) ∙ rw (lt-ltb 0 n p, total_none k)
put_split k n p (b ∷ l) s a = put_at (with_total k n) b l (compared k b) refl
    ∙ go (compared k b) refl (put_split k n p l (asc_tail b l s) (above_tail b l a))
  where
    go : (o : Ordering) → compared k b ≡ o → put_total (with_total k n) l ≡ take (place_in k l) l ++ (with_total k n ∷ drop (behind_in k l) l)
        → put_beside o (with_total k n) b l (put_total (with_total k n) l)
        ≡ take (place_in k (b ∷ l)) (b ∷ l) ++ (with_total k n ∷ drop (behind_in k (b ∷ l)) (b ∷ l))
    go Less e ih = rw (lt-ltb 0 n p, flipped k b Less e, total_before k (b ∷ l) e s)
    go Equal e ih = rw (lt-ltb 0 n p, flipped k b Equal e, total_at_lem k b l Equal e, lt-ltb 0 b.part.bytes (above_first b l a))
    go Greater e ih =
        let next : suc (place_in k l) + cond (ltb 0 (total_at k l)) 1 0 ≡ suc (behind_in k l) = omega arith in
        rw (flipped k b Greater e, total_at_lem k b l Greater e, next) (ap (λ (m : List Row). b ∷ m) ih)

-- a count of 0 changes nothing
pub count_nothing : (r : Row) (l : List Row) → ascends l ≡ true → all_positive l ≡ true → r.part.bytes ≤ 0 → add_count r l ≡ l
count_nothing r l s a h =
    let z : total_at r l + r.part.bytes ≡ total_at r l = omega arith in
    ap (λ (n : ℕ). put_total (with_total r n) l) z ∙ put_back r l s a

-- no count makes rows fewer
more_count : (r : Row) (l : List Row) → ascends l ≡ true → all_positive l ≡ true → length l ≤ length (add_count r l)
more_count r l s a =
    let n = total_at r l + r.part.bytes in
    let t = total_same (with_total r n) r l (self_same r) in
    omega (arith, rw t at (length_put (with_total r n) l s a), made_or_there (total_at r l) r.part.bytes)

pub more_counts : (rs l : List Row) → ascends l ≡ true → all_positive l ≡ true → length l ≤ length (add_counts rs l)
unfolding add_counts
more_counts [] l s a = omega arith
more_counts (r ∷ rs) l s a = omega (arith, more_counts rs l s a, more_count r (add_counts rs l) (add_ascends l rs s) (add_above l rs a))

-- ---- counts before a row

if_front : (r : Row) (l m : List Row) → row_if r (l ++ m) ≡ row_if r l ++ m
if_front r l m = go (ltb 0 r.part.bytes)
  where
    go : (t : Bool) → cond t (r ∷ (l ++ m)) (l ++ m) ≡ cond t (r ∷ l) l ++ m
    go true = refl
    go false = refl

module _ (s : Row) (m : List Row) where
  put_front : (r : Row) → compared r s ≡ Less → (l : List Row) → put_total r (l ++ (s ∷ m)) ≡ put_total r l ++ (s ∷ m)
  put_front r e [] = put_at r s m Less e ∙ if_front r [] (s ∷ m) ∙ ap (λ (u : List Row). u ++ (s ∷ m)) (sym (put_none r))
  put_front r e (b ∷ l) =
      put_at r b (l ++ (s ∷ m)) (compared r b) refl ∙ go (compared r b) (put_front r e l)
      ∙ ap (λ (u : List Row). u ++ (s ∷ m)) (sym (put_at r b l (compared r b) refl))
    where
      go : (o : Ordering) → put_total r (l ++ (s ∷ m)) ≡ put_total r l ++ (s ∷ m)
          → put_beside o r b (l ++ (s ∷ m)) (put_total r (l ++ (s ∷ m))) ≡ put_beside o r b l (put_total r l) ++ (s ∷ m)
      go Less ih = if_front r (b ∷ l) (s ∷ m)
      go Equal ih = if_front r l (s ∷ m)
      go Greater ih = ap (λ (u : List Row). b ∷ u) ih

  total_front : ascends (s ∷ m) ≡ true → (k : Row) → compared k s ≡ Less → (l : List Row) → total_at k (l ++ (s ∷ m)) ≡ total_at k l
  total_front a k e [] = total_before k (s ∷ m) e a ∙ sym (total_none k)
  total_front a k e (b ∷ l) =
      total_at_lem k b (l ++ (s ∷ m)) (compared k b) refl ∙ ap (cond (is_equal (compared k b)) b.part.bytes) (total_front a k e l)
      ∙ sym (total_at_lem k b l (compared k b) refl)

-- the first of ascending rows is before each behind it
before_later : (n s : Row) (m ns : List Row) → ascends (n ∷ (ns ++ (s ∷ m))) ≡ true → compared n s ≡ Less
before_later n s m [] a = asc_before n (s ∷ m) a
before_later n s m (x ∷ ns) a = less_trans n x s (asc_before n (x ∷ (ns ++ (s ∷ m))) a) (before_later x s m ns (asc_tail n (x ∷ (ns ++ (s ∷ m))) a))

module _ (k : Row) (n : ℕ) (m l z : List Row) (a : ascends (with_total k n ∷ m) ≡ true) where
  adds_front : (ns : List Row) → ascends (ns ++ (k ∷ z)) ≡ true → add_counts ns (l ++ (with_total k n ∷ m)) ≡ add_counts ns l ++ (with_total k n ∷ m)
  unfolding add_counts
  adds_front [] h = refl
  adds_front (r ∷ ns) h =
      let e : compared r k ≡ Less = before_later r k z ns h in
      let u = add_counts ns l in
      let s = with_total k n in
      ap (add_count r) (adds_front ns (asc_tail r (ns ++ (k ∷ z)) h))
      ∙ ap (λ (x : ℕ). put_total (with_total r (x + r.part.bytes)) (u ++ (s ∷ m))) (total_front s m a r e u)
      ∙ put_front s m (with_total r (total_at r u + r.part.bytes)) e u

pub add_none : (l : List Row) → add_counts [] l ≡ l
unfolding add_counts
add_none l = refl

-- the last count is added first
pub add_last : (r : Row) (l ns : List Row) → add_counts (ns ++ (r ∷ [])) l ≡ add_counts ns (add_count r l)
unfolding add_counts
add_last r l [] = refl
add_last r l (n ∷ ns) = ap (add_count n) (add_last r l ns)

-- THE LAST COUNT IS PUT IN ITS PLACE, AND THE OTHERS ARE ADDED TO THE ROWS BEFORE IT
pub adds_split : (k : Row) (n : ℕ) (ns z l : List Row) → ascends (ns ++ (with_total k n ∷ z)) ≡ true → 0 < n → ascends l ≡ true → all_positive l ≡ true
    → add_counts (ns ++ (with_total k n ∷ [])) l
    ≡ (add_counts ns (take (place_in k l) l) ++ (with_total k (total_at k l + n) ∷ [])) ++ drop (behind_in k l) l
adds_split k n ns z l h p s a =
    let c = total_at k l + n in
    let first = take (place_in k l) l in
    let rest = drop (behind_in k l) l in
    let e : put_total (with_total k c) l ≡ first ++ (with_total k c ∷ rest) = put_split k c (omega arith) l s a in
    let d : drop (place_in k l) (put_total (with_total k c) l) ≡ with_total k c ∷ rest =
    ap (drop (place_in k l)) e ∙ drop_at first (with_total k c ∷ rest) (place_in k l) (length-take-le (place_in k l) l (place_within k l)) in
    let r : ascends (with_total k c ∷ rest) ≡ true = rw d at (asc_drop (put_total (with_total k c) l) (place_in k l) (put_ascends (with_total k c) l s)) in
    add_last (with_total k n) l ns
    ∙ ap (λ (x : ℕ). add_counts ns (put_total (with_total k (x + n)) l)) (total_same (with_total k n) k l (self_same k))
    ∙ ap (add_counts ns) e
    ∙ adds_front (with_total k n) c rest first z r ns h
    ∙ sym (append_assoc (add_counts ns first) (with_total k c ∷ []) rest)

-- ---- the first rows of a table

pub total_first : (k : Row) (l : List Row) (i : ℕ) → total_at k (take i l) ≤ total_at k l
unfolding total_at
total_first k [] zero = omega arith
total_first k [] (suc i) = omega arith
total_first k (b ∷ l) zero = omega arith
total_first k (b ∷ l) (suc i) = go (is_equal (compared k b)) (total_first k l i)
  where
    go : (e : Bool) → total_at k (take i l) ≤ total_at k l → cond e b.part.bytes (total_at k (take i l)) ≤ cond e b.part.bytes (total_at k l)
    go true ih = omega arith
    go false ih = ih

pub first_above : (l : List Row) (i : ℕ) → all_positive l ≡ true → all_positive (take i l) ≡ true
first_above [] zero a = a
first_above [] (suc i) a = a
first_above (b ∷ l) zero a = above_none
first_above (b ∷ l) (suc i) a = above_cons b (take i l) (above_first b l a) (first_above l i (above_tail b l a))

-- where all counts fit, each does
pub fits_one : (n : Row) (t z ns : List Row) → all_fit [] (ns ++ (n ∷ z)) t ≡ true → total_at n t + n.part.bytes ≤ largest_total
fits_one n t z [] h = omega (arith, total_none n, fits_first [] t n z h)
fits_one n t z (r ∷ ns) h = fits_one n t z ns (fits_tail [] t r (ns ++ (n ∷ z)) h)
