-- A row added to rows: by how it stands to the first, in any order, and two rows of one pair as one. Ascending rows stay so.
-- Assumes nothing.
use mathlib.Core.Path.{◌≡◌, refl, sym, ap, ◌∙◌}
use mathlib.Core.Bool.{true}
use mathlib.Core.List.{List, [], ◌∷◌}
use Prim.Native.Nat.{ℕ}
use native.Mathlib.Omega.{arith}
use Rattle.rows_spec.specs.Rows.{Row, row, compared, ascends}
use Rattle.std.specs.declared.cmp.Ordering.{Ordering}
use Rattle.std.specs.declared.cmp.Ordering.TheVariants.{Less, Equal, Greater}
use Rattle.rows_spec.proofs.Comparing.{flipped, less_trans, right_same, left_same, row_same}
use Rattle.rows_spec.proofs.Rows.{Before, before_same, asc_before, asc_tail, asc_cons}
use Rattle.sums_spec.specs.Joins.{capped, plus, add_beside, add_row}

-- ---- a row added

-- by how it stands to the first
pub add_at : (r b : Row) (l : List Row) (o : Ordering) → compared r b ≡ o → add_row r (b ∷ l) ≡ add_beside o r b l (add_row r l)
unfolding add_row
add_at r b l o h = ap (λ (p : Ordering). add_beside p r b l (add_row r l)) h

pub add_none : (r : Row) → add_row r [] ≡ r ∷ []
unfolding add_row
add_none r = refl

-- before them all
pub add_before : (a : Row) (l : List Row) → Before a l → add_row a l ≡ a ∷ l
add_before a [] h = add_none a
add_before a (b ∷ l) h = add_at a b l Less h

-- two rows before the same rows
two : (a b : Row) (m : List Row) → add_row a m ≡ a ∷ m → add_row b m ≡ b ∷ m → add_row a (b ∷ m) ≡ add_row b (a ∷ m)
two a b m ha hb = go (compared a b) refl
  where
    go : (o : Ordering) → compared a b ≡ o → add_row a (b ∷ m) ≡ add_row b (a ∷ m)
    go Less e = add_at a b m Less e ∙ ap (λ (l : List Row). a ∷ l) (sym hb) ∙ sym (add_at b a m Greater (flipped a b Less e))
    go Equal e = add_at a b m Equal e ∙ ap (λ (r : Row). r ∷ m) (row_same a b _ _ e (omega arith)) ∙ sym (add_at b a m Equal (flipped a b Equal e))
    go Greater e = add_at a b m Greater e ∙ ap (λ (l : List Row). b ∷ l) ha ∙ sym (add_at b a m Less (flipped a b Greater e))

module _ (a b x : Row) (l : List Row) where
  less_less : compared a x ≡ Less → compared b x ≡ Less → add_row a (add_row b (x ∷ l)) ≡ add_row b (add_row a (x ∷ l))
  less_less p q =
      ap (add_row a) (add_at b x l Less q) ∙ two a b (x ∷ l) (add_at a x l Less p) (add_at b x l Less q) ∙ ap (add_row b) (sym (add_at a x l Less p))

  -- a is before b, which is not before x
  less_other : (o : Ordering) (m : List Row) → compared a b ≡ Less → compared a x ≡ Less → compared b x ≡ o → add_row b (x ∷ l) ≡ m → Before a m
      → add_row a (add_row b (x ∷ l)) ≡ add_row b (add_row a (x ∷ l))
  less_other o m ab p q e h =
      ap (add_row a) e ∙ add_before a m h
      ∙ sym (ap (add_row b) (add_at a x l Less p) ∙ add_at b a (x ∷ l) Greater (flipped a b Less ab) ∙ ap (λ (k : List Row). a ∷ k) e)

  less_equal : compared a x ≡ Less → compared b x ≡ Equal → add_row a (add_row b (x ∷ l)) ≡ add_row b (add_row a (x ∷ l))
  less_equal p q = let ab : compared a b ≡ Less = right_same a b x q ∙ p in less_other Equal _ ab p q (add_at b x l Equal q) ab

  less_greater : compared a x ≡ Less → compared b x ≡ Greater → add_row a (add_row b (x ∷ l)) ≡ add_row b (add_row a (x ∷ l))
  less_greater p q = less_other Greater _ (less_trans a x b p (flipped b x Greater q)) p q (add_at b x l Greater q) p

  equal_equal : compared a x ≡ Equal → compared b x ≡ Equal → add_row a (add_row b (x ∷ l)) ≡ add_row b (add_row a (x ∷ l))
  equal_equal p q =
      let ab : compared a b ≡ Equal = right_same a b x q ∙ p in
      ap (add_row a) (add_at b x l Equal q) ∙ add_at a (plus b x) l Equal ab ∙ ap (λ (y : Row). y ∷ l) (row_same a b _ _ ab (omega arith))
      ∙ sym (ap (add_row b) (add_at a x l Equal p) ∙ add_at b (plus a x) l Equal (flipped a b Equal ab))

  equal_greater : compared a x ≡ Equal → compared b x ≡ Greater → add_row a (add_row b (x ∷ l)) ≡ add_row b (add_row a (x ∷ l))
  equal_greater p q =
      ap (add_row a) (add_at b x l Greater q) ∙ add_at a x (add_row b l) Equal p
      ∙ sym (ap (add_row b) (add_at a x l Equal p) ∙ add_at b (plus a x) l Greater (right_same b a x p ∙ q))

  greater_greater : compared a x ≡ Greater → compared b x ≡ Greater → add_row a (add_row b l) ≡ add_row b (add_row a l)
      → add_row a (add_row b (x ∷ l)) ≡ add_row b (add_row a (x ∷ l))
  greater_greater p q ih =
      ap (add_row a) (add_at b x l Greater q) ∙ add_at a x (add_row b l) Greater p ∙ ap (λ (m : List Row). x ∷ m) ih
      ∙ sym (ap (add_row b) (add_at a x l Greater p) ∙ add_at b x (add_row a l) Greater q)

-- ROWS ARE ADDED IN ANY ORDER
pub add_comm : (a b : Row) (l : List Row) → add_row a (add_row b l) ≡ add_row b (add_row a l)
add_comm a b [] = ap (add_row a) (add_none b) ∙ two a b [] (add_none a) (add_none b) ∙ ap (add_row b) (sym (add_none a))
add_comm a b (x ∷ l) = go (compared a x) (compared b x) refl refl (add_comm a b l)
  where
    go : (p q : Ordering) → compared a x ≡ p → compared b x ≡ q → add_row a (add_row b l) ≡ add_row b (add_row a l)
        → add_row a (add_row b (x ∷ l)) ≡ add_row b (add_row a (x ∷ l))
    go Less Less p q ih = less_less a b x l p q
    go Less Equal p q ih = less_equal a b x l p q
    go Less Greater p q ih = less_greater a b x l p q
    go Equal Less p q ih = sym (less_equal b a x l q p)
    go Equal Equal p q ih = equal_equal a b x l p q
    go Equal Greater p q ih = equal_greater a b x l p q
    go Greater Less p q ih = sym (less_greater b a x l q p)
    go Greater Equal p q ih = sym (equal_greater b a x l q p)
    go Greater Greater p q ih = greater_greater a b x l p q ih

-- two rows of one pair are added as one
pub add_fused : (a x : Row) (m : List Row) → compared a x ≡ Equal → add_row a (add_row x m) ≡ add_row (plus a x) m
add_fused a x [] e = ap (add_row a) (add_none x) ∙ add_at a x [] Equal e ∙ sym (add_none (plus a x))
add_fused a x (y ∷ m) e = go (compared x y) refl (add_fused a x m e)
  where
    go : (p : Ordering) → compared x y ≡ p → add_row a (add_row x m) ≡ add_row (plus a x) m
        → add_row a (add_row x (y ∷ m)) ≡ add_row (plus a x) (y ∷ m)
    go Less p ih =
        ap (add_row a) (add_at x y m Less p) ∙ add_at a x (y ∷ m) Equal e ∙ sym (add_at (plus a x) y m Less (left_same y a x e ∙ p))
    go Equal p ih =
        let s : capped a.part.bytes (capped x.part.bytes y.part.bytes)
        ≡ capped (capped a.part.bytes x.part.bytes) y.part.bytes = omega arith in
        ap (add_row a) (add_at x y m Equal p) ∙ add_at a (plus x y) m Equal e ∙ ap (λ (n : ℕ). row a.identifier a.part.epoch n ∷ m) s
        ∙ sym (add_at (plus a x) y m Equal (left_same y a x e ∙ p))
    go Greater p ih =
        ap (add_row a) (add_at x y m Greater p) ∙ add_at a y (add_row x m) Greater (left_same y a x e ∙ p) ∙ ap (λ (l : List Row). y ∷ l) ih
        ∙ sym (add_at (plus a x) y m Greater (left_same y a x e ∙ p))

-- ---- ascending rows

-- by how the row stands to the first
pub add_cases : (P : List Row → Type 0) (r b : Row) (l : List Row)
    → (compared r b ≡ Less → P (r ∷ b ∷ l)) → (compared r b ≡ Equal → P (plus r b ∷ l)) → (compared r b ≡ Greater → P (b ∷ add_row r l))
    → P (add_row r (b ∷ l))
unfolding add_row
add_cases P r b l less equal greater = go (compared r b) refl
  where
    go : (o : Ordering) → compared r b ≡ o → P (add_beside o r b l (add_row r l))
    go Less e = less e
    go Equal e = equal e
    go Greater e = greater e

before_add : (a b : Row) (l : List Row) → compared a b ≡ Less → Before a l → Before a (add_row b l)
unfolding add_row
before_add a b [] h k = h
before_add a b (c ∷ l) h k = add_cases (Before a) b c l (λ e. h) (λ e. h) (λ e. k)

pub add_ascends : (r : Row) (l : List Row) → ascends l ≡ true → ascends (add_row r l) ≡ true
unfolding add_row
add_ascends r [] s = asc_cons r [] tt s
add_ascends r (b ∷ l) s =
    let ih = add_ascends r l (asc_tail b l s) in
    add_cases (λ (m : List Row). ascends m ≡ true) r b l
    (λ e. asc_cons r (b ∷ l) e s)
    (λ e. asc_cons (plus r b) l (before_same (plus r b) b l e (asc_before b l s)) (asc_tail b l s))
    (λ e. asc_cons b (add_row r l) (before_add b r l (flipped r b Greater e) (asc_before b l s)) ih)
