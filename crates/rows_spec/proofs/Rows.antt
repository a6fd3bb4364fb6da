-- Rows and the three tables that hold them: their places, their room, and when they are proper.
-- Assumes nothing.
use mathlib.Core.Path.{◌≡◌, refl, sym, ap, ◌∙◌, subst}
use mathlib.Core.List.{List, [], ◌∷◌, ◌++◌}
use mathlib.Core.Bool.{true, false, ◌&&◌, and-eq-true_iff}
use Prim.Native.Nat.{ℕ, zero, suc, ◌+◌, ◌-◌, ◌≤◌, ◌<◌}
use native.Mathlib.Nat.{le_of_suc-le-suc, not-suc-le-zero}
use native.Mathlib.Numerals.{add-one}
use native.Mathlib.Omega.{arith}
use lib.Dec.{leb}
use lib.ListN.{length, take, drop, get_or, drop_of_length-le}
use lib.Seq.{drop-cons, length-take-le, get_or-take, take-suc, take-take}
use borrow.Author.Tests.{leb-true, le-leb, lt-leb}
use Rattle.records_spec.specs.Tables.{records_of}
use Rattle.rows_spec.specs.Order.{is_less}
use Rattle.rows_spec.specs.Rows.{Row, row, compared, leads, ascends, Tables, tables, rows_of, rows_in, row_at, room_in, proper_rows, Room}
use Rattle.rows_spec.specs.Inner.Rows.{Proper}
use Rattle.std.specs.declared.cmp.Ordering.{Ordering}
use Rattle.std.specs.declared.cmp.Ordering.TheVariants.{Less, Equal, Greater}
use Rattle.rows_spec.proofs.Comparing.{less_trans, left_same}

-- ---- the place of a row

at_place : (is : List (List ℕ)) (es bs : List ℕ) (i : ℕ) (d : Row) → i < length is → i < length es → i < length bs
    → get_or (rows_of is (records_of es bs)) i d ≡ row (get_or is i []) (get_or es i 0) (get_or bs i 0)
unfolding rows_of records_of
at_place [] es bs i d h k l = absurd (not-suc-le-zero h)
at_place (x ∷ is) [] bs i d h k l = absurd (not-suc-le-zero k)
at_place (x ∷ is) (e ∷ es) [] i d h k l = absurd (not-suc-le-zero l)
at_place (x ∷ is) (e ∷ es) (b ∷ bs) zero d h k l = refl
at_place (x ∷ is) (e ∷ es) (b ∷ bs) (suc i) d h k l = at_place is es bs i d (le_of_suc-le-suc h) (le_of_suc-le-suc k) (le_of_suc-le-suc l)

as_long : (is : List (List ℕ)) (es bs : List ℕ) (n : ℕ) → n ≤ length is → n ≤ length es → n ≤ length bs → n ≤ length (rows_of is (records_of es bs))
unfolding rows_of records_of
as_long is es bs zero h k l = omega arith
as_long [] es bs (suc n) h k l = absurd (not-suc-le-zero h)
as_long (x ∷ is) [] bs (suc n) h k l = absurd (not-suc-le-zero k)
as_long (x ∷ is) (e ∷ es) [] (suc n) h k l = absurd (not-suc-le-zero l)
as_long (x ∷ is) (e ∷ es) (b ∷ bs) (suc n) h k l =
    let r : n ≤ length (rows_of is (records_of es bs)) = as_long is es bs n (le_of_suc-le-suc h) (le_of_suc-le-suc k) (le_of_suc-le-suc l) in
    omega arith

no_row : Row
no_row = row [] 0 0

module _ {n : ℕ} {t : Tables} (r : Room n t) where
  pub length_rows : length (rows_in n t) ≡ n
  length_rows = length-take-le n _ (as_long t.ids t.epochs t.bytes n r.ids_long r.epochs_long r.bytes_long)

  row_at_lem : (i : ℕ) → i < n → get_or (rows_in n t) i no_row ≡ row_at t i
  row_at_lem i h =
      get_or-take n _ i no_row h
      ∙ at_place t.ids t.epochs t.bytes i no_row (omega (arith, r.ids_long)) (omega (arith, r.epochs_long)) (omega (arith, r.bytes_long))

  -- the rows from a place on: the row there, and those behind
  pub rows_on : (i : ℕ) → i < n → drop i (rows_in n t) ≡ row_at t i ∷ drop (i + 1) (rows_in n t)
  rows_on i h =
      let l : i < length (rows_in n t) = rw length_rows h in
      rw (add-one, drop-cons (rows_in n t) i no_row l, row_at_lem i h)

  pub rows_end : (i : ℕ) → n ≤ i → drop i (rows_in n t) ≡ []
  rows_end i h = drop_of_length-le (rows_in n t) {i = i} (rw length_rows h)

  -- the last row, behind those before it
  pub rows_last : 0 < n → rows_in n t ≡ rows_in (n - 1) t ++ (row_at t (n - 1) ∷ [])
  rows_last h =
      let all = rows_of t.ids (records_of t.epochs t.bytes) in
      let e : n ≡ suc (n - 1) = omega arith in
      let l : n - 1 < length all = omega (arith, as_long t.ids t.epochs t.bytes n r.ids_long r.epochs_long r.bytes_long) in
      ap (λ (k : ℕ). take k all) e ∙ take-suc all (n - 1) no_row l
      ∙ ap (λ (x : Row). take (n - 1) all ++ (x ∷ [])) (sym (get_or-take n all (n - 1) no_row (omega arith)) ∙ row_at_lem (n - 1) (omega arith))

-- ---- room

pub room_in_lem : (n : ℕ) (t : Tables) → room_in n t ≡ true → Room n t
room_in_lem n t h =
    let a = (and-eq-true_iff (leb n (length t.ids)) (leb n (length t.epochs) && leb n (length t.bytes))).0 h in
    let b = (and-eq-true_iff (leb n (length t.epochs)) (leb n (length t.bytes))).0 a.1 in
    record { ids_long = leb-true _ _ a.0; epochs_long = leb-true _ _ b.0; bytes_long = leb-true _ _ b.1 }

pub has_room : {n : ℕ} {t : Tables} → Room n t → room_in n t ≡ true
has_room r = simp (le-leb _ _ r.ids_long, le-leb _ _ r.epochs_long, le-leb _ _ r.bytes_long)

module _ (n : ℕ) (t : Tables) where
  pub short_ids : length t.ids < n → room_in n t ≡ false
  short_ids h = simp (lt-leb _ _ h)

-- less has room where more has
pub room_less : {n : ℕ} {t : Tables} (m : ℕ) → m ≤ n → Room n t → Room m t
room_less m p r =
    record { ids_long = omega (arith, r.ids_long); epochs_long = omega (arith, r.epochs_long); bytes_long = omega (arith, r.bytes_long) }

-- ---- ascending rows

pub is_less_lem : (o : Ordering) → is_less o ≡ true → o ≡ Less
is_less_lem Less h = refl
is_less_lem Equal h = cc
is_less_lem Greater h = cc

-- a row stands before the first of some rows, if there is one
abbrev pub Before : Row → List Row → Type 0
Before a [] = Unit {0}
Before a (b ∷ l) = compared a b ≡ Less

pub before_trans : (a b : Row) (l : List Row) → compared a b ≡ Less → Before b l → Before a l
before_trans a b [] e h = tt
before_trans a b (c ∷ l) e h = less_trans a b c e h

-- rows of one pair are before the same rows
pub before_same : (a b : Row) (l : List Row) → compared a b ≡ Equal → Before b l → Before a l
before_same a b [] e h = tt
before_same a b (c ∷ l) e h = left_same c a b e ∙ h

pub asc_none : ascends [] ≡ true
unfolding ascends
asc_none = refl

pub asc_before : (a : Row) (l : List Row) → ascends (a ∷ l) ≡ true → Before a l
unfolding ascends
asc_before a [] h = tt
asc_before a (b ∷ l) h = is_less_lem (compared a b) ((and-eq-true_iff (leads a (b ∷ l)) (ascends (b ∷ l))).0 h).0

pub asc_tail : (a : Row) (l : List Row) → ascends (a ∷ l) ≡ true → ascends l ≡ true
unfolding ascends
asc_tail a l h = ((and-eq-true_iff (leads a l) (ascends l)).0 h).1

pub asc_cons : (a : Row) (l : List Row) → Before a l → ascends l ≡ true → ascends (a ∷ l) ≡ true
unfolding ascends
asc_cons a [] h s = refl
asc_cons a (b ∷ l) h s = rw h s

pub asc_drop : (l : List Row) (i : ℕ) → ascends l ≡ true → ascends (drop i l) ≡ true
asc_drop l zero h = h
asc_drop [] (suc i) h = h
asc_drop (a ∷ l) (suc i) h = asc_drop l i (asc_tail a l h)

module _ {n : ℕ} {t : Tables} (r : Room n t) (i : ℕ) where
  pub asc_at : i + 1 < n
      → ascends (drop i (rows_in n t)) ≡ (is_less (compared (row_at t i) (row_at t (i + 1))) && ascends (drop (i + 1) (rows_in n t)))
  unfolding ascends
  asc_at h = rw (rows_on r i (omega arith), rows_on r (i + 1) h)

  -- the last row, or none
  pub asc_last : n ≤ i + 1 → ascends (drop i (rows_in n t)) ≡ true
  unfolding ascends
  asc_last h =
      elim (native.Mathlib.Decide.dec_lt i n) [
        | yes p ↦ rw (rows_on r i p, rows_end r (i + 1) h)
        | no p ↦ rw (rows_end r i (omega arith))
      ]

-- the rows from the one before a place on, by whether that is less
pub asc_next : {n : ℕ} {t : Tables} → Room n t → (i : ℕ) → 0 < i → i < n
    → ascends (drop (i - 1) (rows_in n t)) ≡ (is_less (compared (row_at t (i - 1)) (row_at t i)) && ascends (drop i (rows_in n t)))
asc_next {n} {t} r i h k =
    let before = i - 1 in
    let e : before + 1 ≡ i = omega arith in
    subst (λ (j : ℕ). ascends (drop before (rows_in n t)) ≡ (is_less (compared (row_at t before) (row_at t j)) && ascends (drop j (rows_in n t)))) e
    (asc_at r before (omega arith))

-- ---- proper rows

pub proper_room : {n : ℕ} {t : Tables} → Room n t → proper_rows n t ≡ ascends (rows_in n t)
unfolding proper_rows
proper_room r = simp (has_room r)

module _ (n : ℕ) (t : Tables) where
  pub proper_short : room_in n t ≡ false → proper_rows n t ≡ false
  unfolding proper_rows
  proper_short h = simp h

  pub proper_rows_lem : proper_rows n t ≡ true → Proper n t
  unfolding proper_rows
  proper_rows_lem h =
      let a = (and-eq-true_iff (room_in n t) (ascends (rows_in n t))).0 h in
      record { room = room_in_lem n t a.0; rises = a.1 }

-- ---- the first of proper rows

before_first : (a : Row) (l : List Row) (i : ℕ) → Before a l → Before a (take i l)
before_first a [] zero h = tt
before_first a [] (suc i) h = tt
before_first a (b ∷ l) zero h = tt
before_first a (b ∷ l) (suc i) h = h

asc_first : (l : List Row) (i : ℕ) → ascends l ≡ true → ascends (take i l) ≡ true
asc_first [] zero h = asc_none
asc_first [] (suc i) h = asc_none
asc_first (a ∷ l) zero h = asc_none
asc_first (a ∷ l) (suc i) h = asc_cons a (take i l) (before_first a l i (asc_before a l h)) (asc_first l i (asc_tail a l h))

pub proper_first : {n : ℕ} {t : Tables} (m : ℕ) → m ≤ n → Proper n t → Proper m t
proper_first {n} {t} m h p =
    record { room = room_less m h p.room; rises = ap ascends (sym (take-take m n _ h)) ∙ asc_first (rows_in n t) m p.rises }

pub proper_none : (t : Tables) → Proper 0 t
proper_none t = record { room = record { ids_long = omega arith; epochs_long = omega arith; bytes_long = omega arith }; rises = asc_none }

-- ---- one row

pub rows_one : (i : List ℕ) (e n : ℕ) → rows_in 1 (tables (i ∷ []) (e ∷ []) (n ∷ [])) ≡ row i e n ∷ []
unfolding rows_of records_of
rows_one i e n = refl

pub proper_one : (i : List ℕ) (e n : ℕ) → Proper 1 (tables (i ∷ []) (e ∷ []) (n ∷ []))
proper_one i e n =
    record {
      room = record { ids_long = omega arith; epochs_long = omega arith; bytes_long = omega arith };
      rises = ap ascends (rows_one i e n) ∙ asc_cons (row i e n) [] tt asc_none;
    }
