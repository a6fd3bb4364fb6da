-- Rows joined: in any order and grouping, never shorter than either side, ascending; and from the back, by the last rows of both sides.
-- Assumes nothing.
use mathlib.Core.Path.{◌≡◌, refl, sym, ap, ◌∙◌}
use mathlib.Core.Bool.{true}
use mathlib.Core.List.{List, [], ◌∷◌, ◌++◌}
use Prim.Native.Nat.{◌≤◌}
use native.Mathlib.Omega.{arith}
use lib.ListN.{length}
use Rattle.rows_spec.specs.Rows.{Row, compared, ascends}
use Rattle.std.specs.declared.cmp.Ordering.TheVariants.{Less, Equal, Greater}
use Rattle.rows_spec.proofs.Comparing.{flipped, less_trans, right_same}
use Rattle.rows_spec.proofs.Rows.{asc_before, asc_tail}
use Rattle.sums_spec.specs.Joins.{plus, add_row, joined}
use Rattle.sums_spec.proofs.Adding.{add_at, add_none, add_before, add_comm, add_fused, add_cases, add_ascends}

pub joined_nothing : (ys : List Row) → joined [] ys ≡ ys
unfolding joined
joined_nothing ys = refl

-- rows joined with none
pub joined_none : (xs : List Row) → ascends xs ≡ true → joined xs [] ≡ xs
unfolding joined
joined_none [] s = refl
joined_none (x ∷ xs) s = ap (add_row x) (joined_none xs (asc_tail x xs s)) ∙ add_before x xs (asc_before x xs s)

-- a row more on the right
pub joined_add_right : (r : Row) (xs ys : List Row) → joined xs (add_row r ys) ≡ add_row r (joined xs ys)
unfolding joined
joined_add_right r [] ys = refl
joined_add_right r (x ∷ xs) ys = ap (add_row x) (joined_add_right r xs ys) ∙ add_comm x r (joined xs ys)

-- one row joined behind rows is added to them
pub joined_one : (r : Row) (xs : List Row) → ascends xs ≡ true → joined xs (r ∷ []) ≡ add_row r xs
joined_one r xs s = ap (joined xs) (sym (add_none r)) ∙ joined_add_right r xs [] ∙ ap (add_row r) (joined_none xs s)

-- a row more on the left
pub joined_add : (r : Row) (xs ys : List Row) → joined (add_row r xs) ys ≡ add_row r (joined xs ys)
unfolding joined
joined_add r [] ys = ap (λ (l : List Row). joined l ys) (add_none r)
joined_add r (x ∷ xs) ys =
    let ih = joined_add r xs ys in
    add_cases (λ (l : List Row). joined l ys ≡ add_row r (add_row x (joined xs ys))) r x xs
    (λ e. refl)
    (λ e. sym (add_fused r x (joined xs ys) e))
    (λ e. ap (add_row x) ih ∙ add_comm x r (joined xs ys))

-- JOINS COMMUTE
pub joined_comm : (xs ys : List Row) → ascends xs ≡ true → ascends ys ≡ true → joined xs ys ≡ joined ys xs
unfolding joined
joined_comm [] ys s t = sym (joined_none ys t)
joined_comm (x ∷ xs) ys s t =
    ap (add_row x) (joined_comm xs ys (asc_tail x xs s) t)
    ∙ sym (ap (joined ys) (sym (add_before x xs (asc_before x xs s))) ∙ joined_add_right x ys xs)

-- JOINS ASSOCIATE
pub joined_assoc : (xs ys zs : List Row) → joined (joined xs ys) zs ≡ joined xs (joined ys zs)
unfolding joined
joined_assoc [] ys zs = refl
joined_assoc (x ∷ xs) ys zs = joined_add x (joined xs ys) zs ∙ ap (add_row x) (joined_assoc xs ys zs)

pub joined_ascends : (xs ys : List Row) → ascends ys ≡ true → ascends (joined xs ys) ≡ true
unfolding joined
joined_ascends [] ys t = t
joined_ascends (x ∷ xs) ys t = add_ascends x (joined xs ys) (joined_ascends xs ys t)

-- ---- never shorter

pub more_add : (r : Row) (l : List Row) → length l ≤ length (add_row r l)
unfolding add_row
more_add r [] = omega arith
more_add r (b ∷ l) =
    let i = more_add r l in
    add_cases (λ (m : List Row). length (b ∷ l) ≤ length m) r b l (λ e. omega arith) (λ e. omega arith) (λ e. omega arith)

pub more_right : (xs ys : List Row) → length ys ≤ length (joined xs ys)
unfolding joined
more_right [] ys = omega arith
more_right (x ∷ xs) ys = let h = more_right xs ys in let g = more_add x (joined xs ys) in omega arith

pub more_left : (xs ys : List Row) → ascends xs ≡ true → ascends ys ≡ true → length xs ≤ length (joined xs ys)
more_left xs ys h k = rw (joined_comm xs ys h k) (more_right ys xs)

-- ---- the last row

-- every row is before x
abbrev pub AllBefore : Row → List Row → Type 0
AllBefore x [] = Unit {0}
AllBefore x (b ∷ l) = (compared b x ≡ Less) × AllBefore x l

-- every row is behind x
abbrev pub AllAfter : Row → List Row → Type 0
AllAfter x [] = Unit {0}
AllAfter x (b ∷ l) = (compared x b ≡ Less) × AllAfter x l

-- what ascends is behind its first row
pub all_after : (x : Row) (l : List Row) → ascends (x ∷ l) ≡ true → AllAfter x l
all_after x [] s = tt
all_after x (b ∷ l) s =
    let e = asc_before x (b ∷ l) s in
    (e, further x b l e (all_after b l (asc_tail x (b ∷ l) s)))
  where
    further : (x y : Row) (l : List Row) → compared x y ≡ Less → AllAfter y l → AllAfter x l
    further x y [] e h = tt
    further x y (b ∷ l) e h = (less_trans x y b e h.0, further x y l e h.1)

-- every row but the last is before the last
pub all_before : (l : List Row) (x : Row) → ascends (l ++ (x ∷ [])) ≡ true → AllBefore x l
all_before [] x s = tt
all_before (a ∷ []) x s = (asc_before a (x ∷ []) s, tt)
all_before (a ∷ b ∷ l) x s =
    let ih = all_before (b ∷ l) x (asc_tail a (b ∷ (l ++ (x ∷ []))) s) in
    (less_trans a b x (asc_before a (b ∷ (l ++ (x ∷ []))) s) ih.0, ih)

-- what is before x is before what x is before
pub all_later : (x y : Row) (l : List Row) → compared x y ≡ Less → AllBefore x l → AllBefore y l
all_later x y [] e h = tt
all_later x y (b ∷ l) e h = (less_trans b x y h.0 e, all_later x y l e h.1)

-- what is before x is before a row of its pair
pub all_same : (x y : Row) (l : List Row) → compared x y ≡ Equal → AllBefore x l → AllBefore y l
all_same x y [] e h = tt
all_same x y (b ∷ l) e h = (sym (right_same b x y e) ∙ h.0, all_same x y l e h.1)

pub all_and_last : (x y : Row) (l : List Row) → compared x y ≡ Less → AllBefore y l → AllBefore y (l ++ (x ∷ []))
all_and_last x y [] e h = (e, tt)
all_and_last x y (b ∷ l) e h = (h.0, all_and_last x y l e h.1)

add_last : (x : Row) (l : List Row) → AllBefore x l → add_row x l ≡ l ++ (x ∷ [])
add_last x [] h = add_none x
add_last x (b ∷ l) h = add_at x b l Greater (flipped b x Less h.0) ∙ ap (λ (m : List Row). b ∷ m) (add_last x l h.1)

all_add : (x r : Row) (l : List Row) → compared r x ≡ Less → AllBefore x l → AllBefore x (add_row r l)
unfolding add_row
all_add x r [] e h = (e, tt)
all_add x r (b ∷ l) e h =
    let ih = all_add x r l e h.1 in
    add_cases (AllBefore x) r b l (λ o. (e, h)) (λ o. (e, h.1)) (λ o. (h.0, ih))

all_joined : (x : Row) (xs ys : List Row) → AllBefore x xs → AllBefore x ys → AllBefore x (joined xs ys)
unfolding joined
all_joined x [] ys h k = k
all_joined x (a ∷ xs) ys h k = all_add x a (joined xs ys) h.0 (all_joined x xs ys h.1 k)

joined_last : (xs : List Row) (x : Row) (ys : List Row) → joined (xs ++ (x ∷ [])) ys ≡ add_row x (joined xs ys)
unfolding joined
joined_last [] x ys = refl
joined_last (a ∷ xs) x ys = ap (add_row a) (joined_last xs x ys) ∙ add_comm a x (joined xs ys)

module _ (xs ys : List Row) where
  -- the last row of the left comes last
  pub last_left : (x : Row) → AllBefore x xs → AllBefore x ys → joined (xs ++ (x ∷ [])) ys ≡ joined xs ys ++ (x ∷ [])
  last_left x h k = joined_last xs x ys ∙ add_last x (joined xs ys) (all_joined x xs ys h k)

  -- the last row of the right comes last
  pub last_right : (y : Row) → AllBefore y xs → AllBefore y ys → joined xs (ys ++ (y ∷ [])) ≡ joined xs ys ++ (y ∷ [])
  last_right y h k =
      ap (joined xs) (sym (add_last y ys k)) ∙ joined_add_right y xs ys ∙ add_last y (joined xs ys) (all_joined y xs ys h k)

  -- both last rows have one pair
  pub last_both : (x y : Row) → compared x y ≡ Equal → AllBefore x xs → AllBefore y ys
      → joined (xs ++ (x ∷ [])) (ys ++ (y ∷ [])) ≡ joined xs ys ++ (plus x y ∷ [])
  last_both x y e h k =
      joined_last xs x (ys ++ (y ∷ [])) ∙ ap (λ (l : List Row). add_row x (joined xs l)) (sym (add_last y ys k))
      ∙ ap (add_row x) (joined_add_right y xs ys) ∙ add_fused x y (joined xs ys) e
      ∙ add_last (plus x y) (joined xs ys) (all_joined (plus x y) xs ys (all_summed x y xs h)
      (all_summed x y ys (all_same y x ys (flipped x y Equal e) k)))
    where
      all_summed : (x y : Row) (l : List Row) → AllBefore x l → AllBefore (plus x y) l
      all_summed x y [] h = tt
      all_summed x y (b ∷ l) h = (h.0, all_summed x y l h.1)
