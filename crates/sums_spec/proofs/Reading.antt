-- What an accepted `add_assign` leaves reads back as the sum, and is proper again.
-- Assumes nothing.
use mathlib.Core.Path.{◌≡◌}
use mathlib.Core.Bool.{Bool, true, false, cond, ◌&&◌, and-eq-true_iff}
use mathlib.Core.List.{List, [], ◌∷◌}
use Prim.Native.Nat.{ℕ}
use Rattle.rows_spec.specs.Rows.{Row, ascends, Tables, over_rows, room_in}
use Rattle.rows_spec.specs.Removals.{Removal, nothing, basic, sectioned, removal_in, proper_in, rows_of_removal, HeldRemoval, proper_removal, removal_of}
use Rattle.rows_spec.specs.Removals.{state_of}
use Rattle.records_spec.specs.Outcomes.{ok}
use lib.ListN.{length}
use Rattle.rows_spec.specs.declared.removed.Removed.{Removed}
use Rattle.rows_spec.specs.declared.removed.Removed.TheVariants.{None, Basic, Sectioned}
use Rattle.rows_spec.proofs.Rows.{Before, before_trans, asc_none, asc_before, asc_tail, asc_cons, proper_rows_lem}
use Rattle.records_spec.proofs.Guarded.{accepted}
use Rattle.rows_spec.proofs.Outcomes.{left_stands}
use Rattle.sums_spec.specs.Sums.{unknown, of_zeros, without_zeros, sum}
use Rattle.sums_spec.specs.Calls.{summed}
use Rattle.sums_spec.specs.Theorems.{SumStands}
use Rattle.sums_spec.proofs.Adding.{add_ascends}
use Rattle.sums_spec.proofs.Joining.{joined_ascends}
use Rattle.sums_spec.proofs.Losing.{basic_cases}

-- ---- a sum of ascending rows ascends, at every version

before_without : (a : Row) (l : List Row) → ascends l ≡ true → Before a l → Before a (without_zeros l)
unfolding without_zeros
before_without a [] s h = tt
before_without a (b ∷ l) s h = go (of_zeros b) (before_without a l (asc_tail b l s) (before_trans a b l h (asc_before b l s)))
  where
    go : (z : Bool) → Before a (without_zeros l) → Before a (cond z (without_zeros l) (b ∷ without_zeros l))
    go true k = k
    go false k = h

without_ascends : (l : List Row) → ascends l ≡ true → ascends (without_zeros l) ≡ true
unfolding without_zeros
without_ascends [] s = s
without_ascends (b ∷ l) s = go (of_zeros b) (without_ascends l (asc_tail b l s))
  where
    go : (z : Bool) → ascends (without_zeros l) ≡ true → ascends (cond z (without_zeros l) (b ∷ without_zeros l)) ≡ true
    go true k = k
    go false k = asc_cons b (without_zeros l) (before_without b l (asc_tail b l s) (asc_before b l s)) k

-- A SUM OF PROPER REMOVALS IS PROPER
pub sum_ascends : (v : ℕ) (x y : Removal) → ascends (rows_of_removal x) ≡ true → ascends (rows_of_removal y) ≡ true
    → ascends (rows_of_removal (sum v x y)) ≡ true
sum_ascends v nothing y p q = q
sum_ascends v (basic m) nothing p q = p
sum_ascends v (basic m) (basic n) p q = p
sum_ascends v (basic m) (sectioned ys) p q =
    basic_cases (λ (l : List Row). ascends l ≡ true) v m ys (add_ascends (unknown m) ys q) (without_ascends ys q)
sum_ascends v (sectioned xs) nothing p q = p
sum_ascends v (sectioned xs) (basic n) p q = add_ascends (unknown n) xs p
sum_ascends v (sectioned xs) (sectioned ys) p q = joined_ascends xs ys q

-- ---- what is left in the tables

pub proper_ascends : (x : Removed) (t : Tables) → proper_in x t ≡ true → ascends (rows_of_removal (removal_in x t)) ≡ true
proper_ascends None t h = asc_none
proper_ascends (Basic n) t h = asc_none
proper_ascends (Sectioned n) t h = (proper_rows_lem n t h).rises

-- WHAT IS LEFT IS THE SUM, AND PROPER
pub sum_read : (v : ℕ) (x y : HeldRemoval) (s : Removed) → (summed v x y).answer ≡ ok s → SumStands v x y s (summed v x y)
unfolding summed
sum_read v x y s h =
    let r = sum v (removal_of x) (removal_of y) in
    let a = accepted x.rows (state_of r) (over_rows (rows_of_removal r) x.rows) (proper_removal x && proper_removal y)
    (room_in (length (rows_of_removal r)) x.rows) s h in
    let p = (and-eq-true_iff (proper_removal x) (proper_removal y)).0 a.given_proper in
    let l = left_stands r s x.rows _ a.answered a.is_left in
    record {
      is_sum = l.stands;
      is_proper = l.is_proper (sum_ascends v (removal_of x) (removal_of y) (proper_ascends x.state x.rows p.0)
          (proper_ascends y.state y.rows p.1));
    }
