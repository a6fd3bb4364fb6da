-- Request (ix): from version 1 on removals are added in any order, saturated sums included. By the kinds of the removals, over the laws of rows.
-- Assumes nothing.
use mathlib.Core.Path.{◌≡◌, refl, sym, ap, ◌∙◌}
use mathlib.Core.List.{List}
use Prim.Native.Nat.{ℕ, ◌≤◌}
use native.Mathlib.Omega.{arith}
use Rattle.rows_spec.specs.Rows.{Row}
use Rattle.rows_spec.specs.Removals.{Removal, nothing, basic, sectioned}
use Rattle.rows_spec.proofs.Comparing.{order_self}
use Rattle.sums_spec.specs.Joins.{capped, add_row, joined}
use Rattle.sums_spec.specs.Sums.{unknown, basic_plus, sum}
use Rattle.sums_spec.specs.AnyOrder.{Commutative, NeutralNone, AnyOrder}
use Rattle.sums_spec.proofs.Adding.{add_comm, add_fused}
use Rattle.sums_spec.proofs.Joining.{joined_add, joined_add_right, joined_comm, joined_assoc}
use Rattle.sums_spec.proofs.Losing.{basic_later}
use Rattle.sums_spec.proofs.Exact.{sum_exact}
use Rattle.sums_spec.proofs.Saturated.{sum_less}

-- NONE IS NEUTRAL, AT EVERY VERSION
pub none_neutral : (v : ℕ) → NeutralNone v
none_neutral v = record { on_the_left = λ x. refl; on_the_right = right }
  where
    right : (x : Removal) → sum v x nothing ≡ x
    right nothing = refl
    right (basic m) = refl
    right (sectioned xs) = refl

-- two numbers' rows are added to rows like the row of both together
both_unknown : (m n : ℕ) (l : List Row) → add_row (unknown m) (add_row (unknown n) l) ≡ add_row (unknown (capped m n)) l
both_unknown m n l = add_fused (unknown m) (unknown n) l (order_self _)

module _ (v : ℕ) (h : 1 ≤ v) where
  later : (n : ℕ) (l : List Row) → basic_plus v n l ≡ add_row (unknown n) l
  later n l = basic_later v n l h

  -- SUMS COMMUTE
  pub sum_comm : Commutative v
  sum_comm nothing y p q = sym ((none_neutral v).on_the_right y)
  sum_comm (basic m) nothing p q = refl
  sum_comm (basic m) (basic n) p q = ap basic (omega arith)
  sum_comm (basic m) (sectioned ys) p q = ap sectioned (later m ys)
  sum_comm (sectioned xs) nothing p q = refl
  sum_comm (sectioned xs) (basic n) p q = ap sectioned (sym (later n xs))
  sum_comm (sectioned xs) (sectioned ys) p q = ap sectioned (joined_comm xs ys p q)

  -- SUMS ASSOCIATE, also of removals that are not proper
  pub sum_assoc : (x y z : Removal) → sum v (sum v x y) z ≡ sum v x (sum v y z)
  sum_assoc nothing y z = refl
  sum_assoc (basic m) nothing z = refl
  sum_assoc (sectioned xs) nothing z = refl
  sum_assoc (basic m) (basic n) nothing = refl
  sum_assoc (basic m) (sectioned ys) nothing = refl
  sum_assoc (sectioned xs) (basic n) nothing = refl
  sum_assoc (sectioned xs) (sectioned ys) nothing = refl
  sum_assoc (basic m) (basic n) (basic k) = ap basic (omega arith)
  sum_assoc (basic m) (basic n) (sectioned zs) =
      ap sectioned (later (capped m n) zs ∙ sym (later m (basic_plus v n zs) ∙ ap (add_row (unknown m)) (later n zs) ∙ both_unknown m n zs))
  sum_assoc (basic m) (sectioned ys) (basic k) =
      ap sectioned (ap (add_row (unknown k)) (later m ys) ∙ add_comm (unknown k) (unknown m) ys ∙ sym (later m (add_row (unknown k) ys)))
  sum_assoc (basic m) (sectioned ys) (sectioned zs) =
      ap sectioned (ap (λ (l : List Row). joined l zs) (later m ys) ∙ joined_add (unknown m) ys zs ∙ sym (later m (joined ys zs)))
  sum_assoc (sectioned xs) (basic n) (basic k) = ap sectioned (add_comm (unknown k) (unknown n) xs ∙ both_unknown n k xs)
  sum_assoc (sectioned xs) (basic n) (sectioned zs) =
      ap sectioned (joined_add (unknown n) xs zs ∙ sym (ap (joined xs) (later n zs) ∙ joined_add_right (unknown n) xs zs))
  sum_assoc (sectioned xs) (sectioned ys) (basic k) = ap sectioned (sym (joined_add_right (unknown k) xs ys))
  sum_assoc (sectioned xs) (sectioned ys) (sectioned zs) = ap sectioned (joined_assoc xs ys zs)

  -- FROM VERSION 1 ON REMOVALS ARE ADDED IN ANY ORDER
  pub any_order : AnyOrder v
  any_order =
      record {
        commutative = sum_comm;
        associative = λ x y z p q r. sum_assoc x y z;
        neutral = none_neutral v;
        exact_total = λ x y p q e. sum_exact v h x y p e;
        saturated_total = sum_less v;
      }
