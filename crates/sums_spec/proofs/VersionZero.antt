-- Request (ix) at version 0: for each law that breaks a smallest example, by computation, and what shows that none is smaller.
-- Assumes nothing.
use mathlib.Core.Path.{◌≡◌, refl, sym, ap, ◌∙◌}
use mathlib.Core.Bool.{true, false}
use mathlib.Core.List.{[], ◌∷◌}
use Prim.Native.Nat.{ℕ, ◌+◌}
use native.Mathlib.Omega.{arith}
use Rattle.records_spec.specs.Flags.{zeros, same}
use Rattle.rows_spec.specs.Order.{order}
use Rattle.rows_spec.specs.Rows.{row}
use Rattle.rows_spec.specs.Removals.{Removal, nothing, basic, sectioned, rows_of_removal, total_rows, total}
use Rattle.rows_spec.proofs.Rows.{asc_none, asc_cons}
use Rattle.sums_spec.specs.Joins.{add_row}
use Rattle.sums_spec.specs.Sums.{unknown, any_of_zeros, without_zeros, basic_plus, sum, bytes_at, sum_fits, exact}
use Rattle.sums_spec.specs.AnyOrder.{ProperRemoval, Commutative, Associative, ExactTotal}
use Rattle.sums_spec.proofs.Losing.{basic_whole}
use Rattle.sums_spec.proofs.Exact.{sum_exact}
use Rattle.sums_spec.proofs.AnyOrder.{sum_comm}

-- one row, of the zero identifier, at epoch 0
abbrev one_row : ℕ → Removal
one_row bytes = sectioned (row zeros 0 bytes ∷ [])

-- sectioned, with no rows
abbrev no_rows : Removal
no_rows = sectioned []

-- ---- the order of two

-- a basic 0 added to a row stands beside it; the row added to a basic 0 is lost, and the number too
pub two_orders : (sum 0 (basic 0) (one_row 0) ≡ no_rows) × (sum 0 (one_row 0) (basic 0) ≡ sectioned (row zeros 0 0 ∷ unknown 0 ∷ []))
unfolding basic_plus any_of_zeros without_zeros same add_row order
two_orders = (refl, refl)

pub not_commutative : Commutative 0 → ⊥
not_commutative law =
    let e : no_rows ≡ sectioned (row zeros 0 0 ∷ unknown 0 ∷ []) = sym two_orders.0 ∙ law (basic 0) (one_row 0) asc_none (asc_cons _ [] tt asc_none)
    ∙ two_orders.1 in
    let z : ◌≡◌ {A = ℕ} 0 1 = cc in
    omega arith

-- ---- the grouping of three

-- two basic 0 together make one row; one after the other, the row that one makes is lost by the other
pub two_groupings : (sum 0 (sum 0 (basic 0) (basic 0)) no_rows ≡ sectioned (unknown 0 ∷ [])) × (sum 0 (basic 0) (sum 0 (basic 0) no_rows) ≡ no_rows)
unfolding basic_plus any_of_zeros without_zeros same add_row order
two_groupings = (refl, refl)

pub not_associative : Associative 0 → ⊥
not_associative law =
    let e : sectioned (unknown 0 ∷ []) ≡ no_rows = sym two_groupings.0 ∙ law (basic 0) (basic 0) no_rows asc_none asc_none asc_none
    ∙ two_groupings.1 in
    let z : ◌≡◌ {A = ℕ} 0 1 = cc in
    omega arith

-- ---- the exact total

-- a row of 1 byte is lost, though nothing saturates
pub byte_lost : (exact (basic 0) (one_row 1) ≡ true) × ((total (basic 0) + total (one_row 1) ≡ 1) × (total (sum 0 (basic 0) (one_row 1)) ≡ 0))
unfolding sum_fits bytes_at basic_plus any_of_zeros without_zeros same add_row order total_rows
byte_lost = (refl, (refl, refl))

pub not_exact : ExactTotal 0 → ⊥
not_exact law =
    let e = law (basic 0) (one_row 1) asc_none (asc_cons _ [] tt asc_none) byte_lost.0 in
    omega (arith, byte_lost.1.0, byte_lost.1.1)

-- ---- none is smaller

-- where the right one has no row of the zero identifier, the version does not matter
pub same_version : (v : ℕ) (x y : Removal) → any_of_zeros (rows_of_removal y) ≡ false → sum v x y ≡ sum 1 x y
same_version v nothing y h = refl
same_version v (basic m) nothing h = refl
same_version v (basic m) (basic n) h = refl
same_version v (basic m) (sectioned ys) h = ap sectioned (basic_whole v m ys h ∙ sym (basic_whole 1 m ys h))
same_version v (sectioned xs) nothing h = refl
same_version v (sectioned xs) (basic n) h = refl
same_version v (sectioned xs) (sectioned ys) h = refl

module _ (v : ℕ) (x y : Removal) (p : ProperRemoval x) (q : ProperRemoval y) (none_right : any_of_zeros (rows_of_removal y) ≡ false) where
  -- an example that breaks the order of two has a row of the zero identifier
  pub comm_without_zeros : any_of_zeros (rows_of_removal x) ≡ false → sum v x y ≡ sum v y x
  comm_without_zeros none_left = same_version v x y none_right ∙ sum_comm 1 (omega arith) x y p q ∙ sym (same_version v y x none_left)

  -- so has one that breaks the exact total; by `sum_most` of Exact it has a byte too
  pub exact_without_zeros : exact x y ≡ true → total (sum v x y) ≡ total x + total y
  exact_without_zeros e = ap total (same_version v x y none_right) ∙ sum_exact 1 (omega arith) x y p e
