-- Removals added in any order: request (ix) of document 02. Each law is said of a version.
-- Assumes nothing.
use Rattle.std.specs.Prelude.{ℕ, ◌+◌, ◌<◌, ◌≡◌, Bool, true, false, ◌&&◌, List, [], ◌∷◌, leb}
use Rattle.fields_spec.specs.Varint.{largest}
use Rattle.rows_spec.specs.Rows.{Row, ascends}
use Rattle.rows_spec.specs.Removals.{Removal, nothing, basic, sectioned, rows_of_removal, total}
use Rattle.sums_spec.specs.Sums.{sum, exact}

-- a proper removal: its rows ascend, no pair twice
abbrev pub ProperRemoval : Removal → Type 0
ProperRemoval x = ascends (rows_of_removal x) ≡ true

-- of two it does not matter which is added to the other
abbrev pub Commutative : ℕ → Type 0
Commutative version = (x y : Removal) → ProperRemoval x → ProperRemoval y → sum version x y ≡ sum version y x

-- of three it does not matter which two are added first
abbrev pub Associative : ℕ → Type 0
Associative version =
    (x y z : Removal) → ProperRemoval x → ProperRemoval y → ProperRemoval z → sum version (sum version x y) z ≡ sum version x (sum version y z)

-- none is neutral on both sides
pub record NeutralNone (version : ℕ) : Type 0 where
  pub on_the_left : (x : Removal) → sum version nothing x ≡ x
  pub on_the_right : (x : Removal) → sum version x nothing ≡ x

-- the exact total of a sum is the sum of the exact totals where nothing saturates
abbrev pub ExactTotal : ℕ → Type 0
ExactTotal version = (x y : Removal) → ProperRemoval x → ProperRemoval y → exact x y ≡ true → total (sum version x y) ≡ total x + total y

-- every row's bytes are a number of 32 bits
unfoldable pub small_rows : List Row → Bool
small_rows [] = true
small_rows (r ∷ rs) = leb r.part.bytes largest && small_rows rs

-- every number of a removal has 32 bits, as all in lent tables and states have
abbrev pub small : Removal → Bool
small nothing = true
small (basic n) = leb n largest
small (sectioned rs) = small_rows rs

-- and where something saturates the total is less, so that "where nothing saturates" leaves out no case
abbrev pub SaturatedTotal : ℕ → Type 0
SaturatedTotal version =
    (x y : Removal) → ProperRemoval x → ProperRemoval y → small x ≡ true → small y ≡ true → exact x y ≡ false
    → total (sum version x y) < total x + total y

-- what the order of adding cannot change
pub record AnyOrder (version : ℕ) : Type 0 where
  pub commutative : Commutative version
  pub associative : Associative version
  pub neutral : NeutralNone version
  pub exact_total : ExactTotal version
  pub saturated_total : SaturatedTotal version
