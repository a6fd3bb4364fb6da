-- Many removals added up, by one `add_assign` after another or group by group: request (ix) of document 02.
-- Assumes nothing.
use Rattle.std.specs.Prelude.{ℕ, ◌≡◌, true}
use mathlib.Core.List.{List, [], ◌∷◌, ◌++◌, Permᴰ}
use Rattle.records_spec.specs.Outcomes.{Answer, ok, refused, after, kept}
use Rattle.rows_spec.specs.Rows.{Tables}
use Rattle.rows_spec.specs.Removals.{Removal, HeldRemoval, holding_rows, proper_removal}
use Rattle.rows_spec.specs.Calls.{RemovalAfter}
use Rattle.rows_spec.specs.declared.removed.Removed.{Removed}
use Rattle.sums_spec.specs.Sums.{sum}
use Rattle.sums_spec.specs.Calls.{summed}
use Rattle.sums_spec.specs.AnyOrder.{ProperRemoval}

-- each of some has a property
abbrev pub Each : {A : Type 0} → (A → Type 0) → List A → Type 0
Each P [] = Unit {0}
Each P (x ∷ xs) = P x × Each P xs

-- ---- one call after another

-- a proper operand
abbrev pub ProperOperand : HeldRemoval → Type 0
ProperOperand y = proper_removal y ≡ true

-- an answer, and with it what follows; a refusal ends it
abbrev pub going_on : Answer Removed → Tables → (HeldRemoval → RemovalAfter) → RemovalAfter
going_on (ok s) t rest = rest (holding_rows s t)
going_on (refused n) t rest = kept n t

-- each in turn is added to the removal in the lent tables
unfoldable pub add_all : ℕ → List HeldRemoval → HeldRemoval → RemovalAfter
add_all version [] x = after (ok x.state) x.rows
add_all version (y ∷ ys) x =
    let a = summed version x y in
    going_on a.answer a.lent (add_all version ys)

-- two outcomes are one sheet: the same answer, and where it is no refusal the same tables, to the last place
pub record SameSheet (a b : RemovalAfter) : Type 0 where
  pub same_answer : a.answer ≡ b.answer
  pub same_rows : (s : Removed) → a.answer ≡ ok s → a.lent ≡ b.lent

-- the same removals added up in another order give the same sheet
abbrev pub AnyBatch : ℕ → Type 0
AnyBatch version =
    (x : HeldRemoval) → proper_removal x ≡ true → (ys zs : List HeldRemoval) → Each ProperOperand ys → Permᴰ ys zs
    → SameSheet (add_all version ys x) (add_all version zs x)

-- ---- group by group

-- one removal, or two groups of which each is added up by itself
pub data Group : Type 0 where
  one : Removal → Group
  two : Group → Group → Group

-- the sum of a group
unfoldable pub sum_of : ℕ → Group → Removal
sum_of version (one x) = x
sum_of version (two a b) = sum version (sum_of version a) (sum_of version b)

-- the removals of a group
unfoldable pub members : Group → List Removal
members (one x) = x ∷ []
members (two a b) = members a ++ members b

-- the same removals grouped otherwise, in any order, have the same sum
abbrev pub AnyGrouping : ℕ → Type 0
AnyGrouping version = (a b : Group) → Each ProperRemoval (members a) → Permᴰ (members a) (members b) → sum_of version a ≡ sum_of version b
