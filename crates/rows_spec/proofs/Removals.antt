-- What the rows of a removal come to, by the column of their bytes, and the calls by their tests.
-- Assumes nothing.
use mathlib.Core.Path.{◌≡◌, refl, sym, ap, ◌∙◌}
use mathlib.Core.List.{List, [], ◌∷◌}
use Prim.Native.Nat.{ℕ, ◌+◌, ◌≤◌, ◌<◌}
use mathlib.Core.Bool.{Bool, true, false, cond, ◌||◌}
use lib.Dec.{ltb}
use Rattle.std.specs.List.{list_any, sum}
use Rattle.std.proofs.lemmas.List.Sums.{sum_by-cons}
use Rattle.records_spec.specs.Tables.{counts_of}
use lib.ListN.{length, take}
use borrow.Author.Tests.{le-leb, lt-leb}
use Rattle.fields_spec.specs.Varint.{largest}
use Rattle.records_spec.specs.Outcomes.{refused, ok, answered}
use Rattle.records_spec.specs.Refusals.{number}
use Rattle.records_spec.specs.declared.refusal.Refusal.TheVariants.{TotalTooLarge}
use native.Mathlib.Omega.{arith}
use Rattle.std.specs.Prelude.{Option, Some, None as NoSum, MatchOption, ok_or}
use Rattle.rows_spec.specs.Rows.{Row, parts_of, Tables, rows_in, Room}
use Rattle.rows_spec.specs.Inner.Rows.{Proper}
use Rattle.rows_spec.specs.Removals.{removal_in, proper_in, holding_rows, total_rows, any_bytes, total, has_bytes}
use Rattle.rows_spec.specs.Calls.{total_within, has_removal, total_removed}
use Rattle.rows_spec.specs.declared.removed.Removed.{Removed}
use Rattle.rows_spec.specs.declared.removed.Removed.TheVariants.{Sectioned}
use Rattle.rows_spec.proofs.Rows.{proper_rows_lem}
use Rattle.rows_spec.proofs.Columns.{bytes_in, columns}

-- some row has bytes where some number of the column is not 0
any_column : (rs : List Row) → any_bytes rs ≡ list_any (λ n. ltb 0 n) (bytes_in rs)
unfolding any_bytes parts_of counts_of
any_column [] = refl
any_column (r ∷ rs) = ap (cond (ltb 0 r.part.bytes) true) (any_column rs) ∙ either (ltb 0 r.part.bytes) (list_any (λ n. ltb 0 n) (bytes_in rs))
  where
    either : (a b : Bool) → cond a true b ≡ (a || b)
    either true b = refl
    either false b = refl

-- the total is the sum of the column
total_column : (rs : List Row) → total_rows rs ≡ sum (bytes_in rs)
unfolding total_rows parts_of counts_of
total_column [] = refl
total_column (r ∷ rs) = ap (λ n. r.part.bytes + n) (total_column rs) ∙ sym (sum_by-cons (λ n. n) r.part.bytes (bytes_in rs))

module _ {n : ℕ} {t : Tables} (r : Room n t) where
  pub any_in : any_bytes (rows_in n t) ≡ list_any (λ m. ltb 0 m) (take n t.bytes)
  any_in = any_column (rows_in n t) ∙ ap (list_any (λ m. ltb 0 m)) (columns r).bytes_first

  pub total_in : total_rows (rows_in n t) ≡ sum (take n t.bytes)
  total_in = total_column (rows_in n t) ∙ ap sum (columns r).bytes_first

pub total_none : total_rows [] ≡ 0
unfolding total_rows
total_none = refl

pub total_cons : (r : Row) (rs : List Row) → total_rows (r ∷ rs) ≡ r.part.bytes + total_rows rs
unfolding total_rows
total_cons r rs = refl

pub within_over : (n : ℕ) → largest < n → total_within n ≡ refused (number TotalTooLarge)
within_over n h = rw (lt-leb _ _ h)

pub within_fits : (n : ℕ) → n ≤ largest → total_within n ≡ ok n
within_fits n h = rw (le-leb _ _ h)

-- ---- by the tests of the calls

-- a proper sectioned removal has proper rows
pub proper_sectioned : (x : Removed) (n : ℕ) (t : Tables) → proper_in x t ≡ true → x ≡ Sectioned n → Proper n t
proper_sectioned x n t h e = proper_rows_lem n t (ap (λ (y : Removed). proper_in y t) (sym e) ∙ h)

-- what a proper sectioned removal comes to, by its column
module _ {x : Removed} {n : ℕ} (t : Tables) (h : proper_in x t ≡ true) (e : x ≡ Sectioned n) where
  pub sectioned_long : n ≤ length t.bytes
  sectioned_long = (proper_sectioned x n t h e).room.bytes_long

  pub sectioned_any : has_bytes (removal_in x t) ≡ list_any (λ m. ltb 0 m) (take n t.bytes)
  sectioned_any = ap (λ (y : Removed). has_bytes (removal_in y t)) e ∙ any_in (proper_sectioned x n t h e).room

  pub sectioned_total : total (removal_in x t) ≡ sum (take n t.bytes)
  sectioned_total = ap (λ (y : Removed). total (removal_in y t)) e ∙ total_in (proper_sectioned x n t h e).room

-- what is answered of a proper removal
module _ (x : Removed) (t : Tables) (h : proper_in x t ≡ true) where
  pub has_proper : {some : Bool} → some ≡ has_bytes (removal_in x t) → ok some ≡ has_removal (holding_rows x t)
  has_proper e = rw h (ap ok e)

  pub total_fits : {n : ℕ} → n ≡ total (removal_in x t) → n ≤ largest → ok n ≡ total_removed (holding_rows x t)
  total_fits {n} e k = rw h (sym (within_fits n k) ∙ ap total_within e)

  pub total_passes : largest < total (removal_in x t) → refused (number TotalTooLarge) ≡ total_removed (holding_rows x t)
  total_passes k = rw h (sym (within_over (total (removal_in x t)) k))

  -- a sum of n that is there where it fits
  pub total_summed : {n : ℕ} (m : Option ℕ) → total (removal_in x t) ≡ n → MatchOption m (largest < n) (λ s. (s ≡ n) × (s ≤ largest))
      → answered (ok_or m TotalTooLarge) ≡ total_removed (holding_rows x t)
  total_summed NoSum e k = total_passes (omega (arith, e, k))
  total_summed (Some s) e k = total_fits (k.0 ∙ sym e) k.1
