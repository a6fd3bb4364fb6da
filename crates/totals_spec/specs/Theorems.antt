-- What the theorems on the table speak of besides: named rows, flags whose epochs ascend, totals of 64 bits, what an accepted call leaves.
-- Assumes nothing.
use Rattle.std.specs.Prelude.{ℕ, ◌≤◌, ◌≡◌, Bool, true, false, cond, List, [], ◌∷◌}
use Rattle.std.specs.Prelude.{Option, None, Some}
use Rattle.records_spec.specs.Tables.{epochs_of, rising}
use Rattle.records_spec.specs.Flags.{Flags}
use Rattle.records_spec.specs.Outcomes.{ok}
use Rattle.rows_spec.specs.Rows.{Row, compared, Tables, rows_in}
use Rattle.rows_spec.specs.Order.{is_equal}
use Rattle.totals_spec.specs.Table.{total_at}
use Rattle.totals_spec.specs.Replacing.{largest_total, replaced}
use Rattle.totals_spec.specs.Calls.{RowsAfter, proper_table}

-- whether one of some rows is of a row's owner and epoch
unfoldable pub names : Row → List Row → Bool
names k [] = false
names k (r ∷ rs) = cond (is_equal (compared k r)) true (names k rs)

-- the rows of a table whose owner and epoch are not among the named ones
unfoldable pub not_named : List Row → List Row → List Row
not_named rs [] = []
not_named rs (b ∷ t) = cond (names b rs) (not_named rs t) (b ∷ not_named rs t)

-- flags that may be absent, with ascending epochs, as all proper ones have
abbrev pub rises : Option Flags → Bool
rises None = true
rises (Some f) = rising (epochs_of f.records)

-- no total passes 64 bits
abbrev pub In64Bits : List Row → Type 0
In64Bits t = (k : Row) → total_at k t ≤ largest_total

-- an accepted call: all was proper, and the first m rows are those of the change, and proper
pub record ChangeStands (n : ℕ) (t : Tables) (good : Bool) (old new : Option Flags) (m : ℕ) (a : RowsAfter) : Type 0 where
  pub was_proper : proper_table n t ≡ true
  pub was_good : good ≡ true
  pub is_replaced : replaced old new (rows_in n t) ≡ ok (rows_in m a.lent)
  pub still_proper : proper_table m a.lent ≡ true
