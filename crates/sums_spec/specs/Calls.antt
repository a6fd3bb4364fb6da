-- What `add_assign` answers and leaves.
-- Assumes nothing.
use Rattle.std.specs.Prelude.{ℕ, ◌&&◌}
use Rattle.records_spec.specs.Outcomes.{◌unless◌, ◌>>◌, leaving}
use Rattle.records_spec.specs.declared.refusal.Refusal.TheVariants.{BadTable}
use Rattle.rows_spec.specs.Removals.{HeldRemoval, removal_of, proper_removal}
use Rattle.rows_spec.specs.Calls.{RemovalAfter, placed_removal}
use Rattle.sums_spec.specs.Sums.{sum}

-- `add_assign`, in the tables of the left one
unfoldable pub summed : ℕ → HeldRemoval → HeldRemoval → RemovalAfter
summed version lhs rhs = leaving lhs.rows do
  BadTable unless proper_removal lhs && proper_removal rhs
  placed_removal (sum version (removal_of lhs) (removal_of rhs)) lhs.rows
