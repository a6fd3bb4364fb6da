-- What the theorem on an accepted `add_assign` speaks of besides: the sum, as it stands in what the call leaves.
-- Assumes nothing.
use Rattle.std.specs.Prelude.{ℕ, ◌≡◌, true}
use Rattle.rows_spec.specs.Removals.{removal_in, proper_in, HeldRemoval, removal_of}
use Rattle.rows_spec.specs.Calls.{RemovalAfter}
use Rattle.rows_spec.specs.declared.removed.Removed.{Removed}
use Rattle.sums_spec.specs.Sums.{sum}

-- an accepted call: the state and the tables are the sum, and proper
pub record SumStands (v : ℕ) (x y : HeldRemoval) (s : Removed) (a : RemovalAfter) : Type 0 where
  pub is_sum : removal_in s a.lent ≡ sum v (removal_of x) (removal_of y)
  pub is_proper : proper_in s a.lent ≡ true
