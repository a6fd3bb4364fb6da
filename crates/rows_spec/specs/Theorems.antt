-- What the theorems on calls that give a removal speak of besides: a state that is answered, and the removal that it stands for.
-- Assumes nothing.
use Rattle.std.specs.Prelude.{◌≡◌, true}
use Rattle.records_spec.specs.Outcomes.{ok, after}
use Rattle.rows_spec.specs.Rows.{ascends, Tables}
use Rattle.rows_spec.specs.Removals.{Removal, rows_of_removal, removal_in, proper_in}
use Rattle.rows_spec.specs.Calls.{RemovalAfter}
use Rattle.rows_spec.specs.declared.removed.Removed.{Removed}

-- a state is answered, with these tables
abbrev pub done : Removed → Tables → RemovalAfter
done s t = after (ok s) t

-- the state and the tables stand for the removal, which is proper where its rows ascend
pub record StandsFor (r : Removal) (s : Removed) (t : Tables) : Type 0 where
  pub stands : removal_in s t ≡ r
  pub is_proper : ascends (rows_of_removal r) ≡ true → proper_in s t ≡ true
