-- What the theorems on the two calls speak of besides: a removal of so many bytes, and what the value's call answers.
-- Assumes nothing.
use Rattle.std.specs.Prelude.{ℕ, ◌≡◌, true}
use Rattle.records_spec.specs.Flags.{Held, flags_of}
use Rattle.rows_spec.specs.Rows.{Tables}
use Rattle.rows_spec.specs.Removals.{state_of, removal_in, proper_in, total}
use Rattle.rows_spec.specs.declared.removed.Removed.{Removed}
use Rattle.splitting_spec.specs.Calls.{value_removal, visited_for, Told}

-- a proper removal of so many bytes
pub record RemovesExactly (n : ℕ) (x : Removed) (t : Tables) : Type 0 where
  pub is_proper : proper_in x t ≡ true
  pub comes_to : total (removal_in x t) ≡ n

-- what the value's call answers where there is room
abbrev pub value_answer : Held → ℕ → Told
value_answer ours n = record { removal = state_of (value_removal (flags_of ours) n); visited = visited_for (flags_of ours) n }
