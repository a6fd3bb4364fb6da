-- What the theorem on a repair that is done speaks of besides: its bytes and its lines, as they stand in what the call leaves.
-- Assumes nothing.
use Rattle.std.specs.Prelude.{ℕ, ◌≤◌, ◌≡◌, List, length, take}
use Rattle.records_spec.specs.Outcomes.{Answer, ok}
use Rattle.repair_spec.specs.Repairing.{Repaired}
use Rattle.change_lines_spec.specs.Text.{lines_in}

-- the answer x stands in the first bytes of out, and its lines in the first places of the two columns
pub record RepairStands (x : Answer Repaired) (bytes lines : ℕ) (out os cs : List ℕ) : Type 0 where
  pub what : Repaired
  pub is_done : x ≡ ok what
  pub bytes_fit : bytes ≤ length out
  pub offsets_fit : lines ≤ length os
  pub changes_fit : lines ≤ length cs
  pub bytes_are : take bytes out ≡ what.bytes
  pub lines_are : lines_in (take lines os) (take lines cs) ≡ what.lines
