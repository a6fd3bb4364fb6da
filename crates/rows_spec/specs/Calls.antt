-- What the calls of this crate answer, and what a call leaves that gives a removal.
-- Assumes nothing.
use Rattle.std.specs.Prelude.{ℕ, Bool, leb, length, Result, Ok, Err}
use Rattle.fields_spec.specs.Varint.{largest}
use Rattle.records_spec.specs.Refusals.{number}
use Rattle.records_spec.specs.Outcomes.{Answer, ok, refused, ◌unless◌, ◌>>◌, After, leaving, placed}
use Rattle.records_spec.specs.declared.refusal.Refusal.TheVariants.{TotalTooLarge, BadTable}
use Rattle.rows_spec.specs.Rows.{Tables, room_in, over_rows}
use Rattle.rows_spec.specs.Removals.{Removal, rows_of_removal, state_of, HeldRemoval, removal_of, proper_removal, total, has_bytes}
use Rattle.rows_spec.specs.declared.removed.Removed.{Removed}
use Rattle.rows_spec.specs.declared.removed.StorageRemovedBytes.{StorageRemovedBytes}
use Rattle.records_spec.specs.declared.refusal.Refusal.{Refusal}

-- ---- has_removal and total_removed_bytes

-- `has_removal`
abbrev pub has_removal : HeldRemoval → Answer Bool
has_removal x = do
  BadTable unless proper_removal x
  ok (has_bytes (removal_of x))

-- a total that fits 32 bits
abbrev pub total_within : ℕ → Answer ℕ
total_within n = do
  TotalTooLarge unless leb n largest
  ok n

-- `total_removed_bytes`
abbrev pub total_removed : HeldRemoval → Answer ℕ
total_removed x = do
  BadTable unless proper_removal x
  total_within (total (removal_of x))

-- ---- calls that give a removal

-- all that such a call leaves: a state or a refusal, and the tables that were lent for the rows
abbrev pub RemovalAfter : Type 0
RemovalAfter = After (Answer Removed) Tables

-- a state or a refusal, as the code told it
abbrev pub told_removal : Result StorageRemovedBytes Refusal → Answer Removed
told_removal (Ok s) = ok s.removed
told_removal (Err r) = refused (number r)

-- a removal with its rows at the start of the tables, where these have room
abbrev pub placed_removal : Removal → Tables → Answer (Removed × Tables)
placed_removal r t = placed (room_in (length (rows_of_removal r)) t) (state_of r) (over_rows (rows_of_removal r) t)

-- what is left of the tables
unfoldable pub placing_removal : Removal → Tables → RemovalAfter
placing_removal r t = leaving t (placed_removal r t)
