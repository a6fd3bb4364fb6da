-- What an accepted call of `split_value_removed_bytes` leaves, read as sections.
-- Assumes nothing.
use Rattle.std.specs.Prelude.{List}
use Rattle.records_spec.specs.Tables.{At}
use Rattle.rows_spec.specs.Rows.{parts_of}
use Rattle.rows_spec.specs.Removals.{rows_of_removal, removal_in}
use Rattle.splitting_spec.specs.Calls.{Told, SplitAfter}

-- the sections of the removal, from its state and the tables lent for its rows
abbrev pub sections_left : Told → SplitAfter → List At
sections_left u a = parts_of (rows_of_removal (removal_in u.removal a.lent))
