-- What `replace` answers and leaves.
-- Assumes nothing.
use Rattle.std.specs.Prelude.{ℕ, Bool, true, false, ◌&&◌, List, length}
use Rattle.std.specs.Prelude.{Option, None, Some}
use Rattle.records_spec.specs.Outcomes.{Answer, ◌unless◌, After, leaving, placed, ◌>>=◌, ◌>>◌}
use Rattle.records_spec.specs.Flags.{Flags, Held, proper, flags_of}
use Rattle.records_spec.specs.declared.refusal.Refusal.TheVariants.{BadTable}
use Rattle.rows_spec.specs.Rows.{Row, Tables, rows_in, room_in, proper_rows, over_rows}
use Rattle.totals_spec.specs.Table.{all_positive}
use Rattle.totals_spec.specs.Replacing.{replaced}

-- all that the call leaves: the number of rows or a refusal, and the table
abbrev pub RowsAfter : Type 0
RowsAfter = After (Answer ℕ) Tables

-- rows at the start of the table, where they have room
abbrev pub placed_rows : List Row → Tables → Answer (ℕ × Tables)
placed_rows rs t = placed (room_in (length rs) t) (length rs) (over_rows rs t)

-- n proper rows of totals: they stand in the tables, ascend, and no total is 0
unfoldable pub proper_table : ℕ → Tables → Bool
proper_table n t = proper_rows n t && all_positive (rows_in n t)

-- flags that may be absent, as a call is given them: absent ones are not looked at
abbrev pub given : Bool → Held → Option Flags
given true f = Some (flags_of f)
given false f = None

-- absent or proper
abbrev pub proper_given : Bool → Held → Bool
proper_given true f = proper f
proper_given false f = true

-- `replace`, of the flags given and whether they are proper
unfoldable pub replacing : ℕ → Tables → Bool → Option Flags → Option Flags → RowsAfter
replacing n t good old new = leaving t do
  BadTable unless proper_table n t && good
  rs ← replaced old new (rows_in n t)
  placed_rows rs t
