-- What `replace_structs` answers and leaves, over a table of structs and a work area of three lent slices.
-- Assumes nothing.
use Rattle.std.specs.Prelude.{ℕ, ◌≡◌, Bool, ◌&&◌, List, leb, length, Option, Result}
use Rattle.records_spec.specs.Outcomes.{Answer, answered, ◌unless◌, ◌>>◌, ◌>>=◌, After, after, leaving, placed}
use Rattle.records_spec.specs.Flags.{Flags}
use Rattle.records_spec.specs.Tables.{over}
use Rattle.records_spec.specs.declared.refusal.Refusal.TheVariants.{BadTable}
use Rattle.records_spec.specs.declared.refusal.Refusal.{Refusal}
use Rattle.rows_spec.specs.Rows.{Row, Tables, rows_in, room_in, over_rows}
use Rattle.totals_spec.specs.Calls.{proper_table}
use Rattle.totals_spec.specs.Replacing.{replaced}
use Rattle.totals_index_spec.specs.Structs.{columns, structs}
use Rattle.totals_index_spec.specs.declared.structs.Total.{Total}

-- what is lent: the table, and the work area
pub record TableAndWork : Type 0 where
  pub table : List Total
  pub work : Tables

-- of these two
abbrev pub beside : List Total → Tables → TableAndWork
beside ts work = record { table = ts; work = work }

-- all that the call leaves: the number of rows or a refusal, the table and the work area
abbrev pub StructsAfter : Type 0
StructsAfter = After (Answer ℕ) TableAndWork

-- the rows afterwards, where the first n structs and the flags are proper
unfoldable pub verdict : ℕ → List Total → Bool → Option Flags → Option Flags → Answer (List Row)
verdict n ts good old new = do
  BadTable unless proper_table n (columns ts) && good
  replaced old new (rows_in n (columns ts))

-- whether k rows have room in the table, and these and the n rows before in the work area
abbrev pub room_both : ℕ → ℕ → List Total → Tables → Bool
room_both n k ts work = leb k (length ts) && (room_in n work && room_in k work)

-- rows at the start of the table, and in the work area over the n rows before, where they have room
abbrev pub placed_structs : ℕ → List Row → List Total → Tables → Answer (ℕ × TableAndWork)
placed_structs n rs ts work =
    placed (room_both n (length rs) ts work) (length rs) (beside (over (structs rs) ts) (over_rows rs (over_rows (rows_in n (columns ts)) work)))

-- what is left where the answer is rows or a refusal
unfoldable pub placing_structs : ℕ → Answer (List Row) → List Total → Tables → StructsAfter
placing_structs n x ts work = leaving (beside ts work) do
  rs ← x
  placed_structs n rs ts work

-- `replace_structs`, of the flags given and whether they are proper
unfoldable pub replacing_structs : ℕ → List Total → Tables → Bool → Option Flags → Option Flags → StructsAfter
replacing_structs n ts work good old new = placing_structs n (verdict n ts good old new) ts work

-- what the contract of `replace_structs` says of its answer and what it leaves
abbrev pub SaysStructs : ℕ → List Total → Tables → Bool → Option Flags → Option Flags → Result ℕ Refusal → TableAndWork → Type 0
SaysStructs n ts work good old new r m = after (answered r) m ≡ replacing_structs n ts work good old new
