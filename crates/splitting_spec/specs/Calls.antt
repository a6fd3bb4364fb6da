-- What `split_key_removed_bytes` and `split_value_removed_bytes` answer and leave.
-- Assumes nothing.
use Rattle.std.specs.Prelude.{ℕ, zero, suc, ◌≡◌, List, [], ◌∷◌, length, Result, Ok, Err}
use Rattle.records_spec.specs.Refusals.{number}
use Rattle.records_spec.specs.Tables.{At, ◌⦂◌}
use Rattle.records_spec.specs.Flags.{Flags, id_of, Held, flags_of, proper}
use Rattle.records_spec.specs.Outcomes.{Answer, ok, refused, ◌unless◌, ◌>>◌, After, leaving, placed}
use Rattle.records_spec.specs.declared.refusal.Refusal.TheVariants.{BadTable}
use Rattle.rows_spec.specs.Rows.{Tables, rows_under, room_in, over_rows}
use Rattle.rows_spec.specs.Removals.{Removal, nothing, sectioned, rows_of_removal, state_of}
use Rattle.rows_spec.specs.Calls.{RemovalAfter, placed_removal}
use Rattle.rows_spec.specs.declared.removed.Removed.{Removed}
use Rattle.splitting_spec.specs.Sections.{sections, split}
use Rattle.splitting_spec.specs.declared.split.ValueSplit.{ValueSplit}
use Rattle.records_spec.specs.declared.refusal.Refusal.{Refusal}

-- ---- the two removals

-- n bytes in sections under an identifier; no bytes make no removal
abbrev pub removal_under : List ℕ → ℕ → List At → Removal
removal_under i zero ss = nothing
removal_under i (suc n) ss = sectioned (rows_under i ss)

-- key bytes make one section at the base
abbrev pub key_part : List ℕ → ℕ → ℕ → Removal
key_part i base n = removal_under i n (base ⦂ n ∷ [])

-- value bytes are split over the records and the base
abbrev pub value_part : List ℕ → ℕ → List At → ℕ → Removal
value_part i base rs n = removal_under i n (split base rs n)

-- the key's removal, under our owner, or 32 zero bytes
abbrev pub key_removal : Flags → ℕ → Removal
key_removal f n = key_part (id_of f.owner) f.base n

-- the value's removal, under the same
abbrev pub value_removal : Flags → ℕ → Removal
value_removal f n = value_part (id_of f.owner) f.base f.records n

-- how many records are visited for value bytes
abbrev pub visited_for : Flags → ℕ → ℕ
visited_for f n = length (sections f.records n)

-- a removal's state was answered, and its rows stand at the start of the tables
pub record PlacedRemoval (r : Removal) (x : Removed) (t t' : Tables) : Type 0 where
  pub state : x ≡ state_of r
  pub rows : t' ≡ over_rows (rows_of_removal r) t

-- ---- what the value's call answers

-- a removal's state, and how many records were visited
pub record Told : Type 0 where
  pub removal : Removed
  pub visited : ℕ

-- these or a refusal, as the code told it
abbrev pub told_split : Result ValueSplit Refusal → Answer Told
told_split (Ok s) = ok (record { removal = s.removal.removed; visited = s.visited })
told_split (Err r) = refused (number r)

-- all that it leaves: these or a refusal, and the tables lent for the rows
abbrev pub SplitAfter : Type 0
SplitAfter = After (Answer Told) Tables

-- a removal with its rows at the start of the tables, where these have room, and how many records were visited
abbrev pub placed_split : ℕ → Removal → Tables → Answer (Told × Tables)
placed_split visited r t =
    placed (room_in (length (rows_of_removal r)) t) (record { removal = state_of r; visited = visited }) (over_rows (rows_of_removal r) t)

-- ---- the calls

-- `split_key_removed_bytes`
unfoldable pub split_key : Held → ℕ → Tables → RemovalAfter
split_key f n t = leaving t do
  BadTable unless proper f
  placed_removal (key_removal (flags_of f) n) t

-- `split_value_removed_bytes`
unfoldable pub split_value : Held → ℕ → Tables → SplitAfter
split_value f n t = leaving t do
  BadTable unless proper f
  placed_split (visited_for (flags_of f) n) (value_removal (flags_of f) n) t
