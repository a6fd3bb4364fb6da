-- The marked examples P1 to P14 of document 01 as one table: what is asked of the calls, and what they are to tell. Unowned, base 5.
-- Assumes nothing.
use Rattle.std.specs.Prelude.{ℕ, cond, Bool, List, [], ◌∷◌, replicate}
use Rattle.std.specs.Prelude.{None}
use Rattle.records_spec.specs.Tables.{At, ◌⦂◌, epochs_of, counts_of}
use Rattle.records_spec.specs.Flags.{Flags, flags, zeros, head_of, flags_of, Held, holding, lending}
use Rattle.codec_spec.specs.Calls.{deserialized}
use Rattle.records_spec.specs.Outcomes.{refused, Answer, ok}
use Rattle.flags_spec.specs.declared.owners.MergingOwnersStrategy.TheVariants.{RaiseIssue}
use Rattle.rows_spec.specs.Rows.{row, parts_of, Tables, tables, over_rows}
use Rattle.rows_spec.specs.Removals.{Removal, basic, sectioned, removal_in, rows_of_removal, state_of, holding_rows, HeldRemoval}
use Rattle.rows_spec.specs.declared.removed.Removed.{Removed}
use Rattle.sums_spec.specs.Calls.{summed}
use Rattle.splitting_spec.specs.Calls.{Told, split_value}
use Rattle.steps.specs.History.{Edit, add, remove, State, state, step}

-- what is asked: bytes to be read; a value split of records; its merge with incoming flags at 9; an amount added at an epoch; a sum at a version
pub data Question : Type 0 where
  reads : List ℕ → Question
  splits merges : List At → ℕ → Question
  adds : List At → ℕ → ℕ → Question
  sums : ℕ → Removal → Removal → Question

-- what is told: no flags, flags, sections with the number of records visited, a removal, or a refusal
pub data Reply : Type 0 where
  no_flags : Reply
  some_flags : Flags → Reply
  in_sections : List At → ℕ → Reply
  some_removal : Removal → Reply
  refusal : ℕ → Reply

-- ---- what is lent

-- two tables of three places
abbrev pub places : List ℕ
places = replicate 3 0

-- tables of three rows
abbrev pub row_places : Tables
row_places = tables (replicate 3 zeros) places places

-- unowned flags of a base and records
abbrev pub unowned : ℕ → List At → Held
unowned base rs = holding (head_of (flags base None rs)) (epochs_of rs) (counts_of rs)

-- incoming flags of kind 0 at an epoch, and an amount
abbrev pub edit : ℕ → ℕ → Edit
edit e n =
    record { incoming = unowned e []; strategy = RaiseIssue; amount = n; out = lending places places; row_tables = row_places }

-- ---- what is told

-- by a reader
abbrev pub told_of_reader : Answer Bool → Held → Reply
told_of_reader (refused n) f = refusal n
told_of_reader (ok present) f = cond present (some_flags (flags_of f)) no_flags

-- by a split
abbrev pub told_of_split : Answer Told → Tables → Reply
told_of_split (refused n) t = refusal n
told_of_split (ok u) t = in_sections (parts_of (rows_of_removal (removal_in u.removal t))) u.visited

-- by a step of a history
abbrev pub told_of_step : Answer State → Reply
told_of_step (refused n) = refusal n
told_of_step (ok st) = some_flags (flags_of st.flags)

-- by a sum
abbrev pub told_of_sum : Answer Removed → Tables → Reply
told_of_sum (refused n) t = refusal n
told_of_sum (ok x) t = some_removal (removal_in x t)

-- a removal, its rows at the start of lent tables
abbrev pub in_places : Removal → HeldRemoval
in_places x = holding_rows (state_of x) (over_rows (rows_of_removal x) row_places)

-- what the calls tell
unfoldable pub tell : Question → Reply
tell (reads bytes) =
    let a = deserialized bytes (lending places places) in
    told_of_reader a.answer a.lent
tell (splits rs n) =
    let a = split_value (unowned 5 rs) n row_places in
    told_of_split a.answer a.lent
tell (merges rs n) = told_of_step (step (state (unowned 5 rs) []) (remove (edit 9 n)))
tell (adds rs e n) = told_of_step (step (state (unowned 5 rs) []) (add (edit e n)))
tell (sums version x y) =
    let a = summed version (in_places x) (in_places y) in
    told_of_sum a.answer a.lent

-- ---- the table

-- a question, and what is to be told
abbrev pub Example : Type 0
Example = Question × Reply

unfoldable pub examples : List Example
examples =
    -- P1 to P9
    (reads [], no_flags)
    ∷ (reads (0x00 ∷ 0x00 ∷ 0x05 ∷ []), some_flags (flags 5 None []))
    ∷ (reads (0x00 ∷ 0x05 ∷ []), refusal 2)
    ∷ (reads (0x01 ∷ 0x00 ∷ 0x05 ∷ []), refusal 2)
    ∷ (reads (0x01 ∷ 0x00 ∷ 0x05 ∷ 0x00 ∷ 0x07 ∷ 0xAC ∷ 0x02 ∷ []), some_flags (flags 5 None (7 ⦂ 300 ∷ [])))
    ∷ (reads (0x01 ∷ 0x00 ∷ 0x05 ∷ 0x00 ∷ 0x05 ∷ 0x01 ∷ []), refusal 3)
    ∷ (reads (0x01 ∷ 0x00 ∷ 0x05 ∷ 0x00 ∷ 0x07 ∷ 0x81 ∷ 0x00 ∷ []), refusal 3)
    ∷ (reads (0x01 ∷ 0x00 ∷ 0x05 ∷ 0x00 ∷ 0x07 ∷ 0x80 ∷ []), refusal 2)
    ∷ (reads (0x04 ∷ []), refusal 1)
    -- P10
    ∷ (splits (7 ⦂ 10 ∷ 9 ⦂ 5 ∷ []) 6, in_sections (7 ⦂ 4 ∷ 9 ⦂ 2 ∷ []) 2)
    ∷ (merges (7 ⦂ 10 ∷ 9 ⦂ 5 ∷ []) 6, some_flags (flags 5 None (7 ⦂ 6 ∷ [])))
    -- P11
    ∷ (splits (7 ⦂ 10 ∷ 9 ⦂ 5 ∷ []) 20, in_sections (5 ⦂ 11 ∷ 7 ⦂ 7 ∷ 9 ⦂ 2 ∷ []) 2)
    ∷ (merges (7 ⦂ 10 ∷ 9 ⦂ 5 ∷ []) 20, some_flags (flags 5 None []))
    -- P12
    ∷ (splits (7 ⦂ 10 ∷ 9 ⦂ 3 ∷ []) 1, in_sections (7 ⦂ 1 ∷ 9 ⦂ 0 ∷ []) 2)
    ∷ (merges (7 ⦂ 10 ∷ 9 ⦂ 3 ∷ []) 1, some_flags (flags 5 None (7 ⦂ 9 ∷ [])))
    -- P13
    ∷ (adds (7 ⦂ 300 ∷ []) 7 50, some_flags (flags 5 None (7 ⦂ 350 ∷ [])))
    ∷ (adds (7 ⦂ 300 ∷ []) 8 0, some_flags (flags 5 None (7 ⦂ 300 ∷ 8 ⦂ 0 ∷ [])))
    -- P14
    ∷ (sums 0 (basic 4) (sectioned (row zeros 3 10 ∷ [])), some_removal (sectioned []))
    ∷ (sums 1 (basic 4) (sectioned (row zeros 3 10 ∷ [])), some_removal (sectioned (row zeros 3 10 ∷ row zeros 65535 4 ∷ [])))
    ∷ []
