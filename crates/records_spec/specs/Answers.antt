-- What calls leave that answer flags, or a number: an answer stands at the start of what was lent, and the places behind it are untouched.
-- Assumes nothing.
use Rattle.std.specs.Prelude.{ℕ, Bool, true, false, ◌&&◌, List, leb, length, Result, Ok, Err}
use Rattle.std.specs.Prelude.{Option, None, Some}
use Rattle.records_spec.specs.Refusals.{number}
use Rattle.records_spec.specs.Outcomes.{Answer, ok, refused, ◌>>=◌, After, after, leaving, placed}
use Rattle.records_spec.specs.Tables.{At, records_of, epochs_of, counts_of, over}
use Rattle.records_spec.specs.Flags.{Flags, head_of, no_head, Lent, lending, Held, holding, blank}
use Rattle.records_spec.specs.declared.head.Head.{Head}
use Rattle.records_spec.specs.declared.refusal.Refusal.{Refusal}

-- ---- calls that answer flags

-- all that such a call leaves: whether there are flags, or a refusal; their head, which is all zeros where there are none; and the lent tables
abbrev pub FlagsAfter : Type 0
FlagsAfter = After (Answer Bool) Held

-- whether there are flags, or a refusal, as the code tells it: by their head, or none
abbrev pub present_in : Result (Option Head) Refusal → Answer Bool
present_in (Ok None) = ok false
present_in (Ok (Some h)) = ok true
present_in (Err r) = refused (number r)

-- the head that the code tells, which is all zeros where there are no flags
abbrev pub head_in : Result (Option Head) Refusal → Head
head_in (Ok None) = no_head
head_in (Ok (Some h)) = h
head_in (Err r) = no_head

-- what the code answered and left
abbrev pub shown : Result (Option Head) Refusal → Lent → FlagsAfter
shown a t = after (present_in a) (holding (head_in a) t.epochs t.counts)

-- whether n records have room in tables of these lengths
abbrev pub room_for : ℕ → ℕ → ℕ → Bool
room_for n epochs_long counts_long = leb n epochs_long && leb n counts_long

-- flags, with their records at the start of two tables
abbrev pub in_tables : Flags → Lent → Held
in_tables f t = holding (head_of f) (over (epochs_of f.records) t.epochs) (over (counts_of f.records) t.counts)

-- flags in two lent tables, where these have room
abbrev pub placed_flags : Flags → Lent → Answer (Bool × Held)
placed_flags f t = placed (room_for (length f.records) (length t.epochs) (length t.counts)) true (in_tables f t)

-- the same, or no flags, which leave the tables as they came
abbrev pub placed_if : Option Flags → Lent → Answer (Bool × Held)
placed_if None t = ok (false, blank t)
placed_if (Some f) t = placed_flags f t

-- what is left of two tables where the answer is flags or a refusal
unfoldable pub placing : Answer Flags → Lent → FlagsAfter
placing x t = leaving (blank t) do
  f ← x
  placed_flags f t

-- the same where there may be no flags
unfoldable pub placing_if : Answer (Option Flags) → Lent → FlagsAfter
placing_if x t = leaving (blank t) do
  f ← x
  placed_if f t

-- ---- calls that answer a number

-- all that a writer of bytes leaves: their number or a refusal, and the lent output
abbrev pub BytesAfter : Type 0
BytesAfter = After (Answer ℕ) (List ℕ)

-- bytes at the start of the lent output, where they have room
abbrev pub placed_bytes : List ℕ → List ℕ → Answer (ℕ × List ℕ)
placed_bytes xs out = placed (leb (length xs) (length out)) (length xs) (over xs out)

-- what is left of the lent output
unfoldable pub writing : List ℕ → List ℕ → BytesAfter
writing xs out = leaving out (placed_bytes xs out)

-- ---- as contracts name them

-- flags that a call is given: a head beside two slices
abbrev pub flags_were : Head → List ℕ → List ℕ → Held
flags_were h es cs = holding h es cs

-- the records that two slices held
abbrev pub records_were : List ℕ → List ℕ → List At
records_were es cs = records_of es cs

-- two lent tables as they came
abbrev pub tables_were : List ℕ → List ℕ → Lent
tables_were es cs = lending es cs

-- and as they are left
abbrev pub tables_left : List ℕ → List ℕ → Lent
tables_left es cs = lending es cs
