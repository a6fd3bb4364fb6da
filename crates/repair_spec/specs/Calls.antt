-- What the call of this crate answers and leaves. Assumes nothing.
use Rattle.std.specs.Prelude.{ℕ, ◌&&◌, List, [], ◌∷◌, leb, length}
use Rattle.records_spec.specs.Tables.{over}
use Rattle.records_spec.specs.Outcomes.{Answer, ◌>>=◌, After, leaving, placed}
use Rattle.records_spec.specs.Answers.{room_for}
use Rattle.repair_spec.specs.Changes.{Line, change_number}
use Rattle.repair_spec.specs.Repairing.{Repaired, repaired}
use Rattle.repair_spec.specs.declared.repairing.Sizes.{Sizes}

-- what is lent: the output, and the list's offsets and changes
pub record RepairLent : Type 0 where
  pub out : List ℕ
  pub offsets : List ℕ
  pub changes : List ℕ

-- of these three
abbrev pub repair_lent : List ℕ → List ℕ → List ℕ → RepairLent
repair_lent out os cs = record { out = out; offsets = os; changes = cs }

-- as three slices were when the call began
abbrev pub repair_was : List ℕ → List ℕ → List ℕ → RepairLent
repair_was out os cs = repair_lent out os cs

-- and as the call leaves them
abbrev pub repair_left : List ℕ → List ℕ → List ℕ → RepairLent
repair_left out os cs = repair_lent out os cs

-- all that repairing leaves: the sizes or a refusal, and the lent output and list
abbrev pub RepairAfter : Type 0
RepairAfter = After (Answer Sizes) RepairLent

-- the lines' offsets
unfoldable pub offsets_of : List Line → List ℕ
offsets_of [] = []
offsets_of (l ∷ ls) = l.offset ∷ offsets_of ls

-- the lines' changes, by their numbers
unfoldable pub changes_of : List Line → List ℕ
changes_of [] = []
changes_of (l ∷ ls) = change_number l.change ∷ changes_of ls

-- how many bytes and lines a repair has
abbrev pub sizes_of : Repaired → Sizes
sizes_of r = record { bytes = length r.bytes; lines = length r.lines }

-- the bytes at the start of the lent output, the list at the start of the two lent slices
abbrev pub written : Repaired → RepairLent → RepairLent
written r m = repair_lent (over r.bytes m.out) (over (offsets_of r.lines) m.offsets) (over (changes_of r.lines) m.changes)

-- bytes and list, where both have room
abbrev pub placed_repair : Repaired → RepairLent → Answer (Sizes × RepairLent)
placed_repair r m =
    placed (leb (length r.bytes) (length m.out) && room_for (length r.lines) (length m.offsets) (length m.changes)) (sizes_of r)
    (written r m)

-- what is left where the answer is a repair or a refusal
unfoldable pub placing_repair : Answer Repaired → RepairLent → RepairAfter
placing_repair x m = leaving m do
  r ← x
  placed_repair r m

-- `repair`
abbrev pub repaired_into : List ℕ → RepairLent → RepairAfter
repaired_into src = placing_repair (repaired src)
