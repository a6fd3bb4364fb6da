-- Repairing old flag bytes: document 02 (iv), the bytes that are written and the list of changes. Assumes nothing.
use Rattle.std.specs.Prelude.{Option}
use Rattle.std.specs.Prelude.{ℕ, cond, List, [], ◌∷◌, ◌++◌, leb, ltb, length, drop}
use Rattle.std.specs.Prelude.{None, Some}
use Rattle.records_spec.specs.Tables.{At}
use Rattle.records_spec.specs.Flags.{Flags, flags, multi, kind_of_byte}
use Rattle.records_spec.specs.Outcomes.{refused, Answer, ok, ◌unless◌, ◌>>◌}
use Rattle.records_spec.specs.Refusals.{number}
use Rattle.records_spec.specs.declared.refusal.Refusal.TheVariants.{UnknownType, WrongSize}
use Rattle.records_spec.specs.declared.head.Kind.{Kind}
use Rattle.codec_spec.specs.Bytes.{head_size, bytes_of}
use Rattle.codec_spec.specs.Reading.{base_in, owner_in}
use Rattle.repair_spec.specs.Olds.{Olds, olds}
use Rattle.repair_spec.specs.Standing.{map_of}
use Rattle.repair_spec.specs.Changes.{Line, line_if, lines_after, cut_line}
use Rattle.repair_spec.specs.declared.change.Change.TheVariants.{KindChanged}

-- canonical bytes and the list of changes
pub record Repaired : Type 0 where
  pub bytes : List ℕ
  pub lines : List Line

-- kinds 0 and 2: extra bytes are cut
abbrev pub extra : Kind → List ℕ → Olds
extra k xs = record { records = []; cut = cond (ltb (head_size k) (length xs)) (Some (head_size k)) None }

-- what is read behind the head
abbrev pub olds_in : Kind → List ℕ → Olds
olds_in k xs = cond (multi k) (olds (head_size k) 0 (drop (head_size k) xs)) (extra k xs)

-- the records that are left
abbrev pub records_left : Kind → List ℕ → List At
records_left k xs = map_of (base_in k xs) (olds_in k xs).records

-- the flags that are written; nothing left gives kind 0 or 2
abbrev pub flags_left : Kind → List ℕ → Flags
flags_left k xs = flags (base_in k xs) (owner_in k xs) (records_left k xs)

-- nothing left adds the line kind changed, at offset 0
abbrev pub kind_line : Kind → List At → List Line
kind_line k [] = line_if (multi k) 0 KindChanged
kind_line k (r ∷ rs) = []

-- all lines, ascending by offset
abbrev pub lines_of : Kind → List ℕ → List Line
lines_of k xs = kind_line k (records_left k xs) ++ (lines_after (base_in k xs) [] (olds_in k xs).records ++ cut_line (olds_in k xs).cut)

-- bytes of a kind, where owner and base are complete
unfoldable pub repaired_as : Kind → List ℕ → Answer Repaired
repaired_as k xs = do
  WrongSize unless leb (head_size k) (length xs)
  ok (record { bytes = bytes_of (flags_left k xs); lines = lines_of k xs })

-- bytes of the kind that a byte names, if it names one
abbrev pub repaired_byte : Option Kind → List ℕ → Answer Repaired
repaired_byte (Some k) xs = repaired_as k xs
repaired_byte None xs = refused (number UnknownType)

-- old bytes repaired; no bytes give no bytes and an empty list
unfoldable pub repaired : List ℕ → Answer Repaired
repaired [] = ok (record { bytes = []; lines = [] })
repaired (b ∷ xs) = repaired_byte (kind_of_byte b) (b ∷ xs)
