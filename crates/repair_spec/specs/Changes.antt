-- The list of changes: document 02 (iv), which lines each record has. Assumes nothing.
use Rattle.std.specs.Prelude.{ℕ, Bool, true, false, cond, ◌&&◌, List, [], ◌∷◌, ◌++◌, leb, ltb, eqb, length}
use Rattle.std.specs.Prelude.{Option, None, Some}
use Rattle.fields_spec.specs.Varint.{largest}
use Rattle.records_spec.specs.Tables.{◌⦂◌}
use Rattle.codec_spec.specs.Bytes.{record_bytes}
use Rattle.repair_spec.specs.Olds.{Old}
use Rattle.repair_spec.specs.Standing.{old_fits}
use Rattle.repair_spec.specs.declared.change.Change.{Change}
use Rattle.repair_spec.specs.declared.change.Change.TheVariants.{ReEncoded, TooLarge, NotAboveBase, Replaced, TailCut, Moved, KindChanged}

-- a change's number
abbrev pub change_number : Change → ℕ
change_number ReEncoded = 1
change_number TooLarge = 2
change_number NotAboveBase = 3
change_number Replaced = 4
change_number TailCut = 5
change_number Moved = 6
change_number KindChanged = 7

-- a change and the input offset where it is
pub record Line : Type 0 where
  pub offset : ℕ
  pub change : Change

-- a line
abbrev pub line : ℕ → Change → Line
line offset change = record { offset = offset; change = change }

-- a line, if there is one
abbrev pub line_if : Bool → ℕ → Change → List Line
line_if true offset change = line offset change ∷ []
line_if false offset change = []

-- ---- one record

-- whether a later record that fits has the epoch
unfoldable pub again : ℕ → ℕ → List Old → Bool
again base e [] = false
again base e (o ∷ os) = cond (old_fits base o && eqb e o.epoch) true (again base e os)

-- whether some of these epochs is above e
unfoldable pub some_above : ℕ → List ℕ → Bool
some_above e [] = false
some_above e (x ∷ xs) = cond (ltb e x) true (some_above e xs)

-- why a record is dropped, the first that fits; none where it is kept
abbrev pub dropped : ℕ → Bool → Old → Option Change
dropped base replaced o =
    cond (ltb largest o.count) (Some TooLarge) (cond (leb o.epoch base) (Some NotAboveBase) (cond replaced (Some Replaced) None))

-- a kept record may have two lines, re-encoded (it has more bytes than are written for it) before moved
abbrev pub kept_lines : Bool → Old → List Line
kept_lines moved o =
    line_if (ltb (length (record_bytes (o.epoch ⦂ o.count))) o.size) o.offset ReEncoded ++ line_if moved o.offset Moved

-- a dropped record has one line
abbrev pub record_lines : Option Change → Bool → Old → List Line
record_lines (Some c) moved o = line o.offset c ∷ []
record_lines None moved o = kept_lines moved o

-- the epochs of the kept ones, with a record's if it is kept
abbrev pub keeping : Option Change → Old → List ℕ → List ℕ
keeping (Some c) o before = before
keeping None o before = o.epoch ∷ before

-- ---- all

-- the lines of records behind kept ones at these epochs
unfoldable pub lines_after : ℕ → List ℕ → List Old → List Line
lines_after base before [] = []
lines_after base before (o ∷ os) =
    record_lines (dropped base (again base o.epoch os) o) (some_above o.epoch before) o
    ++ lines_after base (keeping (dropped base (again base o.epoch os) o) o before) os

-- where the reading ended before the bytes did
abbrev pub cut_line : Option ℕ → List Line
cut_line None = []
cut_line (Some offset) = line offset TailCut ∷ []
