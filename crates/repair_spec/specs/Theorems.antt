-- What the theorems on a repair speak of besides: records one after another, the last that fits, lines and where they come from, the answer.
-- Assumes nothing.
use Rattle.std.specs.Prelude.{ℕ, ◌+◌, ◌≤◌, ◌<◌, ◌≡◌, Bool, true, false, cond, not, ◌&&◌, List, [], ◌∷◌, ◌++◌, ltb, eqb, length, get_or, drop}
use Rattle.std.specs.Prelude.{Option, None, Some}
use Rattle.fields_spec.specs.Varint.{largest}
use Rattle.records_spec.specs.Tables.{◌⦂◌, has, held}
use Rattle.records_spec.specs.Flags.{multi, kind_of_byte}
use Rattle.records_spec.specs.Refusals.{number}
use Rattle.records_spec.specs.declared.refusal.Refusal.TheVariants.{UnknownType, WrongSize, NoRoom}
use Rattle.records_spec.specs.declared.head.Kind.{Kind}
use Rattle.codec_spec.specs.Bytes.{record_bytes}
use Rattle.codec_spec.specs.Reading.{some_flags, base_in, read}
use Rattle.repair_spec.specs.Olds.{Old, old_at}
use Rattle.repair_spec.specs.Standing.{old_fits, map_of}
use Rattle.repair_spec.specs.Changes.{Line, line, again, dropped}
use Rattle.repair_spec.specs.Repairing.{Repaired, olds_in, records_left, flags_left}
use Rattle.repair_spec.specs.declared.change.Change.{Change}
use Rattle.repair_spec.specs.declared.change.Change.TheVariants.{ReEncoded, TailCut, Moved, KindChanged}

-- ---- records that are read

-- the record that stands at a place
pub record Link (d : List ℕ) (at : ℕ) (o : Old) : Type 0 where
  pub there : old_at at (drop at d) ≡ Some o
  pub starts : o.offset ≡ at
  pub some_bytes : 3 ≤ o.size
  pub inside : at + o.size ≤ length d

-- where the reading ends: with the bytes; or before them, where kinds 1 and 3 have no record (kinds 0 and 2 read none)
pub data Ends (k : Kind) (d : List ℕ) (at : ℕ) : Option ℕ → Type 0 where
  all_read : length d ≤ at → Ends k d at None
  bytes_left : at < length d → (multi k ≡ true → old_at at (drop at d) ≡ None) → Ends k d at (Some at)

-- records one after another from the place at on, and where the reading ends
abbrev pub Chain : Kind → List ℕ → ℕ → List Old → Option ℕ → Type 0
Chain k d at [] c = Ends k d at c
Chain k d at (o ∷ os) c = Link d at o × Chain k d (at + o.size) os c

-- the place behind records that stand from the place at on
abbrev pub behind_all : ℕ → List Old → ℕ
behind_all at [] = at
behind_all at (o ∷ os) = behind_all (at + o.size) os

-- one of several records, of which P holds with those behind it
pub record Among (P : Old → List Old → Type 0) (os : List Old) : Type 0 where
  pub earlier : List Old
  pub one : Old
  pub later : List Old
  pub split : os ≡ earlier ++ (one ∷ later)
  pub holds : P one later

-- ---- what is left

-- a record that fits: its count has 32 bits, and its epoch is above the base
pub record OldFits (base : ℕ) (o : Old) : Type 0 where
  pub small : o.count ≤ largest
  pub above : base < o.epoch

-- a record that fits and has the epoch e, and none behind it does
pub record FitsLast (base e : ℕ) (o : Old) (later : List Old) : Type 0 where
  pub last_fits : OldFits base o
  pub last_epoch_lem : e ≡ o.epoch
  pub not_again : again base e later ≡ false

-- the last record that fits and has the epoch e
abbrev pub LastThatFits : ℕ → ℕ → List Old → Type 0
LastThatFits base e os = Among (FitsLast base e) os

-- what is left at an epoch: nothing where no record fits there, otherwise the last that does
pub data LeftAt (base e : ℕ) (os : List Old) : Type 0 where
  nothing_left : again base e os ≡ false → has e (map_of base os) ≡ false → LeftAt base e os
  last_left : (l : LastThatFits base e os) → has e (map_of base os) ≡ true → held e (map_of base os) ≡ l.one.count → LeftAt base e os

-- ---- kept records

-- whether a record is longer than it would be written
abbrev pub longer : Old → Bool
longer o = ltb (length (record_bytes (o.epoch ⦂ o.count))) o.size

-- whether a record is kept: it fits, and none of the later ones that fit has its epoch
abbrev pub is_kept : ℕ → Old → List Old → Bool
is_kept base o later = old_fits base o && not (again base o.epoch later)

-- whether some kept one of the earlier records has an epoch above e; later ones stand behind these
abbrev pub higher_kept : ℕ → ℕ → List Old → List Old → Bool
higher_kept base e [] later = false
higher_kept base e (o ∷ earlier) later = cond (is_kept base o (earlier ++ later) && ltb e o.epoch) true (higher_kept base e earlier later)

-- a record that is kept, with an epoch above e; between ones and later ones stand behind it
pub record KeptAbove (base e : ℕ) (later : List Old) (o : Old) (between : List Old) : Type 0 where
  pub kept_fits : OldFits base o
  pub not_again : again base o.epoch (between ++ later) ≡ false
  pub above : e < o.epoch

-- a kept one of the earlier records, with an epoch above e
abbrev pub HigherKept : ℕ → ℕ → List Old → List Old → Type 0
HigherKept base e earlier later = Among (KeptAbove base e later) earlier

-- ---- lines

-- the lines at an offset
abbrev pub lines_at : ℕ → List Line → List Line
lines_at n [] = []
lines_at n (l ∷ ls) = cond (eqb n l.offset) (l ∷ lines_at n ls) (lines_at n ls)

-- each line's offset is at most the next one's, and the first one's is at least a
abbrev pub Climbs : ℕ → List Line → Type 0
Climbs a [] = Unit {0}
Climbs a (l ∷ ls) = (a ≤ l.offset) × Climbs l.offset ls

-- a line of a record: why it was dropped, or where it is kept that it was re-encoded or moved
pub data LineOf (base : ℕ) (l : Line) (o : Old) (later : List Old) : Type 0 where
  was_dropped : (c : Change) → dropped base (again base o.epoch later) o ≡ Some c → l ≡ line o.offset c → LineOf base l o later
  was_longer : dropped base (again base o.epoch later) o ≡ None → longer o ≡ true → l ≡ line o.offset ReEncoded → LineOf base l o later
  was_moved : dropped base (again base o.epoch later) o ≡ None → l ≡ line o.offset Moved → LineOf base l o later

-- where a line comes from
pub data Source (k : Kind) (xs : List ℕ) (l : Line) : Type 0 where
  kind_changed : multi k ≡ true → records_left k xs ≡ [] → l ≡ line 0 KindChanged → Source k xs l
  of_record : Among (LineOf (base_in k xs) l) (olds_in k xs).records → Source k xs l
  tail_cut : (c : ℕ) → (olds_in k xs).cut ≡ Some c → l ≡ line c TailCut → Source k xs l

-- ---- the answer

-- what reading finds in the answer: no bytes, or the flags that are left
pub data ReadBack (xs : List ℕ) (r : Repaired) : Type 0 where
  none_read : xs ≡ [] → r.bytes ≡ [] → ReadBack xs r
  flags_read : (k : Kind) → kind_of_byte (get_or xs 0 0) ≡ Some k → read r.bytes ≡ some_flags (flags_left k xs) → ReadBack xs r

-- the numbers that a repair is refused with: 1, 2 (owner or base not complete) or 10 (no room)
pub data RepairRefusal : ℕ → Type 0 where
  unknown_type : RepairRefusal (number UnknownType)
  wrong_size : RepairRefusal (number WrongSize)
  no_room : RepairRefusal (number NoRoom)
