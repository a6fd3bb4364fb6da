-- What is known of a table after some of its rows, and what follows from it: the judging of a change row by row.
-- Assumes nothing.
use Rattle.std.specs.Prelude.{ℕ, ◌+◌, ◌-◌, ◌^◌, ◌<◌, ◌≤◌, Bool, true, false, cond, ◌&&◌, List, [], ◌∷◌, leb, ltb, eqb, length, take, get_or}
use Rattle.records_spec.specs.Flags.{zeros, Held}
use Rattle.records_spec.specs.Inner.Tables.{Table}
use Rattle.records_spec.specs.Outcomes.{Answer, ok, ◌unless◌, ◌>>◌}
use Rattle.records_spec.specs.declared.refusal.Refusal.TheVariants.{Overflow, BadTable, IndexMismatch, NoRoom}
use Rattle.records_spec.specs.declared.refusal.Refusal.{Refusal}
use Rattle.rows_spec.specs.Order.{is_less}
use Rattle.rows_spec.specs.Rows.{Row, row, compared}
use Rattle.totals_spec.specs.Table.{total_at}
use Rattle.totals_spec.specs.Replacing.{largest_total}
use Rattle.totals_spec.specs.Calls.{proper_given}
use Rattle.totals_spec.specs.Inner.Steps.{under, named_by}
use Rattle.totals_spec.specs.declared.replacing.Named.{Named}
use Rattle.totals_index_spec.specs.declared.judging.Judging.{Judging}
use Rattle.totals_index_spec.specs.declared.structs.Total.{Total}

-- 1 where something is so, else 0
abbrev pub one : Bool → ℕ
one b = cond b 1 0

-- how many counts are above 0
unfoldable pub positives : List ℕ → ℕ
positives [] = 0
positives (c ∷ cs) = one (ltb 0 c) + positives cs

-- ---- where it starts

-- n rows are to be judged: every old count is owed, no row has gone, and each new count makes a row
abbrev pub beginning : ℕ → Named → Named → ℕ → ℕ → Judging
beginning n old new owed made =
    record {
      rows = n;
      upto = n;
      old = old;
      new = new;
      good = true;
      any = false;
      owner = zeros;
      epoch = 0;
      owed = owed;
      fits = true;
      left = n;
      made = made;
    }

-- nothing is named
abbrev pub none_named : Named
none_named = record { owner = zeros; records = 0 }

-- 11 is known already, and no row is looked at
abbrev pub unjudged : ℕ → Judging
unjudged n =
    record {
      rows = n;
      upto = 0;
      old = none_named;
      new = none_named;
      good = false;
      any = false;
      owner = zeros;
      epoch = 0;
      owed = 0;
      fits = true;
      left = n;
      made = 0;
    }

-- n rows of a table of a size, by whether they stand in it and the flags are proper
unfoldable pub started : ℕ → ℕ → Bool → Held → Bool → Held → Judging
started n size op old np new =
    cond (leb n size && (proper_given op old && proper_given np new))
    (beginning n (named_by op old.head) (named_by np new.head) (positives (take (named_by op old.head).records old.counts))
    (positives (take (named_by np new.head).records new.counts)))
    (unjudged n)

-- ---- one row more

-- a struct as a row
abbrev pub row_of : Total → Row
row_of t = row t.owner t.epoch t.total

-- each total of the first n rows is one of 64 bits
abbrev pub TotalsFit : ℕ → List Total → Type 0
TotalsFit n ts = (i : ℕ) → i < n → (get_or ts i (record { owner = []; epoch = 0; total = 0 })).total < 2 ^ 64

-- named records as rows
abbrev pub rows_named : Named → List ℕ → List ℕ → List Row
rows_named r es cs = under r.owner (take r.records es) (take r.records cs)

-- whether a row stands behind the last one, if there is one
abbrev pub follows : Judging → Row → Bool
follows j b = cond j.any (is_less (compared (row j.owner j.epoch 0) b)) true

-- a count above 0 that a total holds
abbrev pub holds : ℕ → ℕ → Bool
holds count total = ltb 0 count && leb count total

-- a count above 0 that is all of a total
abbrev pub goes : ℕ → ℕ → Bool
goes count total = ltb 0 count && eqb total count

-- a count above 0 that meets something that an old count left
abbrev pub meets : ℕ → ℕ → ℕ → Bool
meets old count total = ltb 0 count && ltb 0 (total - old)

-- what is known with one row more
abbrev pub judged_next : List Row → List Row → Judging → Row → Judging
judged_next os ns j b =
    record {
      rows = j.rows;
      upto = j.upto;
      old = j.old;
      new = j.new;
      good = j.good && (follows j b && ltb 0 b.part.bytes);
      any = true;
      owner = b.identifier;
      epoch = b.part.epoch;
      owed = j.owed - one (holds (total_at b os) b.part.bytes);
      fits = j.fits && leb (b.part.bytes - total_at b os + total_at b ns) largest_total;
      left = j.left - one (goes (total_at b os) b.part.bytes);
      made = j.made - one (meets (total_at b os) (total_at b ns) b.part.bytes);
    }

-- and with all of some rows
unfoldable pub judged_all : List Row → List Row → Judging → List Row → Judging
judged_all os ns j [] = j
judged_all os ns j (b ∷ t) = judged_all os ns (judged_next os ns j b) t

-- ---- what follows from it

-- the number of rows afterwards, or a refusal
abbrev pub verdict_of : Judging → Answer ℕ
verdict_of j = do
  BadTable unless j.good
  IndexMismatch unless eqb j.owed 0
  Overflow unless j.fits
  ok (j.left + j.made)

-- the refusal where the change is not made: that of the verdict, or for room
abbrev pub refusal_for : Judging → Refusal
refusal_for j = cond j.good (cond (eqb j.owed 0) (cond j.fits NoRoom Overflow) IndexMismatch) BadTable

-- whether three columns of these lengths have n places
abbrev pub room_of : ℕ → ℕ → ℕ → ℕ → Bool
room_of n owners epochs totals = leb n owners && (leb n epochs && leb n totals)

-- whether a change is accepted, and its rows have room in a table of a size, and with the rows before in columns of these lengths
abbrev pub fitted : Judging → ℕ → ℕ → ℕ → ℕ → Bool
fitted j size owners epochs totals =
    (j.good && (eqb j.owed 0 && j.fits))
    && (leb (j.left + j.made) size && (room_of j.rows owners epochs totals && room_of (j.left + j.made) owners epochs totals))

-- ---- what the functions ask

-- named records stand in their tables, with ascending epochs
pub record AskedOf (r : Named) (es cs : List ℕ) : Type 0 where
  pub epochs_long : r.records ≤ length es
  pub counts_long : r.records ≤ length cs
  pub table : Table (take r.records es) (take r.records cs)

-- so do those of the old flags and of the new ones
pub record Asked (j : Judging) (oes ocs nes ncs : List ℕ) : Type 0 where
  pub olds : AskedOf j.old oes ocs
  pub news : AskedOf j.new nes ncs

-- no count passes 64 bits, as none of 32 bits does
abbrev pub Small : List ℕ → Type 0
Small cs = (i : ℕ) → get_or cs i 0 ≤ largest_total
