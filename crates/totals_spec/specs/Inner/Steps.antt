-- What the functions inside the crate ask and promise.
-- Assumes nothing.
use Rattle.std.specs.Prelude.{ℕ, suc, ◌+◌, ◌-◌, ◌≤◌, ◌≡◌, Bool, true, false, cond, ◌&&◌, List, [], ◌∷◌, ltb, eqb, length, take, drop}
use Rattle.std.proofs.lemmas.List.Edits.{sets}
use Rattle.records_spec.specs.Flags.{zeros, id_of, owner_of}
use Rattle.records_spec.specs.Tables.{records_of}
use Rattle.records_spec.specs.Outcomes.{Answer, ok, ◌unless◌, leaving, ◌>>=◌, ◌>>◌}
use Rattle.records_spec.specs.declared.refusal.Refusal.TheVariants.{Overflow, IndexMismatch}
use Rattle.records_spec.specs.declared.head.Head.{Head}
use Rattle.rows_spec.specs.Order.{is_less}
use Rattle.rows_spec.specs.Rows.{Row, compared, ascends, Tables, tables, rows_in, rows_under, Room}
use Rattle.totals_spec.specs.Table.{all_positive, total_at}
use Rattle.totals_spec.specs.Replacing.{covered, all_fit}
use Rattle.totals_spec.specs.declared.finding.RowSpot.{RowSpot}
use Rattle.totals_spec.specs.declared.replacing.Named.{Named}
use Rattle.totals_spec.specs.Calls.{RowsAfter, placed_rows}

-- the rows of records under an owner
abbrev pub under : List ℕ → List ℕ → List ℕ → List Row
under owner es cs = rows_under owner (records_of es cs)

-- ---- finding

-- how many of ascending rows are below a row
unfoldable pub place_in : Row → List Row → ℕ
place_in r [] = 0
place_in r (b ∷ bs) = cond (is_less (compared b r)) (suc (place_in r bs)) 0

-- the rows from one place up to another
abbrev pub rows_between : ℕ → ℕ → Tables → List Row
rows_between from upto t = drop from (rows_in upto t)

-- the rows from one place up to another stand in the tables, ascend, and no total is 0
pub record Standing (from upto : ℕ) (t : Tables) : Type 0 where
  pub within : from ≤ upto
  pub room : Room upto t
  pub rises : ascends (rows_between from upto t) ≡ true
  pub full : all_positive (rows_between from upto t) ≡ true

-- the place of a row among those from a place on, and the total there
abbrev pub spot_in : ℕ → Row → List Row → RowSpot
spot_in from r rs = record { place = from + place_in r rs; total = total_at r rs }

-- ---- judging

-- how many rows go: those whose total is all of the old count
unfoldable pub gone : List Row → List Row → ℕ
gone [] t = 0
gone (o ∷ os) t = cond (ltb 0 o.part.bytes && eqb (total_at o t) o.part.bytes) 1 0 + gone os t

-- how many rows are made: those of a new count where nothing is left
unfoldable pub made : List Row → List Row → List Row → ℕ
made os [] t = 0
made os (n ∷ ns) t = cond (ltb 0 n.part.bytes && eqb (total_at n t - total_at n os) 0) 1 0 + made os ns t

-- the rows that go, where the old counts are held
abbrev pub judged_old : List Row → List Row → Answer ℕ
judged_old os t = do
  IndexMismatch unless covered os t
  ok (gone os t)

-- the rows that are made, where the new counts fit
abbrev pub judged_new : List Row → List Row → List Row → Answer ℕ
judged_new os ns t = do
  Overflow unless all_fit os ns t
  ok (made os ns t)

-- the number of rows that an answer has
abbrev pub counted_rows : Answer (List Row) → Answer ℕ
counted_rows x = do
  rs ← x
  ok (length rs)

-- what flags name, as the code has it
abbrev pub named_by : Bool → Head → Named
named_by true h = record { owner = id_of (owner_of h); records = h.records }
named_by false h = record { owner = zeros; records = 0 }

-- ---- moving

-- what stands from one place up to another, set at a third
abbrev pub moved_in : {A : Type 0} → ℕ → ℕ → ℕ → List A → List A
moved_in from upto to xs = sets xs to (drop from (take upto xs))

-- the rows from one place up to another, set at a third
abbrev pub moved : ℕ → ℕ → ℕ → Tables → Tables
moved from upto to t = tables (moved_in from upto to t.ids) (moved_in from upto to t.epochs) (moved_in from upto to t.bytes)

-- what is left of the table where the answer is rows or a refusal
unfoldable pub placing_rows : Answer (List Row) → Tables → RowsAfter
placing_rows x t = leaving t do
  rs ← x
  placed_rows rs t
