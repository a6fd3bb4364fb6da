-- A count at hand while counts are judged: it is the next of them, and the look-up tells the total of its row. Assumes nothing.
use Rattle.std.proofs.Common.{◌≡◌, ℕ, ◌+◌, List, ◌∷◌, drop, get_or, ap, ◌∙◌}
use Rattle.records_spec.specs.Inner.Tables.{Table}
use Rattle.rows_spec.specs.Rows.{Row, row}
use Rattle.rows_spec.proofs.Comparing.{self_same}
use Rattle.totals_rows.proofs.Turns.{AtHand}
use Rattle.totals_spec.specs.Table.{total_at}
use Rattle.totals_spec.specs.Inner.Steps.{under, spot_in}
use Rattle.totals_spec.specs.declared.finding.RowSpot.{RowSpot}
use Rattle.totals_spec.proofs.Totals.{total_same}
use Rattle.totals_spec.proofs.UnderOwner.{under_on}

-- the row of the record at a place
abbrev pub row_under : List ℕ → List ℕ → List ℕ → ℕ → Row
row_under o es cs i = row o (get_or es i 0) (get_or cs i 0)

-- a row is the next of the records under an owner, and its count and its total in a table are told
pub record Told (o es cs : List ℕ) (rows : List Row) (i count total : ℕ) : Type 0 where
  pub next : drop i (under o es cs) ≡ row_under o es cs i ∷ drop (i + 1) (under o es cs)
  pub count_is : count ≡ get_or cs i 0
  pub total_is : total ≡ total_at (row_under o es cs i) rows

-- the total of a row by owner and epoch is that of the row with its count
pub same_row : {es cs : List ℕ} {i epoch n k : ℕ} (o : List ℕ) (rows : List Row) → AtHand es cs i epoch n → k ≡ total_at (row o epoch 0) rows
    → k ≡ total_at (row_under o es cs i) rows
same_row {es} {cs} {i} o rows h e =
    rw h.epoch_is at e ∙ total_same (row o (get_or es i 0) 0) (row_under o es cs i) rows (self_same (row_under o es cs i))

pub told : {o es cs : List ℕ} {rows : List Row} {i epoch n count : ℕ} {spot : RowSpot} → Table es cs → AtHand es cs i epoch n → count ≡ n
    → spot ≡ spot_in 0 (row o epoch 0) rows → Told o es cs rows i count spot.total
told {o} {rows = rows} {i = i} t h e f = record {
  next = under_on o t i h.within;
  count_is = e ∙ h.count_is;
  total_is = same_row o rows h (ap (λ (s : RowSpot). s.total) f);
}
