-- What the statement of `replace_structs` says of the table and the work area: a refusal leaves both as they were, and where the work area has room
-- the answer and the table's columns are those of `totals::replace`.
-- Assumes nothing.
use mathlib.Core.Path.{◌≡◌, refl, sym, ap, ◌∙◌}
use mathlib.Core.Bool.{Bool, true, false, ◌&&◌, and-true}
use Rattle.std.specs.Prelude.{Option}
use mathlib.Core.List.{List, [], ◌∷◌}
use Prim.Native.Nat.{ℕ, ◌≤◌}
use native.Mathlib.Nat.{le_of_suc-le-suc, not-suc-le-zero}
use lib.Dec.{leb}
use lib.ListN.{length}
use borrow.Author.Tests.{leb-true}
use Rattle.records_spec.specs.Tables.{counts_of, over, epochs_of}
use Rattle.records_spec.specs.Flags.{Flags}
use Rattle.rows_spec.specs.Rows.{Row, Tables, ids_of, parts_of, rows_in, room_in, over_rows}
use Rattle.rows_spec.proofs.Columns.{three}
use Rattle.totals_spec.specs.Calls.{placed_rows, proper_table, replacing}
use Rattle.totals_spec.specs.Inner.Steps.{placing_rows}
use Rattle.totals_spec.specs.Replacing.{replaced}
use Rattle.records_spec.specs.Outcomes.{refused, Answer, ok, leaving, after, ◌unless◌, ◌>>◌, ◌>>=◌, placed}
use Rattle.records_spec.specs.declared.refusal.Refusal.TheVariants.{BadTable}
use Rattle.records_spec.proofs.Only.{refused_keeps}
use Rattle.totals_index_spec.specs.Structs.{owners_of, total_epochs_of, totals_of, columns, structs}
use Rattle.totals_index_spec.specs.Calls.{beside, verdict, placing_structs, replacing_structs}
use Rattle.totals_index_spec.specs.Theorems.{columns_after}
use Rattle.totals_index_spec.specs.declared.structs.Total.{Total}
use Rattle.totals_index_spec.proofs.Columns.{length_owners, length_epochs, length_totals}

-- ---- rows over a table are rows over its columns

owners_over : (rs : List Row) (ts : List Total) → length rs ≤ length ts → owners_of (over (structs rs) ts) ≡ over (ids_of rs) (owners_of ts)
unfolding structs owners_of ids_of
owners_over [] ts h = refl
owners_over (r ∷ rs) [] h = absurd (not-suc-le-zero h)
owners_over (r ∷ rs) (t ∷ ts) h = ap (λ (l : List (List ℕ)). r.identifier ∷ l) (owners_over rs ts (le_of_suc-le-suc h))

epochs_over : (rs : List Row) (ts : List Total) → length rs ≤ length ts
    → total_epochs_of (over (structs rs) ts) ≡ over (epochs_of (parts_of rs)) (total_epochs_of ts)
unfolding structs total_epochs_of parts_of epochs_of
epochs_over [] ts h = refl
epochs_over (r ∷ rs) [] h = absurd (not-suc-le-zero h)
epochs_over (r ∷ rs) (t ∷ ts) h = ap (λ (l : List ℕ). r.part.epoch ∷ l) (epochs_over rs ts (le_of_suc-le-suc h))

totals_over : (rs : List Row) (ts : List Total) → length rs ≤ length ts → totals_of (over (structs rs) ts) ≡ over (counts_of (parts_of rs)) (totals_of ts)
unfolding structs totals_of parts_of counts_of
totals_over [] ts h = refl
totals_over (r ∷ rs) [] h = absurd (not-suc-le-zero h)
totals_over (r ∷ rs) (t ∷ ts) h = ap (λ (l : List ℕ). r.part.bytes ∷ l) (totals_over rs ts (le_of_suc-le-suc h))

columns_over : (rs : List Row) (ts : List Total) → length rs ≤ length ts → columns (over (structs rs) ts) ≡ over_rows rs (columns ts)
columns_over rs ts h = three (owners_over rs ts h) (epochs_over rs ts h) (totals_over rs ts h)

-- as many rows have room in the columns as in the table
columns_long : (k : ℕ) (ts : List Total) → room_in k (columns ts) ≡ leb k (length ts)
columns_long k ts = rw (length_owners ts, length_epochs ts, length_totals ts) (thrice (leb k (length ts)))
  where
    thrice : (b : Bool) → (b && (b && b)) ≡ b
    thrice true = refl
    thrice false = refl

-- ---- what is left of the answer and the table

module _ (ts : List Total) (work : Tables) (n : ℕ) where
  -- where there is room in the work area, rows are placed as `totals::replace` places them
  same_placed : (v : Answer (List Row)) → ((rs : List Row) → v ≡ ok rs → (room_in n work && room_in (length rs) work) ≡ true)
      → columns_after (placing_structs n v ts work) ≡ placing_rows v (columns ts)
  unfolding placing_structs placing_rows leaving
  same_placed (refused m) h = refl
  same_placed (ok rs) h = rw (h rs refl, columns_long (length rs) ts, and-true (leb (length rs) (length ts))) (go (leb (length rs) (length ts)) refl)
    where
      go : (b : Bool) → leb (length rs) (length ts) ≡ b
          → columns_after (leaving (beside ts work) (placed b (length rs)
          (beside (over (structs rs) ts) (over_rows rs (over_rows (rows_in n (columns ts)) work)))))
          ≡ leaving (columns ts) (placed b (length rs) (over_rows rs (columns ts)))
      go true e = λ i. after (ok (length rs)) (columns_over rs ts (leb-true (length rs) (length ts) e) i)
      go false e = refl

  module _ (good : Bool) (old new : Option Flags) where
    -- A REFUSAL LEAVES THE TABLE AND THE WORK AREA AS THEY WERE
    pub structs_kept : (k : ℕ) → (replacing_structs n ts work good old new).answer ≡ refused k
        → (replacing_structs n ts work good old new).lent ≡ beside ts work
    unfolding replacing_structs placing_structs
    structs_kept k e = refused_keeps (beside ts work) _ k e

    by_verdict : replacing n (columns ts) good old new ≡ placing_rows (verdict n ts good old new) (columns ts)
    unfolding replacing verdict placing_rows
    by_verdict = go (proper_table n (columns ts) && good)
      where
        go : (b : Bool)
            → leaving (columns ts) (do
              BadTable unless b
              rs ← replaced old new (rows_in n (columns ts))
              placed_rows rs (columns ts))
            ≡ leaving (columns ts) (do
              rs ← do
                BadTable unless b
                replaced old new (rows_in n (columns ts))
              placed_rows rs (columns ts))
        go true = refl
        go false = refl

    -- WHERE THE WORK AREA HAS ROOM FOR THE ROWS BEFORE AND AFTER, THE ANSWER AND THE COLUMNS ARE THOSE OF `totals::replace`
    pub columns_left : ((rs : List Row) → verdict n ts good old new ≡ ok rs → (room_in n work && room_in (length rs) work) ≡ true)
        → columns_after (replacing_structs n ts work good old new) ≡ replacing n (columns ts) good old new
    unfolding replacing_structs
    columns_left h = same_placed (verdict n ts good old new) h ∙ sym by_verdict
