-- Rows written at the start of tables, one run behind another: a run that stands further on is moved there, or one row is put.
-- Assumes nothing.
use mathlib.Core.Path.{◌≡◌, sym, ap, ◌∙◌}
use mathlib.Core.List.{List, [], ◌∷◌, ◌++◌}
use Prim.Native.Nat.{ℕ, ◌+◌, ◌-◌, ◌≤◌}
use native.Mathlib.Omega.{arith}
use lib.ListN.{length, take, drop, length-append, length-drop, take-append-drop}
use lib.Seq.{length-take-le, take-append_seam, drop-append-add, drop-drop, drop_at, sets, sets-eq}
use Rattle.records_spec.specs.Tables.{epochs_of, counts_of, over}
use Rattle.rows_spec.specs.Rows.{Row, ids_of, parts_of, Tables, rows_in, over_rows, set_row, Room}
use Rattle.rows_spec.proofs.Rows.{length_rows}
use Rattle.rows_spec.proofs.Columns.{epochs_in, bytes_in, length_ids, length_epochs, length_bytes, ids_append, epochs_in_append, bytes_in_append, three}
use Rattle.rows_spec.proofs.Columns.{columns, as-long-as, take_behind, part, part_rows}
use Rattle.totals_spec.specs.Inner.Steps.{rows_between, moved_in, moved}

-- ---- a column

module _ {A : Type 0} (xs old : List A) where
  -- behind what was written all is as it was
  over_on : (m : ℕ) → drop (length xs + m) (over xs old) ≡ drop (length xs + m) old
  over_on m = drop-append-add xs (drop (length xs) old) m ∙ drop-drop m (length xs) old

  over_behind : (k : ℕ) → length xs ≤ k → drop k (over xs old) ≡ drop k old
  over_behind k h = let e : length xs + (k - length xs) ≡ k = omega arith in rw e at (over_on (k - length xs))

  -- what is set behind what was written
  sets_over : (ys : List A) → length xs + length ys ≤ length old → sets (over xs old) (length xs) ys ≡ over (xs ++ ys) old
  sets_over ys h =
      sets-eq ys (over xs old) (length xs) (omega (arith, as-long-as xs old (omega arith)))
      ∙ rw (take-append_seam xs (drop (length xs) old), over_on (length ys), length-append xs ys)

  -- a part from a place behind it on
  part_over : (k : ℕ) → length xs ≤ k → length xs ≤ length old → part k (over xs old) ≡ part k old
  part_over k h l = rw (as-long-as xs old l, over_behind k h)

-- what a column of rows gives, row by row
module _ {A : Type 0} (column : List Row → List A) (long : (rs : List Row) → length (column rs) ≡ length rs)
    (parts : (rs ss : List Row) → column (rs ++ ss) ≡ column rs ++ column ss) where
  column_behind : (k : ℕ) (rs : List Row) → k ≤ length rs → drop k (column rs) ≡ column (drop k rs)
  column_behind k rs h =
      ap (drop k) (ap column (sym (take-append-drop k rs)) ∙ parts (take k rs) (drop k rs))
      ∙ drop_at (column (take k rs)) (column (drop k rs)) k (long (take k rs) ∙ length-take-le k rs h)

  put_column : (ws rs : List Row) (old : List A) → length ws + length rs ≤ length old
      → sets (over (column ws) old) (length ws) (column rs) ≡ over (column (ws ++ rs)) old
  put_column ws rs old h =
      rw (parts ws rs, ← long ws) (sets_over (column ws) old (column rs) (omega (arith, long ws, long rs)))

  move_column : (ws rs : List Row) (old : List A) (from upto : ℕ) → column rs ≡ take upto old → length rs ≡ upto → length ws ≤ from → from ≤ upto
      → upto ≤ length old
      → moved_in from upto (length ws) (over (column ws) old) ≡ over (column (ws ++ drop from rs)) old
  move_column ws rs old from upto e n p q l =
      let same : drop from (take upto (over (column ws) old)) ≡ column (drop from rs) =
      sym (take_behind from upto (over (column ws) old) q)
      ∙ ap (take (upto - from)) (over_behind (column ws) old from (omega (arith, long ws)))
      ∙ take_behind from upto old q
      ∙ ap (drop from) (sym e)
      ∙ column_behind from rs (omega arith) in
      ap (sets (over (column ws) old) (length ws)) same ∙ put_column ws (drop from rs) old (omega (arith, length-drop from rs))

-- ---- the three tables

module _ (ws : List Row) (t : Tables) where
  -- a run from a place behind them is moved up to them
  pub run_moved : {upto : ℕ} (from : ℕ) → Room upto t → length ws ≤ from → from ≤ upto
      → moved from upto (length ws) (over_rows ws t) ≡ over_rows (ws ++ rows_between from upto t) t
  run_moved {upto} from r p q =
      let c = columns r in
      let n = length_rows r in
      three
      (move_column ids_of length_ids ids_append ws (rows_in upto t) t.ids from upto c.ids_first n p q r.ids_long)
      (move_column epochs_in length_epochs epochs_in_append ws (rows_in upto t) t.epochs from upto c.epochs_first n p q r.epochs_long)
      (move_column bytes_in length_bytes bytes_in_append ws (rows_in upto t) t.bytes from upto c.bytes_first n p q r.bytes_long)

  -- one row is put behind them
  pub row_put : (x : Row) → Room (length ws + 1) t → set_row (over_rows ws t) (length ws) x ≡ over_rows (ws ++ (x ∷ [])) t
  unfolding ids_of parts_of epochs_of counts_of
  row_put x r =
      three
      (put_column ids_of length_ids ids_append ws (x ∷ []) t.ids r.ids_long)
      (put_column epochs_in length_epochs epochs_in_append ws (x ∷ []) t.epochs r.epochs_long)
      (put_column bytes_in length_bytes bytes_in_append ws (x ∷ []) t.bytes r.bytes_long)

  module _ (r : Room (length ws) t) where
    -- the rows behind are as they were
    pub rows_behind : (from upto : ℕ) → length ws ≤ from → from ≤ upto → rows_between from upto (over_rows ws t) ≡ rows_between from upto t
    rows_behind from upto p q =
        sym (part_rows from upto (over_rows ws t) q)
        ∙ ap (rows_in (upto - from))
        (three
        (part_over (ids_of ws) t.ids from (omega (arith, length_ids ws)) (omega (arith, r.ids_long, length_ids ws)))
        (part_over (epochs_in ws) t.epochs from (omega (arith, length_epochs ws)) (omega (arith, r.epochs_long, length_epochs ws)))
        (part_over (bytes_in ws) t.bytes from (omega (arith, length_bytes ws)) (omega (arith, r.bytes_long, length_bytes ws))))
        ∙ part_rows from upto t q
