-- The judging of a table row by row, as the loop does it: after each turn it is `judged` of the rows before. By induction on the turns.
-- Assumes nothing.
use mathlib.Core.Path.{◌≡◌, refl, sym, ap, ◌∙◌}
use mathlib.Core.List.{List, [], ◌∷◌}
use Prim.Native.Nat.{ℕ, zero, suc, ◌≤◌, ◌<◌}
use native.Mathlib.Nat.{le_of_suc-le-suc, not-suc-le-zero, le_of_lt}
use lib.ListN.{length, get_or}
use Rattle.records_spec.specs.Tables.{records_of}
use Rattle.rows_spec.specs.Rows.{Row, rows_of, rows_in}
use Rattle.totals_spec.specs.declared.replacing.Named.{Named}
use Rattle.totals_index_spec.specs.Structs.{owners_of, total_epochs_of, totals_of, columns}
use Rattle.totals_index_spec.specs.Inner.Judging.{row_of, rows_named, judged_next, judged_all, Asked}
use Rattle.totals_index_spec.specs.declared.judging.Judging.{Judging}
use Rattle.totals_index_spec.specs.declared.structs.Total.{Total}
use Rattle.totals_index_spec.proofs.Columns.{no_total}

-- one row more
judged_take : (os ns : List Row) (j : Judging) (ts : List Total) (i : ℕ) → i < length ts
    → judged_all os ns j (rows_in (suc i) (columns ts)) ≡ judged_next os ns (judged_all os ns j (rows_in i (columns ts))) (row_of (get_or ts i no_total))
unfolding judged_all rows_of records_of owners_of total_epochs_of totals_of
judged_take os ns j [] i h = absurd (not-suc-le-zero h)
judged_take os ns j (t ∷ ts) zero h = refl
judged_take os ns j (t ∷ ts) (suc i) h = judged_take os ns (judged_next os ns j (row_of t)) ts i (le_of_suc-le-suc h)

judged_none : (os ns : List Row) (j : Judging) (ts : List Total) → j ≡ judged_all os ns j (rows_in 0 (columns ts))
unfolding judged_all
judged_none os ns j ts = refl

module _ (oes ocs nes ncs : List ℕ) (j : Judging) (ts : List Total) where
  -- what is known after i turns
  abbrev pub seen_at : ℕ → Judging
  seen_at zero = j
  seen_at (suc i) =
      judged_next (rows_named (seen_at i).old oes ocs) (rows_named (seen_at i).new nes ncs) (seen_at i) (row_of (get_or ts i no_total))

  -- what is asked for stays
  seen_old : (i : ℕ) → (seen_at i).old ≡ j.old
  seen_old zero = refl
  seen_old (suc i) = seen_old i

  seen_new : (i : ℕ) → (seen_at i).new ≡ j.new
  seen_new zero = refl
  seen_new (suc i) = seen_new i

  pub seen_asked : (i : ℕ) → Asked j oes ocs nes ncs → Asked (seen_at i) oes ocs nes ncs
  seen_asked zero a = a
  seen_asked (suc i) a = let b = seen_asked i a in record { olds = b.olds; news = b.news }

  pub seen_judged : (n : ℕ) → n ≤ length ts → seen_at n ≡ judged_all (rows_named j.old oes ocs) (rows_named j.new nes ncs) j (rows_in n (columns ts))
  seen_judged zero h = judged_none _ _ j ts
  seen_judged (suc i) h =
      ap (λ (r : Named). judged_next (rows_named r oes ocs) (rows_named (seen_at i).new nes ncs) (seen_at i) (row_of (get_or ts i no_total))) (seen_old i)
      ∙ ap (λ (r : Named). judged_next (rows_named j.old oes ocs) (rows_named r nes ncs) (seen_at i) (row_of (get_or ts i no_total))) (seen_new i)
      ∙ ap (λ (s : Judging). judged_next (rows_named j.old oes ocs) (rows_named j.new nes ncs) s (row_of (get_or ts i no_total)))
      (seen_judged i (le_of_lt h))
      ∙ sym (judged_take _ _ j ts i h)
