-- One row more, as the code works it out: what it finds of the row's counts makes the next state.
-- Assumes nothing.
use mathlib.Core.Path.{◌≡◌, sym, ◌∙◌}
use mathlib.Core.Bool.{Bool, true, cond, ◌&&◌, and_assoc}
use mathlib.Core.List.{List}
use Prim.Native.Nat.{ℕ, ◌+◌, ◌-◌, ◌≤◌}
use native.Mathlib.Decide.{dec_le}
use native.Mathlib.Omega.{arith}
use lib.Dec.{leb, ltb, eqb}
use borrow.Author.Tests.{le-leb, lt-leb}
use Rattle.rows_spec.specs.Order.{is_less}
use Rattle.rows_spec.specs.Rows.{Row, row, compared}
use Rattle.rows_spec.proofs.Comparing.{self_same}
use Rattle.totals_spec.specs.Table.{total_at}
use Rattle.totals_spec.specs.Replacing.{largest_total}
use Rattle.totals_spec.proofs.Totals.{total_same}
use Rattle.totals_index_spec.specs.Inner.Judging.{one, row_of, judged_next}
use Rattle.totals_index_spec.specs.declared.judging.Judging.{Judging}
use Rattle.totals_index_spec.specs.declared.structs.Total.{Total}

-- a total and a count fit together where the count fits what is left above the total
fits_left : (l n m : ℕ) → l ≤ m → leb n (m - l) ≡ leb (l + n) m
fits_left l n m h =
    elim (dec_le (l + n) m) [
      | yes p ↦ le-leb n (m - l) (omega arith) ∙ sym (le-leb (l + n) m p)
      | no p ↦ lt-leb n (m - l) (omega arith) ∙ sym (lt-leb (l + n) m (omega arith))
    ]

-- what the code found of a row: its counts, what the old one leaves, whether it stands behind the last row, and what is owed, left and made with it
pub record Found (os ns : List Row) (j : Judging) (t : Total) (o n l : ℕ) (behind : Bool) (owed left made : ℕ) : Type 0 where
  pub old_found : o ≡ total_at (row t.owner t.epoch 0) os
  pub new_found : n ≡ total_at (row t.owner t.epoch 0) ns
  pub left_found : l ≡ t.total - o
  pub small : l ≤ largest_total
  pub behind_found : behind ≡ cond j.any (is_less (compared (row j.owner j.epoch 0) (row t.owner t.epoch 0))) true
  pub owed_found : owed ≡ j.owed - one (ltb 0 o && leb o t.total)
  pub left_rows : left ≡ j.left - one (ltb 0 o && eqb t.total o)
  pub made_rows : made ≡ j.made - one (ltb 0 n && ltb 0 l)

module _ {os ns : List Row} {j : Judging} {t : Total} {o n l : ℕ} {behind : Bool} {owed left made : ℕ}
    (f : Found os ns j t o n l behind owed left made) where
  abbrev found : Judging
  found =
      record {
        rows = j.rows;
        upto = j.upto;
        old = j.old;
        new = j.new;
        good = (j.good && behind) && ltb 0 t.total;
        any = true;
        owner = t.owner;
        epoch = t.epoch;
        owed = owed;
        fits = j.fits && leb n (largest_total - l);
        left = left;
        made = made;
      }

  old_is : o ≡ total_at (row_of t) os
  old_is = f.old_found ∙ total_same (row t.owner t.epoch 0) (row_of t) os (self_same (row_of t))

  new_is : n ≡ total_at (row_of t) ns
  new_is = f.new_found ∙ total_same (row t.owner t.epoch 0) (row_of t) ns (self_same (row_of t))

  pub found_next : found ≡ judged_next os ns j (row_of t)
  found_next =
      rw (f.owed_found, f.left_rows, f.made_rows, fits_left l n largest_total f.small, f.left_found, f.behind_found, old_is, new_is, and_assoc)
