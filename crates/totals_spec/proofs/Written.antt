-- A change that was judged, as it is written: the old counts taken, then the new ones added, is what the call leaves.
-- Assumes nothing.
use mathlib.Core.Path.{◌≡◌, refl, sym, ap, ◌∙◌}
use mathlib.Core.Bool.{Bool, true, false, cond}
use mathlib.Core.List.{List, [], ◌∷◌}
use Prim.Native.Nat.{ℕ, ◌+◌, ◌-◌, ◌≤◌}
use native.Mathlib.Omega.{arith}
use lib.ListN.{length}
use borrow.Author.Tests.{le-leb}
use Rattle.records_spec.proofs.Answers.{refused_not_ok}
use Rattle.rows_spec.specs.Rows.{Row, ascends, Tables, rows_in, room_in, over_rows, Room}
use Rattle.rows_spec.proofs.Rows.{room_in_lem}
use Rattle.rows_spec.proofs.Columns.{over_room, over_rows_lem, rows_back, over_over}
use Rattle.records_spec.specs.Outcomes.{refused, Answer, ok, refusing, kept, leaving, after}
use Rattle.records_spec.specs.Refusals.{number}
use Rattle.totals_spec.specs.Inner.Steps.{placing_rows, Standing, counted_rows}
use Rattle.records_spec.specs.declared.refusal.Refusal.TheVariants.{NoRoom, Overflow, IndexMismatch}
use Rattle.totals_spec.specs.Table.{total_at, add_counts, take_counts}
use Rattle.totals_spec.specs.Replacing.{largest_total, covered, all_fit, replaced_rows, changed}
use Rattle.totals_spec.proofs.Totals.{total_none}
use Rattle.totals_spec.proofs.Counts.{count_total, take_ascends, take_above, total_taken}
use Rattle.totals_spec.proofs.Fitting.{fits_first, fits_tail}
use Rattle.totals_spec.proofs.Lengths.{length_made}

-- ---- what was judged

-- the change is accepted, and has n rows
pub record Counted (os ns t : List Row) (n : ℕ) : Type 0 where
  pub covers : covered os t ≡ true
  pub room : all_fit os ns t ≡ true
  pub rows : n ≡ length (replaced_rows os ns t)

number_same : (m n : ℕ) → ◌≡◌ {A = Answer ℕ} (ok m) (ok n) → m ≡ n
number_same m n e = cc

pub counted : (os ns t : List Row) (n : ℕ) → ok n ≡ counted_rows (changed os ns t) → Counted os ns t n
counted os ns t n h = go (covered os t) refl (all_fit os ns t) refl h
  where
    go : (c : Bool) → covered os t ≡ c → (f : Bool) → all_fit os ns t ≡ f
        → ok n ≡ counted_rows (cond c (cond f (ok (replaced_rows os ns t)) (refused (number Overflow))) (refused (number IndexMismatch)))
        → Counted os ns t n
    go true c true f e = record { covers = c; room = f; rows = number_same n (length (replaced_rows os ns t)) e }
    go true c false f e = absurd (refused_not_ok (number Overflow) n (sym e))
    go false c f g e = absurd (refused_not_ok (number IndexMismatch) n (sym e))

-- ---- where the old counts are taken

module _ (os t : List Row) (p : ascends os ≡ true) (s : ascends t ≡ true) where
  left_total : (k : Row) → total_at k (take_counts os t) ≡ total_at k t - total_at k os
  left_total k = omega (arith, total_taken k t s os, count_total k os p)

  -- the new ones fit what is left
  fits_left : (ns : List Row) → all_fit os ns t ≡ true → all_fit [] ns (take_counts os t) ≡ true
  unfolding all_fit
  fits_left [] h = refl
  fits_left (n ∷ ns) h =
      let l : total_at n (take_counts os t) - total_at n [] + n.part.bytes ≤ largest_total =
      omega (arith, left_total n, total_none n, fits_first os t n ns h) in
      rw (le-leb (total_at n (take_counts os t) - total_at n [] + n.part.bytes) largest_total l) (fits_left ns (fits_tail os t n ns h))

-- ---- in the tables

module _ {n : ℕ} {t₀ t₁ : Tables} (os ns : List Row) (st : Standing 0 n t₀) (p : ascends os ≡ true) (q : ascends ns ≡ true)
    {count left : ℕ} (c : Counted os ns (rows_in n t₀) count) (fit : room_in count t₀ ≡ true)
    (e : t₁ ≡ over_rows (take_counts os (rows_in n t₀)) t₀) (l : left ≡ length (take_counts os (rows_in n t₀))) where
  pub left_rows : rows_in left t₁ ≡ take_counts os (rows_in n t₀)
  left_rows = rw (l, e) (rows_back (take_counts os (rows_in n t₀)) t₀)

  pub left_standing : Standing 0 left t₁
  left_standing =
      record {
        within = omega arith;
        room = rw (l, e) (over_rows_lem (take_counts os (rows_in n t₀)) t₀);
        rises = rw left_rows (take_ascends (rows_in n t₀) os st.rises);
        full = rw left_rows (take_above (rows_in n t₀) os st.full);
      }

  pub left_fits : all_fit [] ns (rows_in left t₁) ≡ true
  left_fits = rw left_rows (fits_left os (rows_in n t₀) p st.rises ns c.room)

  pub left_count : count ≡ length (add_counts ns (rows_in left t₁))
  left_count = rw left_rows c.rows

  pub left_room : Room count t₁
  left_room = rw e (over_room (take_counts os (rows_in n t₀)) t₀ (room_in_lem count t₀ fit))

  more : length (take_counts os (rows_in n t₀)) ≤ length (replaced_rows os ns (rows_in n t₀))
  more =
      let k = take_counts os (rows_in n t₀) in
      omega (
        arith,
        length_made (rows_in n t₀) st.rises st.full os k (take_ascends (rows_in n t₀) os st.rises)
            (take_above (rows_in n t₀) os st.full) (left_total os (rows_in n t₀) p st.rises) ns q,
      )

  -- all is written
  pub all_written : {t₂ : Tables} → t₂ ≡ over_rows (add_counts ns (rows_in left t₁)) t₁
      → after (ok count) t₂ ≡ placing_rows (changed os ns (rows_in n t₀)) t₀
  unfolding placing_rows leaving
  all_written {t₂} f =
      let r = replaced_rows os ns (rows_in n t₀) in
      let w : t₂ ≡ over_rows r t₀ = f ∙ rw (left_rows, e) (over_over (take_counts os (rows_in n t₀)) r t₀ more) in
      let m : room_in (length r) t₀ ≡ true = rw (← c.rows) fit in
      rw (c.covers, c.room, m, w, c.rows)

-- there is no room
pub not_written : (os ns : List Row) (n : ℕ) {count : ℕ} (t : Tables) → Counted os ns (rows_in n t) count → room_in count t ≡ false
    → refusing NoRoom t ≡ placing_rows (changed os ns (rows_in n t)) t
unfolding placing_rows leaving
not_written os ns n t c f =
    let m : room_in (length (replaced_rows os ns (rows_in n t))) t ≡ false = rw (← c.rows) f in
    rw (c.covers, c.room, m)

-- a change that is refused
pub refused_change : (k : ℕ) (x : Answer (List Row)) (t : Tables) → refused k ≡ counted_rows x → kept k t ≡ placing_rows x t
unfolding placing_rows leaving
refused_change k (ok rs) t h = absurd (refused_not_ok k (length rs) h)
refused_change k (refused m) t h = ap (λ (n : ℕ). kept n t) cc
