-- What the loop that takes counts keeps: the rows before one place are as they end, those from another on as they began.
-- Assumes nothing.
use mathlib.Core.Path.{◌≡◌, refl, sym, ap, ◌∙◌, subst}
use mathlib.Core.Bool.{true}
use mathlib.Core.List.{List, [], ◌∷◌, ◌++◌, append_assoc}
use Prim.Native.Nat.{ℕ, zero, suc, ◌+◌, ◌-◌, ◌≤◌, ◌<◌}
use native.Mathlib.Omega.{arith}
use lib.ListN.{length, take, drop, get_or, length-append, length-drop}
use lib.Seq.{length-take-le, take_all, take-take, drop-drop}
use borrow.Author.Tests.{lt-ltb}
use Rattle.records_spec.specs.Inner.Tables.{Table}
use Rattle.rows_spec.specs.Rows.{Row, row, ascends, Tables, rows_in, over_rows, set_row, Room}
use Rattle.rows_spec.proofs.Rows.{length_rows, room_less, asc_drop}
use Rattle.rows_spec.proofs.Columns.{over_room, over_nothing, take_behind}
use Rattle.totals_spec.specs.Table.{all_positive, total_at, row_if, with_total, take_counts}
use Rattle.totals_spec.specs.Replacing.{covered}
use Rattle.totals_spec.specs.Inner.Steps.{under, place_in, rows_between, spot_in, moved, Standing}
use Rattle.totals_spec.specs.declared.finding.RowSpot.{RowSpot}
use Rattle.totals_spec.proofs.Totals.{above_tail}
use Rattle.totals_spec.proofs.Counts.{covered_tail}
use Rattle.totals_spec.proofs.UnderOwner.{under_on, under_end, under_ascends}
use Rattle.totals_spec.proofs.TakenRows.{take_nothing, TakenAt, taken_at}
use Rattle.totals_spec.proofs.Runs.{run_moved, row_put, rows_behind}

above_drop : (l : List Row) (i : ℕ) → all_positive l ≡ true → all_positive (drop i l) ≡ true
above_drop l zero h = h
above_drop [] (suc i) h = h
above_drop (a ∷ l) (suc i) h = above_drop l i (above_tail a l h)

-- the first `to` places hold rows as they end; the counts from i on are still to be taken from the rows from `at` on
pub record Taking (n : ℕ) (t₀ : Tables) (owner es cs : List ℕ) (t : Tables) (at to i : ℕ) : Type 0 where
  pub written : List Row
  pub reached : length written ≡ to
  pub behind : to ≤ at
  pub within : at ≤ n
  pub stands : t ≡ over_rows written t₀
  pub left : take_counts (under owner es cs) (rows_in n t₀) ≡ written ++ take_counts (drop i (under owner es cs)) (rows_between at n t₀)
  pub covers : covered (drop i (under owner es cs)) (rows_between at n t₀) ≡ true

pub taking_start : (n : ℕ) (t₀ : Tables) (owner es cs : List ℕ) → covered (under owner es cs) (rows_in n t₀) ≡ true → Taking n t₀ owner es cs t₀ 0 0 0
taking_start n t₀ owner es cs c =
    record { written = []; reached = refl; behind = omega arith; within = omega arith; stands = sym (over_nothing t₀); left = refl; covers = c }

module _ {n at to i : ℕ} {t₀ t : Tables} {owner es cs : List ℕ} (s : Standing 0 n t₀) (u : Table es cs) (g : Taking n t₀ owner es cs t at to i) where
  abbrev os : List Row
  os = under owner es cs

  old_room : Room (length g.written) t₀
  old_room = room_less (length g.written) (omega (arith, g.reached, g.behind, g.within)) s.room

  -- the rows from `at` on, which are as they were
  abbrev rest : List Row
  rest = rows_between at n t₀

  same_rest : rows_between at n t ≡ rest
  same_rest = ap (rows_between at n) g.stands ∙ rows_behind g.written t₀ old_room at n (omega (arith, g.reached, g.behind)) g.within

  rest_long : length rest ≡ n - at
  rest_long = length-drop at (rows_in n t₀) ∙ rw (length_rows s.room)

  rest_ascends : ascends rest ≡ true
  rest_ascends = asc_drop (rows_in n t₀) at s.rises

  rest_above : all_positive rest ≡ true
  rest_above = above_drop (rows_in n t₀) at s.full

  pub taking_room : Room n t
  taking_room = subst (Room n) (sym g.stands) (over_room g.written t₀ s.room)

  -- a row can be looked up from `at` on
  pub taking_standing : Standing at n t
  taking_standing =
      record { within = g.within; room = taking_room; rises = ap ascends same_rest ∙ rest_ascends; full = ap all_positive same_rest ∙ rest_above }

  -- a run from `at` on is moved
  run : {t' : Tables} (upto : ℕ) → at ≤ upto → upto ≤ n → t' ≡ moved at upto to t → t' ≡ over_rows (g.written ++ take (upto - at) rest) t₀
  run upto p q e =
      let first : rows_between at upto t₀ ≡ take (upto - at) rest = ap (drop at) (sym (take-take upto n _ q))
      ∙ sym (take_behind at upto (rows_in n t₀) p) in
      e ∙ rw (g.stands, ← g.reached, ← first) (run_moved g.written t₀ at (room_less upto q s.room) (omega (arith, g.reached, g.behind)) p)

  -- no count is left, and all rows behind are moved
  module _ (h : length es ≤ i) where
    all_left : take_counts os (rows_in n t₀) ≡ g.written ++ rest
    unfolding take_counts
    all_left = g.left ∙ ap (λ (l : List Row). g.written ++ take_counts l rest) (under_end owner u i h)

    pub taking_count : to + (n - at) ≡ length (take_counts os (rows_in n t₀))
    taking_count = omega (arith, g.reached, rest_long, ap (length {A = Row}) all_left, length-append g.written rest)

    pub taking_done : {t' : Tables} → t' ≡ moved at n to t → t' ≡ over_rows (take_counts os (rows_in n t₀)) t₀
    taking_done m =
        let l : take (n - at) rest ≡ rest = take_all (n - at) rest (omega (arith, rest_long)) in
        run n g.within (omega arith) m ∙ rw (l, all_left)

  module _ (h : i < length es) where
    -- the count that is next, and its pair
    abbrev pair : Row
    pair = row owner (get_or es i 0) 0

    abbrev count : ℕ
    count = get_or cs i 0

    on : drop i os ≡ with_total pair count ∷ drop (i + 1) os
    on = under_on owner u i h

    counts_ascend : ascends (with_total pair count ∷ drop (i + 1) os) ≡ true
    counts_ascend = rw on at (asc_drop os i (under_ascends owner u))

    -- a count of 0
    pub taking_skip : count ≤ 0 → Taking n t₀ owner es cs t at to (i + 1)
    taking_skip z =
        record {
          written = g.written;
          reached = g.reached;
          behind = g.behind;
          within = g.within;
          stands = g.stands;
          left = g.left
              ∙ ap (λ (l : List Row). g.written ++ l)
              (ap (λ (l : List Row). take_counts l rest) on ∙ take_nothing pair count (drop (i + 1) os) rest (omega arith) rest_ascends rest_above);
          covers = covered_tail rest (with_total pair count) (drop (i + 1) os) (rw on at g.covers);
        }

    -- another count, and the spot where its row stands
    module _ {r : RowSpot} (some : 0 < count) (f : r ≡ spot_in at pair (rows_between at n t)) where
      here : TakenAt pair count (drop (i + 1) os) rest
      here = taken_at pair count (drop (i + 1) os) some counts_ascend rest rest_ascends (rw on at g.covers)

      place_is : r.place ≡ at + place_in pair rest
      place_is = ap (λ (x : RowSpot). x.place) f ∙ ap (λ (l : List Row). at + place_in pair l) same_rest

      total_is : r.total ≡ total_at pair rest
      total_is = ap (λ (x : RowSpot). x.total) f ∙ ap (total_at pair) same_rest

      pub taking_found : (at ≤ r.place) × (r.place < n) × (count ≤ r.total)
      taking_found = (omega (arith, place_is), omega (arith, place_is, here.found, rest_long), omega (arith, total_is, here.enough))

      -- the rows behind it
      rows_left_lem : drop (suc (place_in pair rest)) rest ≡ rows_between (r.place + 1) n t₀
      rows_left_lem =
          let p : at + suc (place_in pair rest) ≡ r.place + 1 = omega (arith, place_is) in
          drop-drop (suc (place_in pair rest)) at (rows_in n t₀) ∙ rw p

      next_covers : covered (drop (i + 1) os) (rows_between (r.place + 1) n t₀) ≡ true
      next_covers = ap (covered (drop (i + 1) os)) (sym rows_left_lem) ∙ here.covers

      -- the rows written once those before it are moved
      abbrev front : List Row
      front = g.written ++ take (r.place - at) rest

      front_long : length front ≡ to + (r.place - at)
      front_long =
          let p = taking_found in
          omega (
            arith,
            length-append g.written (take (r.place - at) rest),
            g.reached,
            length-take-le (r.place - at) rest (omega (arith, rest_long)),
          )

      next_left : take_counts os (rows_in n t₀) ≡ front ++ row_if (with_total pair (r.total - count))
          (take_counts (drop (i + 1) os) (rows_between (r.place + 1) n t₀))
      next_left =
          let p : place_in pair rest ≡ r.place - at = omega (arith, place_is) in
          let more = row_if (with_total pair (r.total - count)) (take_counts (drop (i + 1) os) (rows_between (r.place + 1) n t₀)) in
          let step : take_counts (with_total pair count ∷ drop (i + 1) os) rest ≡ take (r.place - at) rest ++ more =
          here.taken ∙ rw (rows_left_lem, p, total_is) in
          g.left ∙ ap (λ (l : List Row). g.written ++ l) (ap (λ (l : List Row). take_counts l rest) on ∙ step)
          ∙ sym (append_assoc g.written (take (r.place - at) rest) more)

      module _ {t' : Tables} (m : t' ≡ moved at r.place to t) where
        moved_run : t' ≡ over_rows front t₀
        moved_run = let p = taking_found in run r.place p.0 (omega arith) m

        -- nothing is left of its total
        pub taking_gone : r.total ≤ count → Taking n t₀ owner es cs t' (r.place + 1) (to + (r.place - at)) (i + 1)
        taking_gone z =
            let p = taking_found in
            let d : r.total - count ≡ 0 = omega arith in
            record {
              written = front;
              reached = front_long;
              behind = omega (arith, g.behind);
              within = omega arith;
              stands = moved_run;
              left = next_left ∙ rw d;
              covers = next_covers;
            }

        -- there is room for what is left of it
        pub taking_space : Room (to + (r.place - at) + 1) t'
        taking_space =
            let p = taking_found in
            subst (Room (to + (r.place - at) + 1)) (sym moved_run)
            (over_room front t₀ (room_less (to + (r.place - at) + 1) (omega (arith, g.behind)) s.room))

        -- and it is put
        pub taking_put : {t'' : Tables} → count < r.total → t'' ≡ set_row t' (to + (r.place - at)) (with_total pair (r.total - count))
            → Taking n t₀ owner es cs t'' (r.place + 1) (to + (r.place - at) + 1) (i + 1)
        taking_put z q =
            let p = taking_found in
            let x = with_total pair (r.total - count) in
            record {
              written = front ++ (x ∷ []);
              reached = length-append front (x ∷ []) ∙ rw front_long;
              behind = omega (arith, g.behind);
              within = omega arith;
              stands = q ∙ rw (moved_run, ← front_long) (row_put front t₀ x
                  (room_less (length front + 1) (omega (arith, front_long, g.behind)) s.room));
              left = next_left ∙ rw (lt-ltb 0 (r.total - count) (omega arith)) (sym (append_assoc front (x ∷ []) _));
              covers = next_covers;
            }
