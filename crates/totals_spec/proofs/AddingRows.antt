-- What the loop that adds counts from the back keeps: the rows behind the last count added stand as they end, and before them the tables are as they
-- began.
-- Assumes nothing.
use mathlib.Core.Path.{◌≡◌, refl, sym, ap, ◌∙◌, subst}
use mathlib.Core.Bool.{true, cond}
use mathlib.Core.List.{List, [], ◌∷◌, ◌++◌}
use Prim.Native.Nat.{ℕ, ◌+◌, ◌-◌, ◌≤◌, ◌<◌, zero-le}
use native.Mathlib.Omega.{arith}
use lib.Dec.{ltb}
use lib.ListN.{length, take, drop, get_or, take-append-drop, length-drop}
use lib.Seq.{length-take-le, take-length, take-take, drop_at, sets}
use Rattle.records_spec.specs.Inner.Tables.{Table}
use Rattle.rows_spec.specs.Rows.{Row, row, ascends, ids_of, Tables, rows_in, over_rows, set_row, Room}
use Rattle.rows_spec.proofs.Comparing.{self_same}
use Rattle.rows_spec.proofs.Rows.{length_rows, room_less, proper_first}
use Rattle.rows_spec.proofs.Columns.{epochs_in, bytes_in, length_ids, length_epochs, length_bytes, ids_append, epochs_in_append, bytes_in_append, three}
use Rattle.rows_spec.proofs.Columns.{columns}
use Rattle.rows_spec.proofs.Backing.{Backing, set_rows, backing_start, backing_fits, backing_first, backing_run, backing_room, backing_step}
use Rattle.rows_spec.proofs.Backing.{backing_stays}
use Rattle.totals_spec.specs.Table.{all_positive, total_at, add_counts}
use Rattle.totals_spec.specs.Replacing.{largest_total, all_fit}
use Rattle.totals_spec.specs.Inner.Steps.{under, place_in, rows_between, spot_in, Standing, moved}
use Rattle.totals_spec.specs.declared.finding.RowSpot.{RowSpot}
use Rattle.totals_spec.proofs.Totals.{total_same}
use Rattle.totals_spec.proofs.Places.{place_within}
use Rattle.totals_spec.proofs.UnderOwner.{under_long, under_on, under_last, under_ascends}
use Rattle.totals_spec.proofs.AddingCounts.{behind_in, behind_within, count_nothing, more_counts, add_none, add_last, adds_split, total_first}
use Rattle.totals_spec.proofs.AddingCounts.{first_above, fits_one}

-- ---- the tables

-- the first of standing rows stand
standing_first : {n : ℕ} {t : Tables} (m : ℕ) → m ≤ n → Standing 0 n t → Standing 0 m t
standing_first {n} {t} m h s =
    let p = proper_first m h (record { room = s.room; rises = s.rises }) in
    record {
      within = zero-le;
      room = p.room;
      rises = p.rises;
      full = ap all_positive (sym (take-take m n _ h))
          ∙ first_above (rows_in n t) m s.full;
    }

-- a column of rows from a place on
column_drop : {A : Type 0} {l : List A} (column : List Row → List A) → ((rs ss : List Row) → column (rs ++ ss) ≡ column rs ++ column ss)
    → ((rs : List Row) → length (column rs) ≡ length rs)
    → (from : ℕ) (rs : List Row) → from ≤ length rs → column rs ≡ l → drop from l ≡ column (drop from rs)
column_drop column append long from rs h e =
    ap (drop from) (sym e ∙ ap column (sym (take-append-drop from rs)) ∙ append (take from rs) (drop from rs))
    ∙ drop_at (column (take from rs)) (column (drop from rs)) from (long (take from rs) ∙ length-take-le from rs h)

-- rows that are moved are set where they come to stand
moved_rows : {upto : ℕ} {t : Tables} → Room upto t → (from to : ℕ) → from ≤ upto → moved from upto to t ≡ set_rows t to (drop from (rows_in upto t))
moved_rows {upto} {t} r from to h =
    let c = columns r in
    let l : from ≤ length (rows_in upto t) = omega (arith, length_rows r) in
    three
    (ap (λ (vs : List (List ℕ)). sets t.ids to vs) (column_drop ids_of ids_append length_ids from (rows_in upto t) l c.ids_first))
    (ap (λ (vs : List ℕ). sets t.epochs to vs) (column_drop epochs_in epochs_in_append length_epochs from (rows_in upto t) l c.epochs_first))
    (ap (λ (vs : List ℕ). sets t.bytes to vs) (column_drop bytes_in bytes_in_append length_bytes from (rows_in upto t) l c.bytes_first))

-- ---- the loop

-- the owner and epoch of the last of the first i counts, with a total
abbrev last_of : List ℕ → List ℕ → ℕ → ℕ → Row
last_of o es i n = row o (get_or es (i - 1) 0) n

-- the first i counts added to the first `upto` rows
abbrev added : List ℕ → List ℕ → List ℕ → ℕ → ℕ → Tables → List Row
added o es cs i upto t = add_counts (take i (under o es cs)) (rows_in upto t)

-- the first i counts are still to be added to the first `upto` rows, and end before the place `end`; from there on the tables are as they end
pub record Adding (o es cs : List ℕ) (t₀ t : Tables) (n upto end i : ℕ) : Type 0 where
  pub rows_left_lem : upto ≤ n
  pub counts_left : i ≤ length es
  pub back : Backing (add_counts (under o es cs) (rows_in n t₀)) (added o es cs i upto t₀) end t₀ t

module _ {es cs : List ℕ} (tb : Table es cs) (o : List ℕ) where
  pub adding_start : (t : Tables) (n count : ℕ) → count ≡ length (add_counts (under o es cs) (rows_in n t)) → Room count t
      → Adding o es cs t t n n count (length es)
  adding_start t n count e r =
      let ns = under o es cs in
      let all = add_counts ns (rows_in n t) in
      let w : take (length es) ns ≡ ns = rw (← under_long o tb) (take-length ns) in
      record {
        rows_left_lem = omega arith;
        counts_left = omega arith;
        back = rw (w, e) (backing_start all t (subst (λ (k : ℕ). Room k t) e r));
      }

  module _ {t₀ t : Tables} {n upto end i : ℕ} (s : Standing 0 n t₀) (w : Adding o es cs t₀ t n upto end i) where
    left_stands : Standing 0 upto t₀
    left_stands = standing_first upto w.rows_left_lem s

    -- no row that is left is overwritten
    left_within : upto ≤ end
    left_within =
        let p = left_stands in
        omega (arith, length_rows p.room, more_counts (take i (under o es cs)) (rows_in upto t₀) p.rises p.full, w.back.reached)

    pub adding_stands : Standing 0 upto t
    adding_stands =
        let p = left_stands in
        let e = backing_first w.back upto left_within in
        record {
          within = zero-le;
          room = room_less upto left_within (backing_fits w.back);
          rises = ap ascends e
              ∙ p.rises;
          full = ap all_positive e ∙ p.full;
        }

    -- no count is left
    pub adding_done : i ≤ 0 → t ≡ over_rows (add_counts (under o es cs) (rows_in n t₀)) t₀
    adding_done h =
        let z : i ≡ 0 = omega arith in
        let l : added o es cs i upto t₀ ≡ rows_in upto t₀ = rw z (add_none (rows_in upto t₀)) in
        let k : upto ≡ end = sym (w.back.reached ∙ ap (length {A = Row}) l ∙ length_rows left_stands.room) in
        backing_stays w.back (l ∙ ap (λ (x : ℕ). rows_in x t₀) k)

    module _ (h : 0 < i) where
      -- the first i counts: the last of them comes behind the others
      last_left : added o es cs i upto t₀ ≡ add_counts (take (i - 1) (under o es cs) ++ (last_of o es i (get_or cs (i - 1) 0) ∷ [])) (rows_in upto t₀)
      last_left = ap (λ (ns : List Row). add_counts ns (rows_in upto t₀)) (under_last o tb i h w.counts_left)

      -- a count of 0 is passed over
      pub adding_pass : get_or cs (i - 1) 0 ≤ 0 → Adding o es cs t₀ t n upto end (i - 1)
      adding_pass z =
          let p = left_stands in
          let ns = take (i - 1) (under o es cs) in
          let r = last_of o es i (get_or cs (i - 1) 0) in
          let e : added o es cs i upto t₀ ≡ add_counts ns (rows_in upto t₀) =
          last_left ∙ add_last r (rows_in upto t₀) ns ∙ ap (add_counts ns) (count_nothing r (rows_in upto t₀) p.rises p.full z) in
          record { rows_left_lem = w.rows_left_lem; counts_left = omega (arith, w.counts_left); back = rw e at w.back }

      -- all counts: those before this one, this one, and those behind it
      counts_are : under o es cs ≡ take (i - 1) (under o es cs) ++ (last_of o es i (get_or cs (i - 1) 0) ∷ drop (i - 1 + 1) (under o es cs))
      counts_are =
          sym (take-append-drop (i - 1) (under o es cs))
          ∙ ap (λ (l : List Row). take (i - 1) (under o es cs) ++ l) (under_on o tb (i - 1) (omega (arith, w.counts_left)))

      module _ {q : RowSpot} (found : q ≡ spot_in 0 (last_of o es i 0) (rows_between 0 upto t)) where
        place_is : q.place ≡ place_in (last_of o es i 0) (rows_in upto t₀)
        place_is =
            let z : 0 + place_in (last_of o es i 0) (rows_in upto t) ≡ place_in (last_of o es i 0) (rows_in upto t) = omega arith in
            ap (λ (p : RowSpot). p.place) found ∙ z ∙ ap (place_in (last_of o es i 0)) (backing_first w.back upto left_within)

        total_is : q.total ≡ total_at (last_of o es i 0) (rows_in upto t₀)
        total_is = ap (λ (p : RowSpot). p.total) found ∙ ap (total_at (last_of o es i 0)) (backing_first w.back upto left_within)

        pub place_left : q.place ≤ upto
        place_left = omega (arith, place_is, place_within (last_of o es i 0) (rows_in upto t₀), length_rows left_stands.room)

        -- the total with the count fits in 64 bits
        pub adding_fits : all_fit [] (under o es cs) (rows_in n t₀) ≡ true → q.total + get_or cs (i - 1) 0 ≤ largest_total
        adding_fits f =
            let r = last_of o es i (get_or cs (i - 1) 0) in
            let l = fits_one r (rows_in n t₀) (drop (i - 1 + 1) (under o es cs)) (take (i - 1) (under o es cs)) (rw (← counts_are) f) in
            let m = total_first r (rows_in n t₀) upto in
            let e : total_at r (take upto (rows_in n t₀)) ≡ q.total =
            ap (total_at r) (take-take upto n _ w.rows_left_lem) ∙ total_same r (last_of o es i 0) (rows_in upto t₀) (self_same r) ∙ sym total_is in
            omega arith

        module _ {b : ℕ} (e : b ≡ q.place + cond (ltb 0 q.total) 1 0) where
          behind_is : b ≡ behind_in (last_of o es i 0) (rows_in upto t₀)
          behind_is = e ∙ rw (place_is, total_is)

          -- the rows behind this count's place are moved up
          pub adding_move : (b ≤ upto) × (upto ≤ end) × Room end t
          adding_move = (
            omega (arith, behind_is, behind_within (last_of o es i 0) (rows_in upto t₀), length_rows left_stands.room),
            left_within,
            backing_fits w.back,
          )

          -- what is left, this count's row, and the rows behind it
          parts_left : 0 < get_or cs (i - 1) 0 → added o es cs i upto t₀
              ≡ (added o es cs (i - 1) q.place t₀ ++ (last_of o es i (q.total + get_or cs (i - 1) 0) ∷ [])) ++ drop b (rows_in upto t₀)
          parts_left g =
              let p = left_stands in
              let f : take q.place (rows_in upto t₀) ≡ rows_in q.place t₀ = take-take q.place upto _ place_left in
              last_left
              ∙ adds_split (last_of o es i 0) (get_or cs (i - 1) 0) (take (i - 1) (under o es cs)) (drop (i - 1 + 1) (under o es cs)) (rows_in upto t₀)
              (rw (← counts_are) (under_ascends o tb)) g p.rises p.full
              ∙ rw (← behind_is, ← place_is, ← total_is, f)

          module _ (g : 0 < get_or cs (i - 1) 0) {t' : Tables} (m : t' ≡ moved b upto (end - (upto - b)) t) where
            behind_placed : Backing (add_counts (under o es cs) (rows_in n t₀))
                (added o es cs (i - 1) q.place t₀ ++ (last_of o es i (q.total + get_or cs (i - 1) 0) ∷ [])) (end - (upto - b)) t₀ t'
            behind_placed =
                let v = adding_move in
                let p = adding_stands in
                let f = backing_first w.back upto left_within in
                let l : length (drop b (rows_in upto t)) ≡ upto - b = length-drop b (rows_in upto t) ∙ rw (length_rows p.room) in
                backing_run w.back _ (drop b (rows_in upto t)) (rw f (parts_left g)) (omega arith)
                (m ∙ moved_rows p.room b (end - (upto - b)) v.0)

            -- there is a place before them
            pub adding_room : (upto - b ≤ end) × (0 < end - (upto - b)) × Room (end - (upto - b) - 1 + 1) t'
            adding_room =
                let v = adding_move in
                let r = backing_room behind_placed (added o es cs (i - 1) q.place t₀) (last_of o es i (q.total + get_or cs (i - 1) 0)) refl in
                (omega arith, r.0, r.1)

            -- where this count's row is put
            pub adding_step : {t'' : Tables} → t'' ≡ set_row t' (end - (upto - b) - 1) (last_of o es i (q.total + get_or cs (i - 1) 0))
                → Adding o es cs t₀ t'' n q.place (end - (upto - b) - 1) (i - 1)
            adding_step s =
                record {
                  rows_left_lem = omega (arith, place_left, w.rows_left_lem);
                  counts_left = omega (arith, w.counts_left);
                  back = backing_step behind_placed (added o es cs (i - 1) q.place t₀) (last_of o es i (q.total + get_or cs (i - 1) 0)) refl s;
                }
