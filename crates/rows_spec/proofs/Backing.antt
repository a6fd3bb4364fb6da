-- Rows placed into three tables from the back: what was placed stands as it ends, and what is before it began.
-- One law for a column, then the three together.
-- Assumes nothing.
use mathlib.Core.Path.{◌≡◌, refl, sym, ap, ◌∙◌, subst}
use mathlib.Core.List.{List, [], ◌∷◌, ◌++◌, append_assoc, append-nil}
use Prim.Native.Nat.{ℕ, ◌+◌, ◌-◌, ◌≤◌, ◌<◌}
use native.Mathlib.Omega.{arith}
use lib.ListN.{length, take, drop, length-append, length-drop, take-append-drop}
use lib.Seq.{length-take-le, take-append-le, take-take, drop-drop, drop_at, drop-append_seam, sets, sets-eq}
use Rattle.records_spec.specs.Tables.{records_of, epochs_of, counts_of, over}
use Rattle.rows_spec.specs.Rows.{Row, ids_of, parts_of, Tables, tables, rows_of, rows_in, over_rows, set_row, Room}
use Rattle.rows_spec.proofs.Columns.{length_ids, ids_append, epochs_in, bytes_in, length_epochs, length_bytes, epochs_in_append, bytes_in_append}
use Rattle.rows_spec.proofs.Columns.{three, take_rows, columns}
use Rattle.rows_spec.proofs.Rows.{length_rows, room_less}

-- ---- a column

-- the first k places as they were, and those behind as they end with xs at the start
abbrev half {ℓ} : {A : Type ℓ} → ℕ → List A → List A → List A
half k xs old = take k old ++ drop k (over xs old)

module _ {ℓ} {A : Type ℓ} where
  half_start : (n : ℕ) (xs old : List A) → length xs ≡ n → old ≡ half n xs old
  half_start n xs old e =
      sym (take-append-drop n old)
      ∙ ap (λ (l : List A). take n old ++ l) (ap (λ (m : ℕ). drop m old) (sym e) ∙ sym (drop_at xs (drop (length xs) old) n e))

  half_long : (k : ℕ) (xs old : List A) → k ≤ length xs → length xs ≤ length old → length (half k xs old) ≡ length old
  half_long k xs old h g =
      let a = length-append (take k old) (drop k (over xs old)) in
      let b = length-take-le k old (omega arith) in
      let c = length-drop k (over xs old) in
      let d = length-append xs (drop (length xs) old) in
      let e = length-drop (length xs) old in
      omega arith

  half_first : (i k : ℕ) (xs old : List A) → i ≤ k → k ≤ length old → take i (half k xs old) ≡ take i old
  half_first i k xs old h g =
      take-append-le i (take k old) (drop k (over xs old)) (rw (length-take-le k old g) h) ∙ take-take i k old h

  -- the last run of what is left is placed
  half_run : (at k : ℕ) (xs ys vs zs old : List A) → xs ≡ ys ++ (vs ++ zs) → length ys ≡ at → k ≡ at + length vs → length xs ≤ length old
      → sets (half k xs old) at vs ≡ half at xs old
  half_run at k xs ys vs zs old e n m h =
      let rest = drop (length xs) old in
      let l : length xs ≡ at + (length vs + length zs) = ap (length {A = A}) e ∙ length-append ys (vs ++ zs) ∙ rw (n, length-append vs zs) in
      let w = half_long k xs old (omega arith) h in
      let q : over xs old ≡ ys ++ (vs ++ (zs ++ rest)) = ap (λ (u : List A). u ++ rest) e ∙ append_assoc ys (vs ++ zs) rest
      ∙ ap (λ (u : List A). ys ++ u) (append_assoc vs zs rest) in
      let d : drop k (over xs old) ≡ zs ++ rest =
      rw (q, m, ← drop-drop (length vs) at (ys ++ (vs ++ (zs ++ rest))), drop_at ys (vs ++ (zs ++ rest)) at n) (drop-append_seam vs (zs ++ rest)) in
      let f : drop (at + length vs) (half k xs old)
      ≡ zs ++ rest = rw (← m) (drop_at (take k old) (drop k (over xs old)) k (length-take-le k old (omega arith)) ∙ d) in
      sets-eq vs (half k xs old) at (omega arith)
      ∙ append_assoc (take at (half k xs old)) vs (drop (at + length vs) (half k xs old))
      ∙ rw (half_first at k xs old (omega arith) (omega arith), f, ← drop_at ys (vs ++ (zs ++ rest)) at n, ← q)

  -- what is left stands where it is to stand
  half_stays : (k : ℕ) (xs ys zs old : List A) → xs ≡ ys ++ zs → length ys ≡ k → ys ≡ take k old → half k xs old ≡ over xs old
  half_stays k xs ys zs old p h e =
      let rest = drop (length xs) old in
      let q : xs ++ rest ≡ ys ++ (zs ++ rest) = ap (λ (l : List A). l ++ rest) p ∙ append_assoc ys zs rest in
      ap (λ (l : List A). l ++ drop k (over xs old)) (sym e)
      ∙ ap (λ (l : List A). ys ++ l) (ap (drop k) q ∙ drop_at ys (zs ++ rest) k h) ∙ sym q

  -- of a column of rows
  column_run : {at k : ℕ} (column : List Row → List A) → ((rs ss : List Row) → column (rs ++ ss) ≡ column rs ++ column ss)
      → ((rs : List Row) → length (column rs) ≡ length rs)
      → {all : List Row} (rest rs written : List Row) (old : List A) → all ≡ rest ++ (rs ++ written) → length rest ≡ at → k ≡ at + length rs
      → length all ≤ length old
      → sets (half k (column all) old) at (column rs) ≡ half at (column all) old
  column_run {at} {k} column append long {all} rest rs written old e n m h =
      half_run at k (column all) (column rest) (column rs) (column written) old
      (ap column e ∙ append rest (rs ++ written) ∙ ap (λ (u : List A). column rest ++ u) (append rs written))
      (long rest ∙ n) (omega (arith, long rs)) (omega (arith, long all))

-- ---- the three tables

-- the tables with the rows behind the first k placed
abbrev half_rows : ℕ → List Row → Tables → Tables
half_rows k rs t =
    tables (half k (ids_of rs) t.ids) (half k (epochs_in rs) t.epochs) (half k (bytes_in rs) t.bytes)

-- rows at the places from k on, and all else untouched
abbrev pub set_rows : Tables → ℕ → List Row → Tables
set_rows t k rs = tables (sets t.ids k (ids_of rs)) (sets t.epochs k (epochs_in rs)) (sets t.bytes k (bytes_in rs))

-- `left` of all rows are still to be placed, in the first k places
pub record Backing (all left : List Row) (k : ℕ) (t₀ t : Tables) : Type 0 where
  pub written : List Row
  pub parts : all ≡ left ++ written
  pub reached : k ≡ length left
  pub room : Room (length all) t₀
  pub stands : t ≡ half_rows k all t₀

pub backing_start : (all : List Row) (t : Tables) → Room (length all) t → Backing all all (length all) t t
backing_start all t r =
    record {
      written = [];
      parts = sym (append-nil all);
      reached = refl;
      room = r;
      stands = three (half_start _ (ids_of all) t.ids (length_ids all)) (half_start _ (epochs_in all) t.epochs (length_epochs all))
          (half_start _ (bytes_in all) t.bytes (length_bytes all));
    }

module _ {all left : List Row} {k : ℕ} {t₀ t : Tables} (b : Backing all left k t₀ t) where
  within : k ≤ length all
  within = omega (arith, b.reached, ap (length {A = Row}) b.parts, length-append left b.written)

  -- the tables are as long as they were
  pub backing_long : (length t.ids ≡ length t₀.ids) × (length t.epochs ≡ length t₀.epochs) × (length t.bytes ≡ length t₀.bytes)
  backing_long =
      let w = within in (
        ap (λ (u : Tables). length u.ids) b.stands
            ∙ half_long k (ids_of all) t₀.ids (omega (arith, length_ids all)) (omega (arith, length_ids all, b.room.ids_long)),
        ap (λ (u : Tables). length u.epochs) b.stands
            ∙ half_long k (epochs_in all) t₀.epochs (omega (arith, length_epochs all)) (omega (arith, length_epochs all, b.room.epochs_long)),
        ap (λ (u : Tables). length u.bytes) b.stands
            ∙ half_long k (bytes_in all) t₀.bytes (omega (arith, length_bytes all)) (omega (arith, length_bytes all, b.room.bytes_long)),
      )

  -- the first k places have room
  pub backing_fits : Room k t
  backing_fits =
      let w = within in
      let l = backing_long in
      record {
        ids_long = omega (arith, l.0, b.room.ids_long);
        epochs_long = omega (arith, l.1, b.room.epochs_long);
        bytes_long = omega (arith, l.2, b.room.bytes_long);
      }

  -- and hold what they held
  pub backing_first : (i : ℕ) → i ≤ k → rows_in i t ≡ rows_in i t₀
  backing_first i h =
      let w = within in
      ap (rows_in i) b.stands ∙ take_rows i (half_rows k all t₀)
      ∙ (λ j. rows_of (half_first i k (ids_of all) t₀.ids h (omega (arith, b.room.ids_long)) j)
      (records_of (half_first i k (epochs_in all) t₀.epochs h (omega (arith, b.room.epochs_long)) j)
      (half_first i k (bytes_in all) t₀.bytes h (omega (arith, b.room.bytes_long)) j)))
      ∙ sym (take_rows i t₀)

  -- the last run of what is left is placed
  pub backing_run : {at : ℕ} {t' : Tables} (rest rs : List Row) → left ≡ rest ++ rs → k ≡ at + length rs → t' ≡ set_rows t at rs
      → Backing all rest at t₀ t'
  backing_run {at} {t'} rest rs e n s =
      let place : length rest ≡ at = omega (arith, b.reached, ap (length {A = Row}) e, length-append rest rs) in
      let all-is : all ≡ rest ++ (rs ++ b.written) = b.parts ∙ ap (λ (l : List Row). l ++ b.written) e ∙ append_assoc rest rs b.written in
      record {
        written = rs ++ b.written;
        parts = all-is;
        reached = sym place;
        room = b.room;
        stands = s ∙ ap (λ (u : Tables). set_rows u at rs) b.stands
            ∙ three
            (column_run ids_of ids_append length_ids rest rs b.written t₀.ids all-is place n b.room.ids_long)
            (column_run epochs_in epochs_in_append length_epochs rest rs b.written t₀.epochs all-is place n b.room.epochs_long)
            (column_run bytes_in bytes_in_append length_bytes rest rs b.written t₀.bytes all-is place n b.room.bytes_long);
      }

  module _ (rest : List Row) (r : Row) (e : left ≡ rest ++ (r ∷ [])) where
    some_left : k ≡ length rest + 1
    some_left = b.reached ∙ ap (length {A = Row}) e ∙ length-append rest (r ∷ [])

    -- the last of what is left has a place
    pub backing_room : (0 < k) × Room (k - 1 + 1) t
    backing_room =
        let s = some_left in
        let f = backing_fits in (
          omega arith,
          record {
            ids_long = omega (arith, f.ids_long);
            epochs_long = omega (arith, f.epochs_long);
            bytes_long = omega (arith, f.bytes_long);
          },
        )

    -- it is placed
    pub backing_step : {t' : Tables} → t' ≡ set_row t (k - 1) r → Backing all rest (k - 1) t₀ t'
    unfolding ids_of parts_of epochs_of counts_of
    backing_step s = let n = some_left in backing_run rest (r ∷ []) e (omega arith) s

  -- what is left stands where it is to stand
  pub backing_stays : left ≡ rows_in k t₀ → t ≡ over_rows all t₀
  backing_stays e =
      let w = within in
      let c = columns (room_less k w b.room) in
      b.stands
      ∙ three
      (half_stays k (ids_of all) (ids_of left) (ids_of b.written) t₀.ids (ap ids_of b.parts ∙ ids_append left b.written)
      (length_ids left ∙ sym b.reached) (ap ids_of e ∙ c.ids_first))
      (half_stays k (epochs_in all) (epochs_in left) (epochs_in b.written) t₀.epochs (ap epochs_in b.parts ∙ epochs_in_append left b.written)
      (length_epochs left ∙ sym b.reached) (ap epochs_in e ∙ c.epochs_first))
      (half_stays k (bytes_in all) (bytes_in left) (bytes_in b.written) t₀.bytes (ap bytes_in b.parts ∙ bytes_in_append left b.written)
      (length_bytes left ∙ sym b.reached) (ap bytes_in e ∙ c.bytes_first))

  -- nothing is left
  pub backing_done : left ≡ [] → t ≡ over_rows all t₀
  backing_done e =
      let z : k ≡ 0 = b.reached ∙ ap (length {A = Row}) e in
      b.stands ∙ ap (λ (j : ℕ). half_rows j all t₀) z

-- rows that are written where they stand change nothing
pub rows_stay : {n : ℕ} {t : Tables} → Room n t → over_rows (rows_in n t) t ≡ t
rows_stay {n} {t} r =
    let l = length_rows r in
    sym (backing_stays (backing_start (rows_in n t) t (subst (λ (k : ℕ). Room k t) (sym l) r)) (ap (λ (k : ℕ). rows_in k t) (sym l)))
