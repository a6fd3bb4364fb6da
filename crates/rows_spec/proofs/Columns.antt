-- Rows and the columns of the tables that hold them: the one gives the other back.
-- Assumes nothing.
use mathlib.Core.Path.{◌≡◌, refl, sym, ap, ◌∙◌}
use mathlib.Core.List.{List, [], ◌∷◌, ◌++◌}
use Prim.Native.Nat.{ℕ, zero, suc, ◌+◌, ◌-◌, ◌≤◌}
use native.Mathlib.Nat.{le_of_suc-le-suc, not-suc-le-zero, sub-zero}
use native.Mathlib.Omega.{arith}
use lib.ListN.{length, take, drop, length-drop, length-append}
use lib.Seq.{drop-append-add, drop-drop, take-nil, take_all}
use Rattle.records_spec.specs.Tables.{At, records_of, epochs_of, counts_of, over}
use Rattle.records_spec.proofs.Tables.{over-holds, over-long, take_records, drop_records, length_column, column_append}
use Rattle.rows_spec.specs.Rows.{Row, ascends, ids_of, parts_of, Tables, tables, rows_of, rows_in, room_in, over_rows, Room}
use Rattle.rows_spec.specs.Inner.Rows.{Proper}
use Rattle.rows_spec.proofs.Rows.{asc_drop}

-- the rows' epochs
abbrev pub epochs_in : List Row → List ℕ
epochs_in rs = epochs_of (parts_of rs)

-- the rows' numbers of bytes
abbrev pub bytes_in : List Row → List ℕ
bytes_in rs = counts_of (parts_of rs)

pub length_ids : (rs : List Row) → length (ids_of rs) ≡ length rs
unfolding ids_of
length_ids = length_column ids_of (λ (r : Row). r.identifier) refl (λ r rs. refl)

pub length_epochs : (rs : List Row) → length (epochs_in rs) ≡ length rs
unfolding parts_of epochs_of
length_epochs = length_column epochs_in (λ (r : Row). r.part.epoch) refl (λ r rs. refl)

pub length_bytes : (rs : List Row) → length (bytes_in rs) ≡ length rs
unfolding parts_of counts_of
length_bytes = length_column bytes_in (λ (r : Row). r.part.bytes) refl (λ r rs. refl)

pub ids_append : (rs ss : List Row) → ids_of (rs ++ ss) ≡ ids_of rs ++ ids_of ss
unfolding ids_of
ids_append = column_append ids_of (λ (r : Row). r.identifier) refl (λ r rs. refl)

pub epochs_in_append : (rs ss : List Row) → epochs_in (rs ++ ss) ≡ epochs_in rs ++ epochs_in ss
unfolding parts_of epochs_of
epochs_in_append = column_append epochs_in (λ (r : Row). r.part.epoch) refl (λ r rs. refl)

pub bytes_in_append : (rs ss : List Row) → bytes_in (rs ++ ss) ≡ bytes_in rs ++ bytes_in ss
unfolding parts_of counts_of
bytes_in_append = column_append bytes_in (λ (r : Row). r.part.bytes) refl (λ r rs. refl)

-- three columns that are equal
pub three : {is is' : List (List ℕ)} {es es' bs bs' : List ℕ} → is ≡ is' → es ≡ es' → bs ≡ bs' → tables is es bs ≡ tables is' es' bs'
three p q r = λ i. record { ids = p i; epochs = q i; bytes = r i }

-- ---- the first rows, column by column

take_rows_of : (n : ℕ) (is : List (List ℕ)) (ps : List At) → take n (rows_of is ps) ≡ rows_of (take n is) (take n ps)
unfolding rows_of
take_rows_of zero is ps = refl
take_rows_of (suc n) [] ps = refl
take_rows_of (suc n) (i ∷ is) [] = refl
take_rows_of (suc n) (i ∷ is) (p ∷ ps) = rw (take_rows_of n is ps)

pub take_rows : (n : ℕ) (t : Tables) → rows_in n t ≡ rows_of (take n t.ids) (records_of (take n t.epochs) (take n t.bytes))
take_rows n t = take_rows_of n t.ids (records_of t.epochs t.bytes) ∙ ap (rows_of (take n t.ids)) (take_records n t.epochs t.bytes)

-- the columns of the first n rows
pub record Columns (n : ℕ) (t : Tables) : Type 0 where
  pub ids_first : ids_of (rows_in n t) ≡ take n t.ids
  pub epochs_first : epochs_in (rows_in n t) ≡ take n t.epochs
  pub bytes_first : bytes_in (rows_in n t) ≡ take n t.bytes

columns_of : (n : ℕ) (is : List (List ℕ)) (es bs : List ℕ) → n ≤ length is → n ≤ length es → n ≤ length bs
    → Columns n (record { ids = is; epochs = es; bytes = bs })
unfolding rows_of records_of ids_of parts_of epochs_of counts_of
columns_of zero is es bs h k l = record { ids_first = refl; epochs_first = refl; bytes_first = refl }
columns_of (suc n) [] es bs h k l = absurd (not-suc-le-zero h)
columns_of (suc n) (i ∷ is) [] bs h k l = absurd (not-suc-le-zero k)
columns_of (suc n) (i ∷ is) (e ∷ es) [] h k l = absurd (not-suc-le-zero l)
columns_of (suc n) (i ∷ is) (e ∷ es) (b ∷ bs) h k l =
    let c = columns_of n is es bs (le_of_suc-le-suc h) (le_of_suc-le-suc k) (le_of_suc-le-suc l) in
    record {
      ids_first = ap (λ (x : List (List ℕ)). i ∷ x) c.ids_first;
      epochs_first = ap (λ (x : List ℕ). e ∷ x) c.epochs_first;
      bytes_first = ap (λ (x : List ℕ). b ∷ x) c.bytes_first;
    }

pub columns : {n : ℕ} {t : Tables} → Room n t → Columns n t
columns {n} {t} r = columns_of n t.ids t.epochs t.bytes r.ids_long r.epochs_long r.bytes_long

-- ---- rows at the start of tables

-- what was written first does not show where no less is written over it
over-twice {ℓ} : {A : Type ℓ} (ys xs old : List A) → length xs ≤ length ys → over ys (over xs old) ≡ over ys old
over-twice ys xs old h =
    let n = length ys - length xs in
    let e : length ys ≡ length xs + n = omega arith in
    ap (λ l. ys ++ l)
    (ap (λ (k : ℕ). drop k (over xs old)) e ∙ drop-append-add xs (drop (length xs) old) n ∙ drop-drop n (length xs) old
    ∙ ap (λ (k : ℕ). drop k old) (sym e))

pub as-long-as {ℓ} : {A : Type ℓ} (xs old : List A) → length xs ≤ length old → length (over xs old) ≡ length old
as-long-as xs old h = let a = length-append xs (drop (length xs) old) in let b = length-drop (length xs) old in omega arith

module _ (rs : List Row) (t : Tables) where
  pub over_room : {n : ℕ} → Room n t → Room n (over_rows rs t)
  over_room r =
      record {
        ids_long = omega (arith, r.ids_long, over-long (ids_of rs) t.ids);
        epochs_long = omega (arith, r.epochs_long, over-long (epochs_in rs) t.epochs);
        bytes_long = omega (arith, r.bytes_long, over-long (bytes_in rs) t.bytes);
      }

  pub over_rows_lem : Room (length rs) (over_rows rs t)
  over_rows_lem =
      record {
        ids_long = omega (arith, length_ids rs, over-holds (ids_of rs) t.ids);
        epochs_long = omega (arith, length_epochs rs, over-holds (epochs_in rs) t.epochs);
        bytes_long = omega (arith, length_bytes rs, over-holds (bytes_in rs) t.bytes);
      }

  -- rows that have room leave the room as it was
  pub room_over : (n : ℕ) → Room (length rs) t → room_in n (over_rows rs t) ≡ room_in n t
  room_over n r =
      rw (
        as-long-as (ids_of rs) t.ids (omega (arith, r.ids_long, length_ids rs)),
        as-long-as (epochs_in rs) t.epochs (omega (arith, r.epochs_long, length_epochs rs)),
        as-long-as (bytes_in rs) t.bytes (omega (arith, r.bytes_long, length_bytes rs)),
      )

read_rows : (rs : List Row) (is : List (List ℕ)) (es bs : List ℕ)
    → rows_in (length rs) (tables (ids_of rs ++ is) (epochs_in rs ++ es) (bytes_in rs ++ bs)) ≡ rs
unfolding rows_of records_of ids_of parts_of epochs_of counts_of
read_rows [] is es bs = refl
read_rows (r ∷ rs) is es bs = ap (λ (l : List Row). r ∷ l) (read_rows rs is es bs)

-- ROWS AT THE START OF TABLES ARE READ BACK
pub rows_back : (rs : List Row) (t : Tables) → rows_in (length rs) (over_rows rs t) ≡ rs
rows_back rs t = read_rows rs _ _ _

pub over_over : (rs ss : List Row) (t : Tables) → length rs ≤ length ss → over_rows ss (over_rows rs t) ≡ over_rows ss t
over_over rs ss t h =
    three
    (over-twice (ids_of ss) (ids_of rs) t.ids (omega (arith, length_ids rs, length_ids ss)))
    (over-twice (epochs_in ss) (epochs_in rs) t.epochs (omega (arith, length_epochs rs, length_epochs ss)))
    (over-twice (bytes_in ss) (bytes_in rs) t.bytes (omega (arith, length_bytes rs, length_bytes ss)))

-- no rows change nothing
pub over_nothing : (t : Tables) → over_rows [] t ≡ t
unfolding ids_of parts_of epochs_of counts_of
over_nothing t = refl

-- ---- rows from a place on

no_parts : (is : List (List ℕ)) → rows_of is [] ≡ []
unfolding rows_of
no_parts [] = refl
no_parts (i ∷ is) = refl

drop_rows_of : (k : ℕ) (is : List (List ℕ)) (ps : List At) → rows_of (drop k is) (drop k ps) ≡ drop k (rows_of is ps)
unfolding rows_of
drop_rows_of zero is ps = refl
drop_rows_of (suc k) [] ps = refl
drop_rows_of (suc k) (i ∷ is) [] = no_parts (drop k is)
drop_rows_of (suc k) (i ∷ is) (p ∷ ps) = drop_rows_of k is ps

-- a part of a slice from a place on
abbrev pub part {ℓ} : {A : Type ℓ} → ℕ → List A → List A
part k l = take (length l - k) (drop k l)

module _ {ℓ} {A : Type ℓ} where
  pub take_behind : (k m : ℕ) (l : List A) → k ≤ m → take (m - k) (drop k l) ≡ drop k (take m l)
  take_behind zero m l h = rw (sub-zero m)
  take_behind (suc k) zero l h = absurd (not-suc-le-zero h)
  take_behind (suc k) (suc m) [] h = take-nil (suc m - suc k)
  take_behind (suc k) (suc m) (x ∷ l) h =
      let e : suc m - suc k ≡ m - k = omega arith in
      rw e (take_behind k m l (omega arith))

  part_is : (k : ℕ) (l : List A) → part k l ≡ drop k l
  part_is k l = take_all (length l - k) (drop k l) (omega (arith, length-drop k l))

  part_long : (k : ℕ) (l : List A) → length (part k l) ≡ length l - k
  part_long k l = ap (length {A = A}) (part_is k l) ∙ length-drop k l

module _ (k m : ℕ) (t : Tables) (h : k ≤ m) where
  pub part_rows : rows_in (m - k) (tables (part k t.ids) (part k t.epochs) (part k t.bytes)) ≡ drop k (rows_in m t)
  part_rows =
      ap (rows_in (m - k)) (three (part_is k t.ids) (part_is k t.epochs) (part_is k t.bytes))
      ∙ ap (take (m - k)) (ap (rows_of (drop k t.ids)) (sym (drop_records k t.epochs t.bytes))
      ∙ drop_rows_of k t.ids (records_of t.epochs t.bytes))
      ∙ take_behind k m (rows_of t.ids (records_of t.epochs t.bytes)) h

  pub part_proper : Proper m t → Proper (m - k) (tables (part k t.ids) (part k t.epochs) (part k t.bytes))
  part_proper p =
      record {
        room = record {
          ids_long = omega (arith, p.room.ids_long, part_long k t.ids);
          epochs_long = omega (arith, p.room.epochs_long, part_long k t.epochs);
          bytes_long = omega (arith, p.room.bytes_long, part_long k t.bytes);
        };
        rises = ap ascends part_rows ∙ asc_drop (rows_in m t) k p.rises;
      }
