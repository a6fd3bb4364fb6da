-- The columns of structs and the structs of columns, place by place.
-- Assumes nothing.
use mathlib.Core.Path.{◌≡◌, refl, sym, ap, ◌∙◌}
use mathlib.Core.List.{List, [], ◌∷◌}
use Prim.Native.Nat.{ℕ, zero, suc, ◌≤◌, ◌<◌}
use native.Mathlib.Nat.{le_of_suc-le-suc, not-suc-le-zero}
use native.Mathlib.Omega.{arith}
use lib.ListN.{length, get_or, set, take}
use Rattle.records_spec.specs.Tables.{records_of, over}
use Rattle.records_spec.proofs.Tables.{length_column}
use Rattle.rows_spec.specs.Rows.{Row, Tables, tables, rows_of, rows_in, over_rows, Room}
use Rattle.rows_spec.proofs.Columns.{three, columns as columns-first}
use Rattle.rows_spec.proofs.Rows.{length_rows}
use Rattle.totals_index_spec.specs.Structs.{owners_of, total_epochs_of, totals_of, columns, structs}
use Rattle.totals_index_spec.specs.declared.structs.Total.{Total}
use Rattle.totals_index_spec.proofs.Filling.{filled, filled_next, filled_all}

-- what stands past the end of a table: nothing is read there
abbrev pub no_total : Total
no_total = record { owner = []; epoch = 0; total = 0 }

-- ---- columns of structs

pub length_owners : (ts : List Total) → length (owners_of ts) ≡ length ts
unfolding owners_of
length_owners = length_column owners_of (λ (t : Total). t.owner) refl (λ t ts. refl)

pub length_epochs : (ts : List Total) → length (total_epochs_of ts) ≡ length ts
unfolding total_epochs_of
length_epochs = length_column total_epochs_of (λ (t : Total). t.epoch) refl (λ t ts. refl)

pub length_totals : (ts : List Total) → length (totals_of ts) ≡ length ts
unfolding totals_of
length_totals = length_column totals_of (λ (t : Total). t.total) refl (λ t ts. refl)

-- as many rows as a table has places stand in its columns
pub columns_room : {n : ℕ} (ts : List Total) → n ≤ length ts → Room n (columns ts)
columns_room ts h =
    record {
      ids_long = omega (arith, h, length_owners ts);
      epochs_long = omega (arith, h, length_epochs ts);
      bytes_long = omega (arith, h, length_totals ts);
    }

module _ {B : Type 0} (column : List Total → List B) (give : Total → B) (none : column [] ≡ [])
    (each : (t : Total) (ts : List Total) → column (t ∷ ts) ≡ give t ∷ column ts) where
  column_at : (ts : List Total) (i : ℕ) (d : B) → i < length ts → get_or (column ts) i d ≡ give (get_or ts i no_total)
  column_at [] i d h = absurd (not-suc-le-zero h)
  column_at (t ∷ ts) zero d h = ap (λ (l : List B). get_or l zero d) (each t ts)
  column_at (t ∷ ts) (suc i) d h = ap (λ (l : List B). get_or l (suc i) d) (each t ts) ∙ column_at ts i d (le_of_suc-le-suc h)

  column_next : (ts : List Total) (i : ℕ) (old : List B) (d : B) → i < length ts → i < length old
      → set (filled i (column ts) old) i (give (get_or ts i no_total)) ≡ filled (suc i) (column ts) old
  column_next ts i old d h k =
      ap (set (filled i (column ts) old) i) (sym (column_at ts i d h))
      ∙ filled_next i (column ts) old d (omega (arith, h, length_column column give none each ts)) k

-- one place more of each column
module _ (ts : List Total) (i : ℕ) (h : i < length ts) where
  pub owner_next : (os : List (List ℕ)) → i < length os
      → set (filled i (owners_of ts) os) i (get_or ts i no_total).owner ≡ filled (suc i) (owners_of ts) os
  unfolding owners_of
  owner_next os = column_next owners_of (λ (t : Total). t.owner) refl (λ t ts. refl) ts i os [] h

  pub epoch_next : (es : List ℕ) → i < length es
      → set (filled i (total_epochs_of ts) es) i (get_or ts i no_total).epoch ≡ filled (suc i) (total_epochs_of ts) es
  unfolding total_epochs_of
  epoch_next es = column_next total_epochs_of (λ (t : Total). t.epoch) refl (λ t ts. refl) ts i es 0 h

  pub total_next : (us : List ℕ) → i < length us → set (filled i (totals_of ts) us) i (get_or ts i no_total).total ≡ filled (suc i) (totals_of ts) us
  unfolding totals_of
  total_next us = column_next totals_of (λ (t : Total). t.total) refl (λ t ts. refl) ts i us 0 h

-- the first n places of all columns are the first n rows
pub all_taken : (n : ℕ) (ts : List Total) → n ≤ length ts → (w : Tables)
    → tables (filled n (owners_of ts) w.ids) (filled n (total_epochs_of ts) w.epochs) (filled n (totals_of ts) w.bytes)
    ≡ over_rows (rows_in n (columns ts)) w
all_taken n ts h w =
    let c = columns-first (columns_room {n = n} ts h) in
    three
    (ap (λ (l : List (List ℕ)). over l w.ids) (sym c.ids_first))
    (ap (λ (l : List ℕ). over l w.epochs) (sym c.epochs_first))
    (ap (λ (l : List ℕ). over l w.bytes) (sym c.bytes_first))

-- ---- structs of columns

pub length_structs : (rs : List Row) → length (structs rs) ≡ length rs
unfolding structs
length_structs [] = refl
length_structs (r ∷ rs) = ap suc (length_structs rs)

-- the struct that stands at a place of three columns
abbrev pub struct_at : Tables → ℕ → Total
struct_at t i = record { owner = get_or t.ids i []; epoch = get_or t.epochs i 0; total = get_or t.bytes i 0 }

struct_at_lem : (n i : ℕ) (is : List (List ℕ)) (es bs : List ℕ) → i < n → n ≤ length is → n ≤ length es → n ≤ length bs
    → get_or (structs (take n (rows_of is (records_of es bs)))) i no_total ≡ struct_at (tables is es bs) i
unfolding structs rows_of records_of
struct_at_lem zero i is es bs g h k l = absurd (not-suc-le-zero g)
struct_at_lem (suc n) i [] es bs g h k l = absurd (not-suc-le-zero h)
struct_at_lem (suc n) i (x ∷ is) [] bs g h k l = absurd (not-suc-le-zero k)
struct_at_lem (suc n) i (x ∷ is) (e ∷ es) [] g h k l = absurd (not-suc-le-zero l)
struct_at_lem (suc n) zero (x ∷ is) (e ∷ es) (b ∷ bs) g h k l = refl
struct_at_lem (suc n) (suc i) (x ∷ is) (e ∷ es) (b ∷ bs) g h k l =
    struct_at_lem n i is es bs (le_of_suc-le-suc g) (le_of_suc-le-suc h) (le_of_suc-le-suc k) (le_of_suc-le-suc l)

module _ {n : ℕ} {t : Tables} (r : Room n t) (ts : List Total) where
  length_first : length (structs (rows_in n t)) ≡ n
  length_first = length_structs (rows_in n t) ∙ length_rows r

  -- one place more of the table
  pub struct_next : (i : ℕ) → i < n → i < length ts
      → set (filled i (structs (rows_in n t)) ts) i (struct_at t i) ≡ filled (suc i) (structs (rows_in n t)) ts
  struct_next i h k =
      ap (set (filled i (structs (rows_in n t)) ts) i)
      (sym (struct_at_lem n i t.ids t.epochs t.bytes h r.ids_long r.epochs_long r.bytes_long))
      ∙ filled_next i (structs (rows_in n t)) ts no_total (omega (arith, h, length_first)) k

  pub all_put : filled n (structs (rows_in n t)) ts ≡ over (structs (rows_in n t)) ts
  all_put = filled_all n (structs (rows_in n t)) ts (omega (arith, length_first))
