-- What a call that gives a removal leaves, by its tests: whether what was given is proper and whether the rows have room. And what an accepted
-- one leaves, read back.
-- Assumes nothing.
use mathlib.Core.Path.{◌≡◌, sym, ap, ap₂, ◌∙◌}
use mathlib.Core.Bool.{Bool, true, false}
use mathlib.Core.List.{List}
use Prim.Native.Nat.{ℕ}
use native.Mathlib.Omega.{arith}
use lib.ListN.{length}
use Rattle.records_spec.specs.Outcomes.{leaving, refusing}
use Rattle.records_spec.specs.declared.refusal.Refusal.TheVariants.{NoRoom}
use Rattle.rows_spec.specs.Calls.{RemovalAfter, placing_removal}
use Rattle.rows_spec.specs.Rows.{Row, Tables, rows_in, room_in, over_rows, Room}
use Rattle.rows_spec.specs.Removals.{Removal, nothing, basic, sectioned, removal_in, proper_in, rows_of_removal, state_of}
use Rattle.rows_spec.specs.Theorems.{done, StandsFor}
use Rattle.rows_spec.specs.declared.removed.Removed.{Removed}
use Rattle.rows_spec.specs.declared.removed.Removed.TheVariants.{None, Basic, Sectioned}
use Rattle.rows_spec.proofs.Rows.{length_rows, has_room, proper_rows_lem}
use Rattle.rows_spec.proofs.Columns.{over_nothing}
use Rattle.rows_spec.proofs.Backing.{rows_stay}
use Rattle.rows_spec.proofs.Over.{removal_over, proper_over}

-- ---- a removal, by whether its rows have room

module _ (r : Removal) (t : Tables) where
  pub placing_done : room_in (length (rows_of_removal r)) t ≡ true → placing_removal r t ≡ done (state_of r) (over_rows (rows_of_removal r) t)
  unfolding placing_removal leaving
  placing_done h = rw h

  pub placing_refused : room_in (length (rows_of_removal r)) t ≡ false → placing_removal r t ≡ refusing NoRoom t
  unfolding placing_removal leaving
  placing_refused h = rw h

-- a removal whose rows were counted
module _ (r : Removal) (count : ℕ) (t : Tables) (e : count ≡ length (rows_of_removal r)) where
  counted : (b : Bool) → room_in count t ≡ b → room_in (length (rows_of_removal r)) t ≡ b
  counted b h = ap (λ (k : ℕ). room_in k t) (sym e) ∙ h

  pub counted_fits : {x : Removed} {t' : Tables} → room_in count t ≡ true → x ≡ state_of r → t' ≡ over_rows (rows_of_removal r) t
      → done x t' ≡ placing_removal r t
  counted_fits h p q = (λ z. done (p z) (q z)) ∙ sym (placing_done r t (counted true h))

  pub counted_short : room_in count t ≡ false → refusing NoRoom t ≡ placing_removal r t
  counted_short h = sym (placing_refused r t (counted false h))

-- the same of rows
module _ (rs : List Row) (count : ℕ) (t : Tables) (e : count ≡ length rs) where
  pub placing_fits : (t' : Tables) → room_in count t ≡ true → t' ≡ over_rows rs t → done (Sectioned count) t' ≡ placing_removal (sectioned rs) t
  placing_fits t' h g = counted_fits (sectioned rs) count t e h (ap Sectioned e) g

  pub placing_short : room_in count t ≡ false → refusing NoRoom t ≡ placing_removal (sectioned rs) t
  placing_short = counted_short (sectioned rs) count t e

-- the same rows, said otherwise
pub placed_rows : (t : Tables) {r : RemovalAfter} {rs ss : List Row}
    → r ≡ placing_removal (sectioned rs) t → rs ≡ ss → r ≡ placing_removal (sectioned ss) t
placed_rows t e f = e ∙ ap (λ (l : List Row). placing_removal (sectioned l) t) f

-- ---- a removal that stands in the tables stays

pub placing_stays : {n : ℕ} {t : Tables} → Room n t → done (Sectioned n) t ≡ placing_removal (sectioned (rows_in n t)) t
placing_stays {n} {t} r = placing_fits (rows_in n t) n t (sym (length_rows r)) t (has_room r) (sym (rows_stay r))

pub room_none : (t : Tables) → Room 0 t
room_none t = record { ids_long = omega arith; epochs_long = omega arith; bytes_long = omega arith }

module _ (t : Tables) where
  pub placing_nothing : done None t ≡ placing_removal nothing t
  placing_nothing = ap (done None) (sym (over_nothing t)) ∙ sym (placing_done nothing t (has_room (room_none t)))

  pub placing_basic : (n : ℕ) → done (Basic n) t ≡ placing_removal (basic n) t
  placing_basic n = ap (done (Basic n)) (sym (over_nothing t)) ∙ sym (placing_done (basic n) t (has_room (room_none t)))

pub placing_self : (x : Removed) (t : Tables) → proper_in x t ≡ true → done x t ≡ placing_removal (removal_in x t) t
placing_self None t p = placing_nothing t
placing_self (Basic n) t p = placing_basic t n
placing_self (Sectioned n) t p = placing_stays (proper_rows_lem n t p).room

-- ---- what an accepted call leaves

pub left_stands : (r : Removal) (s : Removed) (t left : Tables) → state_of r ≡ s → left ≡ over_rows (rows_of_removal r) t → StandsFor r s left
left_stands r s t left e o =
    record {
      stands = sym (ap₂ removal_in e (sym o)) ∙ removal_over r t;
      is_proper = λ h. sym (ap₂ proper_in e (sym o)) ∙ proper_over r t h;
    }
