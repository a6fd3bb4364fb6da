-- The two calls by their tests, one law for each way out of the code.
-- Assumes nothing.
use mathlib.Core.Path.{◌≡◌, sym, ap, subst, ◌∙◌}
use mathlib.Core.Bool.{true, false, Bool}
use mathlib.Core.List.{List}
use Prim.Native.Nat.{ℕ, ◌+◌, ◌<◌}
use lib.ListN.{length}
use Rattle.records_spec.specs.Tables.{At}
use Rattle.records_spec.specs.Flags.{id_of, owner_of, flags_of, proper, Held}
use Rattle.rows_spec.specs.Calls.{placing_removal}
use Rattle.records_spec.specs.Outcomes.{refusing, leaving, ok, after}
use Rattle.records_spec.specs.declared.refusal.Refusal.TheVariants.{NoRoom, BadTable}
use Rattle.rows_spec.specs.Rows.{row, Tables, room_in, set_row, Room}
use Rattle.rows_spec.specs.Removals.{Removal, rows_of_removal}
use Rattle.rows_spec.specs.declared.removed.Removed.{Removed}
use Rattle.rows_spec.specs.declared.removed.Removed.TheVariants.{None, Sectioned}
use Rattle.rows_spec.specs.Theorems.{done}
use Rattle.rows_spec.proofs.Rows.{room_in_lem}
use Rattle.rows_spec.proofs.Outcomes.{counted_fits, counted_short, placing_nothing}
use Rattle.splitting_spec.specs.Sections.{sections, split}
use Rattle.splitting_spec.specs.Inner.Visits.{visits, rows_at_base}
use Rattle.splitting_spec.specs.Calls.{key_part, value_part, PlacedRemoval, split_key, split_value, placed_split, SplitAfter}
use Rattle.splitting_spec.specs.declared.giving.Visited.{Visited}
use Rattle.splitting_spec.proofs.Counting.{base_some, split_long, key_rows, value_rows}
use Rattle.splitting_spec.proofs.Placing.{removal_none, single_placed}

-- ---- room

-- the rows of the split, as the visit counts them
pub rows_told_lem : (base : ℕ) (rs : List At) (n b : ℕ) (v : Visited) → v ≡ visits rs n → b ≡ rows_at_base v.left
    → v.records + b ≡ length (split base rs n)
rows_told_lem base rs n b v e h =
    ap (λ (x : ℕ). v.records + x) h ∙ ap (λ (w : Visited). w.records + rows_at_base w.left) e ∙ sym (split_long base rs n)

-- so many rows have room
pub fits : (k n : ℕ) (t : Tables) → k ≡ n → room_in k t ≡ true → Room n t
fits k n t e h = subst (λ (m : ℕ). Room m t) e (room_in_lem k t h)

-- ---- the key's bytes

module _ (i : List ℕ) (base n : ℕ) (t : Tables) where
  pub key_none : n ≡ 0 → done None t ≡ placing_removal (key_part i base n) t
  key_none h = placing_nothing t ∙ ap (λ (r : Removal). placing_removal r t) (sym (removal_none i n _ h))

  module _ (h : 0 < n) where
    one_row_lem : 1 ≡ length (rows_of_removal (key_part i base n))
    one_row_lem = sym (key_rows i base n ∙ base_some n h)

    pub key_put : {t' : Tables} → room_in 1 t ≡ true → t' ≡ set_row t 0 (row i base n) → done (Sectioned 1) t' ≡ placing_removal (key_part i base n) t
    key_put r s =
        let p = single_placed i base n t h (room_in_lem 1 t r) s in
        counted_fits (key_part i base n) 1 t one_row_lem r p.state p.rows

    pub key_short : room_in 1 t ≡ false → refusing NoRoom t ≡ placing_removal (key_part i base n) t
    key_short = counted_short (key_part i base n) 1 t one_row_lem

module _ (f : Held) (n : ℕ) (t : Tables) where
  pub key_bad : proper f ≡ false → refusing BadTable t ≡ split_key f n t
  unfolding split_key leaving
  key_bad p = rw p

  pub key_proper : (i : List ℕ) → i ≡ id_of (owner_of f.head) → proper f ≡ true → placing_removal (key_part i f.head.base n) t ≡ split_key f n t
  unfolding split_key placing_removal
  key_proper i e p = rw p (ap (λ (j : List ℕ). placing_removal (key_part j f.head.base n) t) e)

-- ---- the value's bytes

module _ (i : List ℕ) (base : ℕ) (rs : List At) (n k v : ℕ) (t : Tables) (e : k ≡ length (split base rs n)) (w : v ≡ length (sections rs n)) where
  so_long : k ≡ length (rows_of_removal (value_part i base rs n))
  so_long = e ∙ sym (value_rows i base rs n)

  -- by whether they have room
  abbrev left : SplitAfter
  left = leaving t (placed_split (length (sections rs n)) (value_part i base rs n) t)

  counted : (b : Bool) → room_in k t ≡ b → room_in (length (rows_of_removal (value_part i base rs n))) t ≡ b
  counted b h = ap (λ (l : ℕ). room_in l t) (sym so_long) ∙ h

  pub value_placed : {x : Removed} {t' : Tables} → room_in k t ≡ true → PlacedRemoval (value_part i base rs n) x t t'
      → after (ok (record { removal = x; visited = v })) t' ≡ left
  unfolding leaving
  value_placed h p = rw (counted true h) (λ z. after (ok (record { removal = p.state z; visited = w z })) (p.rows z))

  pub value_short : room_in k t ≡ false → refusing NoRoom t ≡ left
  unfolding leaving
  value_short h = rw (counted false h)

module _ (f : Held) (n : ℕ) (t : Tables) where
  pub value_bad : proper f ≡ false → refusing BadTable t ≡ split_value f n t
  unfolding split_value leaving
  value_bad p = rw p

  pub value_proper : (i : List ℕ) → i ≡ id_of (owner_of f.head) → proper f ≡ true
      → leaving t (placed_split (length (sections (flags_of f).records n)) (value_part i f.head.base (flags_of f).records n) t)
      ≡ split_value f n t
  unfolding split_value
  value_proper i e p =
      let rs = (flags_of f).records in
      rw p (ap (λ (j : List ℕ). leaving t (placed_split (length (sections rs n)) (value_part j f.head.base rs n) t)) e)
