-- A removal's rows placed from the back: one at the base; or one for each record that is asked, from the latest down, then one at the base
-- if bytes are left for it. What is still to be placed is the split of what is left over the records that were not asked yet.
-- Assumes nothing.
use mathlib.Core.Path.{◌≡◌, refl, sym, ap, subst, ◌∙◌}
use mathlib.Core.List.{List, [], ◌∷◌, ◌++◌}
use Prim.Native.Nat.{ℕ, zero, suc, ◌+◌, ◌-◌, ◌≤◌, ◌<◌, min}
use native.Mathlib.Omega.{arith}
use lib.ListN.{length, take, get_or}
use Rattle.records_spec.specs.Tables.{At, ◌⦂◌, records_of}
use Rattle.rows_spec.specs.Rows.{Row, row, rows_under, Tables, over_rows, set_row, Room}
use Rattle.rows_spec.specs.Removals.{Removal, nothing, sectioned, rows_of_removal, state_of}
use Rattle.rows_spec.specs.declared.removed.Removed.TheVariants.{None, Sectioned}
use Rattle.rows_spec.proofs.Columns.{over_nothing}
use Rattle.rows_spec.proofs.Backing.{Backing, backing_start, backing_room, backing_step, backing_done}
use Rattle.rows_spec.proofs.Under.{under_none, under_one, under_last, length_under}
use Rattle.splitting_spec.specs.Sections.{minimum, split}
use Rattle.splitting_spec.specs.Calls.{removal_under, key_part, value_part, PlacedRemoval}
use Rattle.splitting_spec.proofs.Sections.{section_one, split_none, split_base, split_next, first_all}

-- ---- removals

pub removal_none : (i : List ℕ) (n : ℕ) (ss : List At) → n ≡ 0 → removal_under i n ss ≡ nothing
removal_none i n ss h = ap (λ (m : ℕ). removal_under i m ss) h

pub removal_some : (i : List ℕ) (n : ℕ) (ss : List At) → 0 < n → removal_under i n ss ≡ sectioned (rows_under i ss)
removal_some i zero ss h = absurd (omega arith)
removal_some i (suc n) ss h = refl

module _ (i : List ℕ) (n : ℕ) (ss : List At) (t : Tables) where
  pub nothing_placed : n ≡ 0 → PlacedRemoval (removal_under i n ss) None t t
  nothing_placed h =
      let e = removal_none i n ss h in
      record { state = sym (ap state_of e); rows = sym (over_nothing t) ∙ ap (λ (r : Removal). over_rows (rows_of_removal r) t) (sym e) }

  pub rows_placed : {t' : Tables} → 0 < n → (k : ℕ) → k ≡ length ss → t' ≡ over_rows (rows_under i ss) t
      → PlacedRemoval (removal_under i n ss) (Sectioned k) t t'
  rows_placed h k l p =
      let e = removal_some i n ss h in
      record {
        state = ap Sectioned (l ∙ sym (length_under i ss)) ∙ sym (ap state_of e);
        rows = p ∙ ap (λ (r : Removal). over_rows (rows_of_removal r) t) (sym e);
      }

-- ---- one row at the base

pub single_placed : (i : List ℕ) (base n : ℕ) (t : Tables) {t' : Tables} → 0 < n → Room 1 t → t' ≡ set_row t 0 (row i base n)
    → PlacedRemoval (key_part i base n) (Sectioned 1) t t'
single_placed i base n t h r s =
    let b = backing_step (backing_start (row i base n ∷ []) t r) [] (row i base n) refl s in
    rows_placed i n (base ⦂ n ∷ []) t h 1 refl (backing_done b refl ∙ ap (λ (l : List Row). over_rows l t) (sym (under_one i base n)))

-- ---- rows from the back

-- of n bytes so many are left; the first j records are not asked yet, and the first k places not filled
pub record Placing (i : List ℕ) (base : ℕ) (es cs : List ℕ) (n left j k : ℕ) (t t' : Tables) : Type 0 where
  pub even : length es ≡ length cs
  pub within : j ≤ length cs
  pub backing : Backing (rows_under i (split base (records_of es cs) n)) (rows_under i (split base (take j (records_of es cs)) left)) k t t'

pub placing_start : (i : List ℕ) (base : ℕ) (es cs : List ℕ) (n k : ℕ) (t : Tables) → length es ≡ length cs
    → k ≡ length (split base (records_of es cs) n)
    → Room k t → Placing i base es cs n n (length cs) k t t
placing_start i base es cs n k t h l r =
    let ss = split base (records_of es cs) n in
    let e : length (rows_under i ss) ≡ k = length_under i ss ∙ sym l in
    let b = backing_start (rows_under i ss) t (subst (λ (m : ℕ). Room m t) (sym e) r) in
    let f = ap (λ (rs : List At). rows_under i (split base rs n)) (sym (first_all es cs h)) in
    record {
      even = h;
      within = omega arith;
      backing = subst (λ (m : ℕ). Backing (rows_under i ss) (rows_under i (split base (take (length cs) (records_of es cs)) n)) m t t) e
          (subst (λ (l : List Row). Backing (rows_under i ss) l (length (rows_under i ss)) t t) f b);
    }

module _ {i : List ℕ} {base : ℕ} {es cs : List ℕ} {n left j k : ℕ} {t t' : Tables} (p : Placing i base es cs n left j k t t') where
  module _ (g : ℕ) (hj : 0 < j) (hl : 0 < left) (e : g ≡ min left (get_or cs (j - 1) 0 - minimum)) where
    -- the rows that are to be placed before this one
    abbrev rest : List Row
    rest = rows_under i (split base (take (j - 1) (records_of es cs)) (left - g))

    last : rows_under i (split base (take j (records_of es cs)) left) ≡ rest ++ (row i (get_or es (j - 1) 0) g ∷ [])
    last =
        ap (rows_under i) (split_next es cs j left g hj (omega (arith, p.within, p.even)) p.within hl e base)
        ∙ under_last i (split base (take (j - 1) (records_of es cs)) (left - g)) (get_or es (j - 1) 0) g

    pub placing_room : (0 < k) × Room (k - 1 + 1) t'
    placing_room = backing_room p.backing rest (row i (get_or es (j - 1) 0) g) last

    -- the row of the latest of these records is placed
    pub placing_step : {u : Tables} → u ≡ set_row t' (k - 1) (row i (get_or es (j - 1) 0) g) → Placing i base es cs n (left - g) (j - 1) (k - 1) t u
    placing_step s = record {
      even = p.even;
      within = omega (arith, p.within);
      backing = backing_step p.backing rest (row i (get_or es (j - 1) 0) g) last s;
    }

  -- nothing is left
  pub placing_none : 0 < n → (rows : ℕ) → rows ≡ length (split base (records_of es cs) n) → left ≡ 0
      → PlacedRemoval (value_part i base (records_of es cs) n) (Sectioned rows) t t'
  placing_none h rows l z =
      let e = ap (λ (m : ℕ). rows_under i (split base (take j (records_of es cs)) m)) z ∙ ap (rows_under i) (split_none base (take j (records_of es cs)))
      ∙ under_none i in
      rows_placed i n (split base (records_of es cs) n) t h rows l (backing_done p.backing e)

  -- no record is left, and the base gives the rest
  module _ (z : j ≡ 0) (hl : 0 < left) where
    alone : rows_under i (split base (take j (records_of es cs)) left) ≡ row i base left ∷ []
    alone =
        let m : min left left ≡ left = omega arith in
        ap (λ (q : ℕ). rows_under i (split base (take q (records_of es cs)) left)) z
        ∙ ap (rows_under i) (split_base base left ∙ section_one base left left hl ∙ ap (λ (q : ℕ). base ⦂ q ∷ []) m) ∙ under_one i base left

    one : k ≡ 1
    one = p.backing.reached ∙ ap (length {A = Row}) alone

    pub base_room : Room 1 t'
    base_room = let o = one in subst (λ (m : ℕ). Room m t') (omega arith) (backing_room p.backing [] (row i base left) alone).1

    pub base_placed : {u : Tables} → 0 < n → (rows : ℕ) → rows ≡ length (split base (records_of es cs) n) → u ≡ set_row t' 0 (row i base left)
        → PlacedRemoval (value_part i base (records_of es cs) n) (Sectioned rows) t u
    base_placed {u} h rows l s =
        let o = one in
        let q : 0 ≡ k - 1 = omega arith in
        let b = backing_step p.backing [] (row i base left) alone (s ∙ ap (λ (m : ℕ). set_row t' m (row i base left)) q) in
        rows_placed i n (split base (records_of es cs) n) t h rows l (backing_done b refl)
