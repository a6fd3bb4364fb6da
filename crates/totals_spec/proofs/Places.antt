-- The place of a row among ascending rows: those before it are below, those from it on are not. And the total that stands there.
-- Assumes nothing.
use mathlib.Core.Path.{◌≡◌, refl, sym, ap, ◌∙◌}
use mathlib.Core.Bool.{true, false, cond}
use mathlib.Core.List.{List, [], ◌∷◌}
use Prim.Native.Nat.{ℕ, zero, suc, ◌+◌, ◌-◌, ◌≤◌, ◌<◌, zero-le, suc-le-suc}
use native.Mathlib.Omega.{arith}
use lib.ListN.{length, drop, get_or, length-drop, drop_of_length-le}
use lib.Seq.{drop-drop}
use Rattle.rows_spec.specs.Order.{is_less}
use Rattle.rows_spec.specs.Rows.{Row, compared, ascends, Tables, rows_in, row_at}
use Rattle.std.specs.declared.cmp.Ordering.{Ordering}
use Rattle.std.specs.declared.cmp.Ordering.TheVariants.{Less, Equal, Greater}
use Rattle.rows_spec.proofs.Comparing.{less_trans, flipped}
use Rattle.rows_spec.proofs.Rows.{is_less_lem, asc_before, asc_tail, asc_drop, length_rows, rows_on}
use Rattle.totals_spec.specs.Table.{total_at}
use Rattle.totals_spec.specs.Inner.Steps.{place_in, rows_between, spot_in, Standing}
use Rattle.totals_spec.proofs.Totals.{total_none, total_at_lem, total_before}

-- ---- in a list

none_there : {A : Type 0} {b : Row} {m : List Row} (j : ℕ) → drop j [] ≡ b ∷ m → A
none_there zero e = let l = ap (length {A = Row}) e in absurd (omega arith)
none_there (suc j) e = let l = ap (length {A = Row}) e in absurd (omega arith)

module _ (r : Row) where
  pub place_at : (b : Row) (l : List Row) (o : Ordering) → compared b r ≡ o → place_in r (b ∷ l) ≡ cond (is_less o) (suc (place_in r l)) 0
  unfolding place_in
  place_at b l o e = ap (λ (p : Ordering). cond (is_less p) (suc (place_in r l)) 0) e

  pub place_within : (l : List Row) → place_in r l ≤ length l
  unfolding place_in
  place_within [] = zero-le
  place_within (b ∷ l) = go (compared b r) refl (place_within l)
    where
      go : (o : Ordering) → compared b r ≡ o → place_in r l ≤ length l → place_in r (b ∷ l) ≤ suc (length l)
      go Less e ih = rw (place_at b l Less e) (suc-le-suc ih)
      go Equal e ih = rw (place_at b l Equal e) zero-le
      go Greater e ih = rw (place_at b l Greater e) zero-le

  -- a row that is not below it
  pub place_upto : (b : Row) (m l : List Row) (j : ℕ) → drop j l ≡ b ∷ m → is_less (compared b r) ≡ false → place_in r l ≤ j
  unfolding place_in
  place_upto b m [] j e h = none_there j e
  place_upto b m (x ∷ l) zero e h = let s : x ≡ b = cc in rw (s, h) zero-le
  place_upto b m (x ∷ l) (suc j) e h = go (compared x r) refl (place_upto b m l j e h)
    where
      go : (o : Ordering) → compared x r ≡ o → place_in r l ≤ j → place_in r (x ∷ l) ≤ suc j
      go Less q ih = rw (place_at x l Less q) (suc-le-suc ih)
      go Equal q ih = rw (place_at x l Equal q) zero-le
      go Greater q ih = rw (place_at x l Greater q) zero-le

  after : (x b : Row) (m l : List Row) (j : ℕ) → ascends (x ∷ l) ≡ true → drop j l ≡ b ∷ m → compared x b ≡ Less
  after x b m [] j s e = none_there j e
  after x b m (y ∷ l) zero s e = let q : y ≡ b = cc in rw q at (asc_before x (y ∷ l) s)
  after x b m (y ∷ l) (suc j) s e = less_trans x y b (asc_before x (y ∷ l) s) (after y b m l j (asc_tail x (y ∷ l) s) e)

  -- a row that is below it
  pub place_past : (b : Row) (m l : List Row) (j : ℕ) → ascends l ≡ true → drop j l ≡ b ∷ m → compared b r ≡ Less → j < place_in r l
  unfolding place_in
  place_past b m [] j s e h = none_there j e
  place_past b m (x ∷ l) zero s e h = let q : x ≡ b = cc in rw (q, h) (suc-le-suc zero-le)
  place_past b m (x ∷ l) (suc j) s e h =
      rw (less_trans x b r (after x b m l j s e) h) (suc-le-suc (place_past b m l j (asc_tail x l s) e h))

  -- what stands before its place is another's
  total_found : (l : List Row) → total_at r l ≡ total_at r (drop (place_in r l) l)
  unfolding place_in total_at
  total_found [] = refl
  total_found (b ∷ l) = go (compared b r) refl (total_found l)
    where
      go : (o : Ordering) → compared b r ≡ o → total_at r l ≡ total_at r (drop (place_in r l) l)
          → total_at r (b ∷ l) ≡ total_at r (drop (place_in r (b ∷ l)) (b ∷ l))
      go Less e ih = rw (flipped b r Less e, e) ih
      go Equal e ih = rw e
      go Greater e ih = rw e

-- ---- in tables

module _ {from upto : ℕ} {t : Tables} (s : Standing from upto t) where
  length_between : length (rows_between from upto t) ≡ upto - from
  length_between = length-drop from (rows_in upto t) ∙ rw (length_rows s.room)

  row_there : (i : ℕ) → from ≤ i → i < upto → drop (i - from) (rows_between from upto t) ≡ row_at t i ∷ drop (i + 1) (rows_in upto t)
  row_there i h k =
      let e : from + (i - from) ≡ i = omega arith in
      drop-drop (i - from) from (rows_in upto t) ∙ rw e (rows_on s.room i k)

  module _ (r : Row) where
    pub found_within : from + place_in r (rows_between from upto t) ≤ upto
    found_within = omega (arith, s.within, length_between, place_within r (rows_between from upto t))

    -- the row at i is below it
    pub found_past : (i : ℕ) → from ≤ i → i < upto → is_less (compared (row_at t i) r) ≡ true → i < from + place_in r (rows_between from upto t)
    found_past i h k e =
        omega (
          arith,
          place_past r (row_at t i) _ (rows_between from upto t) (i - from) s.rises (row_there i h k)
              (is_less_lem (compared (row_at t i) r) e),
        )

    -- it is not
    pub found_upto : (i : ℕ) → from ≤ i → i < upto → is_less (compared (row_at t i) r) ≡ false → from + place_in r (rows_between from upto t) ≤ i
    found_upto i h k e = omega (arith, place_upto r (row_at t i) _ (rows_between from upto t) (i - from) (row_there i h k) e)

    -- ---- the total at the place

    module _ (p : ℕ) (e : p ≡ from + place_in r (rows_between from upto t)) where
      spot : (n : ℕ) → n ≡ total_at r (rows_between from upto t) → record { place = p; total = n } ≡ spot_in from r (rows_between from upto t)
      spot n h = λ i. record { place = e i; total = h i }

      total_there : p < upto → total_at r (rows_between from upto t) ≡ total_at r (row_at t p ∷ drop (p + 1) (rows_in upto t))
      total_there k =
          let q : place_in r (rows_between from upto t) ≡ p - from = omega arith in
          total_found r (rows_between from upto t) ∙ rw (q, row_there p (omega arith) k)

      pub spot_less : p < upto → compared (row_at t p) r ≡ Less → record { place = p; total = 0 } ≡ spot_in from r (rows_between from upto t)
      spot_less k h = absurd (omega (arith, found_past p (omega arith) k (ap is_less h)))

      pub spot_equal : p < upto → compared (row_at t p) r ≡ Equal
          → record { place = p; total = get_or t.bytes p 0 } ≡ spot_in from r (rows_between from upto t)
      spot_equal k h = spot (get_or t.bytes p 0)
          (sym (total_there k ∙ total_at_lem r (row_at t p) (drop (p + 1) (rows_in upto t)) Equal (flipped (row_at t p) r Equal h)))

      pub spot_greater : p < upto → compared (row_at t p) r ≡ Greater → record { place = p; total = 0 } ≡ spot_in from r (rows_between from upto t)
      spot_greater k h =
          let a : ascends (row_at t p ∷ drop (p + 1) (rows_in upto t))
          ≡ true = rw (← row_there p (omega arith) k) (asc_drop (rows_between from upto t) (p - from) s.rises) in
          spot 0 (sym (total_there k ∙ total_before r (row_at t p ∷ drop (p + 1) (rows_in upto t)) (flipped (row_at t p) r Greater h) a))

      pub spot_end : upto ≤ p → record { place = p; total = 0 } ≡ spot_in from r (rows_between from upto t)
      spot_end k =
          let l : length (rows_between from upto t) ≤ place_in r (rows_between from upto t) = omega (arith, length_between) in
          spot 0 (sym (total_found r (rows_between from upto t) ∙ ap (total_at r) (drop_of_length-le (rows_between from upto t) l) ∙ total_none r))
