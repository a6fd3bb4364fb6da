-- Sections under one identifier: as many rows, appended as the sections are. They ascend where the epochs rise.
-- Assumes nothing.
use mathlib.Core.Path.{◌≡◌, refl, ap, ◌∙◌}
use mathlib.Core.Bool.{true}
use mathlib.Core.List.{List, [], ◌∷◌, ◌++◌}
use Prim.Native.Nat.{ℕ, suc, ◌+◌}
use native.Mathlib.Omega.{arith}
use lib.ListN.{length}
use Rattle.records_spec.specs.Tables.{At, ◌⦂◌, epochs_of, ascending, rising}
use Rattle.records_spec.proofs.Rising.{asc_head, asc_tail}
use Rattle.rows_spec.specs.Rows.{Row, row, parts_of, rows_under, ascends}
use Rattle.rows_spec.specs.Removals.{total_rows}
use Rattle.rows_spec.proofs.Comparing.{by_less, compared_under}
use Rattle.rows_spec.proofs.Rows.{Before, asc_none, asc_cons}
use Rattle.std.specs.declared.cmp.Ordering.TheVariants.{Equal}

module _ (i : List ℕ) where
  pub under_none : rows_under i [] ≡ []
  unfolding rows_under
  under_none = refl

  pub under_cons : (s : At) (ss : List At) → rows_under i (s ∷ ss) ≡ record { identifier = i; part = s } ∷ rows_under i ss
  unfolding rows_under
  under_cons s ss = refl

  pub under_one : (e n : ℕ) → rows_under i (e ⦂ n ∷ []) ≡ row i e n ∷ []
  unfolding rows_under
  under_one e n = refl

  pub under_append : (ss us : List At) → rows_under i (ss ++ us) ≡ rows_under i ss ++ rows_under i us
  unfolding rows_under
  under_append [] us = refl
  under_append (s ∷ ss) us = rw (under_append ss us)

  -- one section more
  pub under_last : (ss : List At) (e n : ℕ) → rows_under i (ss ++ (e ⦂ n ∷ [])) ≡ rows_under i ss ++ (row i e n ∷ [])
  under_last ss e n = under_append ss (e ⦂ n ∷ []) ∙ ap (λ (l : List Row). rows_under i ss ++ l) (under_one e n)

  pub length_under : (ss : List At) → length (rows_under i ss) ≡ length ss
  unfolding rows_under
  length_under [] = refl
  length_under (s ∷ ss) = ap suc (length_under ss)

  -- the sections back
  pub parts_under : (ss : List At) → parts_of (rows_under i ss) ≡ ss
  unfolding rows_under parts_of
  parts_under [] = refl
  parts_under (s ∷ ss) = rw (parts_under ss)

  -- ---- what they come to

  pub total_none : total_rows (rows_under i []) ≡ 0
  unfolding rows_under total_rows
  total_none = refl

  pub total_one : (e n : ℕ) → total_rows (rows_under i (e ⦂ n ∷ [])) ≡ n
  unfolding rows_under total_rows
  total_one e n = omega arith

  pub total_append : (ss us : List At) → total_rows (rows_under i (ss ++ us)) ≡ total_rows (rows_under i ss) + total_rows (rows_under i us)
  unfolding rows_under total_rows
  total_append [] us = omega arith
  total_append (s ∷ ss) us = omega (arith, total_append ss us)

  -- ---- in order

  before_under : (s : At) (ss : List At) → ascending s.epoch (epochs_of ss) ≡ true → Before (record { identifier = i; part = s }) (rows_under i ss)
  unfolding rows_under epochs_of
  before_under s [] h = tt
  before_under s (u ∷ ss) h = compared_under i s.epoch u.epoch s.bytes u.bytes
      ∙ by_less s.epoch u.epoch Equal (asc_head s.epoch u.epoch (epochs_of ss) h)

  asc_above : (b : ℕ) (ss : List At) → ascending b (epochs_of ss) ≡ true → ascends (rows_under i ss) ≡ true
  unfolding rows_under epochs_of
  asc_above b [] h = asc_none
  asc_above b (s ∷ ss) h =
      let t = asc_tail b s.epoch (epochs_of ss) h in
      asc_cons (record { identifier = i; part = s }) (rows_under i ss) (before_under s ss t) (asc_above s.epoch ss t)

  pub asc_under : (ss : List At) → rising (epochs_of ss) ≡ true → ascends (rows_under i ss) ≡ true
  unfolding rising rows_under epochs_of
  asc_under [] h = asc_none
  asc_under (s ∷ ss) h = asc_cons (record { identifier = i; part = s }) (rows_under i ss) (before_under s ss h) (asc_above s.epoch ss h)
