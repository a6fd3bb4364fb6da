-- Sections sum to the amount: at the records what they can give, at the base the rest.
-- Assumes nothing.
use mathlib.Core.Path.{◌≡◌, refl, sym, ◌∙◌}
use mathlib.Core.List.{List, [], ◌∷◌}
use Prim.Native.Nat.{ℕ, zero, suc, ◌-◌, ◌<◌, min}
use native.Mathlib.Omega.{arith}
use native.Mathlib.Decide.{dec_lt}
use lib.Dec.{ltb}
use borrow.Author.Tests.{lt-ltb, le-ltb}
use Rattle.records_spec.specs.Tables.{At}
use Rattle.rows_spec.specs.Rows.{rows_under}
use Rattle.rows_spec.specs.Removals.{total_rows, total}
use Rattle.rows_spec.proofs.Under.{total_none, total_one, total_append}
use Rattle.splitting_spec.specs.Sections.{above, spare, asked, section, sections, split}
use Rattle.splitting_spec.specs.Calls.{key_part, value_part}

module _ (i : List ℕ) where
  section_sum : (e n most : ℕ) → total_rows (rows_under i (section e n most)) ≡ min n most
  unfolding section
  section_sum e zero most = total_none i ∙ omega arith
  section_sum e (suc n) most = total_one i e (min (suc n) most)

  -- the records give as much as they can
  pub sections_sum : (rs : List At) (n : ℕ) → total_rows (rows_under i (sections rs n)) ≡ min n (spare rs)
  unfolding sections spare
  sections_sum [] n = total_none i ∙ omega arith
  sections_sum (r ∷ rs) n =
      omega (
        arith,
        total_append i (section r.epoch (asked n rs) (above r)) (sections rs n),
        section_sum r.epoch (asked n rs) (above r),
        sections_sum rs n,
      )

  -- and the base the rest
  pub split_sum : (base : ℕ) (rs : List At) (n : ℕ) → total_rows (rows_under i (split base rs n)) ≡ n
  unfolding split
  split_sum base rs n =
      omega (
        arith,
        total_append i (section base (asked n rs) (asked n rs)) (sections rs n),
        section_sum base (asked n rs) (asked n rs),
        sections_sum rs n,
      )

  -- earlier epochs are asked for something exactly if the records gave less than was asked
  pub gave_less : (rs : List At) (n : ℕ) → ltb 0 (asked n rs) ≡ ltb (total_rows (rows_under i (sections rs n))) n
  gave_less rs n = by (dec_lt (spare rs) n)
    where
      by : Dec (spare rs < n) → ltb 0 (asked n rs) ≡ ltb (total_rows (rows_under i (sections rs n))) n
      by (yes p) = lt-ltb 0 (asked n rs) (omega arith) ∙ sym (lt-ltb (total_rows (rows_under i (sections rs n))) n (omega (arith, sections_sum rs n)))
      by (no p) = le-ltb 0 (asked n rs) (omega arith) ∙ sym (le-ltb (total_rows (rows_under i (sections rs n))) n (omega (arith, sections_sum rs n)))

  -- both removals come to what was removed
  pub key_sum : (base n : ℕ) → total (key_part i base n) ≡ n
  key_sum base zero = refl
  key_sum base (suc n) = total_one i base (suc n)

  pub value_sum : (base : ℕ) (rs : List At) (n : ℕ) → total (value_part i base rs n) ≡ n
  value_sum base rs zero = refl
  value_sum base rs (suc n) = split_sum base rs (suc n)
