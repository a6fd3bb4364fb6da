-- How many rows a split makes: one for each record visited, at most one more than there are records, and one at the base where it is asked.
-- Assumes nothing.
use mathlib.Core.Path.{◌≡◌, refl, sym, ap}
use mathlib.Core.List.{List, [], ◌∷◌}
use Prim.Native.Nat.{ℕ, zero, suc, ◌+◌, ◌≤◌, ◌<◌}
use native.Mathlib.Omega.{arith}
use lib.ListN.{length, length-append}
use Rattle.records_spec.specs.Tables.{At, ◌⦂◌}
use Rattle.rows_spec.specs.Removals.{rows_of_removal}
use Rattle.rows_spec.proofs.Under.{length_under}
use Rattle.splitting_spec.specs.Sections.{above, asked, section, sections, split}
use Rattle.splitting_spec.specs.Inner.Visits.{rows_at_base}
use Rattle.splitting_spec.specs.Calls.{key_part, value_part}
use Rattle.splitting_spec.proofs.Sections.{split_none}

-- ---- one section

pub base_none : (n : ℕ) → n ≡ 0 → rows_at_base n ≡ 0
base_none n h = ap rows_at_base h

pub base_some : (n : ℕ) → 0 < n → rows_at_base n ≡ 1
base_some zero h = absurd (omega arith)
base_some (suc n) h = refl

section_long : (e n most : ℕ) → length (section e n most) ≡ rows_at_base n
unfolding section
section_long e zero most = refl
section_long e (suc n) most = refl

pub base_short : (n : ℕ) → rows_at_base n ≤ 1
base_short zero = omega arith
base_short (suc n) = omega arith

-- ---- all

pub sections_short : (rs : List At) (n : ℕ) → length (sections rs n) ≤ length rs
unfolding sections
sections_short [] n = omega arith
sections_short (r ∷ rs) n =
    omega (
      arith,
      length-append (section r.epoch (asked n rs) (above r)) (sections rs n),
      section_long r.epoch (asked n rs) (above r),
      base_short (asked n rs),
      sections_short rs n,
    )

pub split_long : (base : ℕ) (rs : List At) (n : ℕ) → length (split base rs n) ≡ length (sections rs n) + rows_at_base (asked n rs)
unfolding split
split_long base rs n =
    omega (arith, length-append (section base (asked n rs) (asked n rs)) (sections rs n), section_long base (asked n rs) (asked n rs))

-- at most one more than there are records
pub split_short : (base : ℕ) (rs : List At) (n : ℕ) → length (split base rs n) ≤ length rs + 1
split_short base rs n = omega (arith, split_long base rs n, sections_short rs n, base_short (asked n rs))

-- ---- the rows of the two removals

pub key_rows : (i : List ℕ) (base n : ℕ) → length (rows_of_removal (key_part i base n)) ≡ rows_at_base n
key_rows i base zero = refl
key_rows i base (suc n) = length_under i (base ⦂ suc n ∷ [])

pub value_rows : (i : List ℕ) (base : ℕ) (rs : List At) (n : ℕ) → length (rows_of_removal (value_part i base rs n)) ≡ length (split base rs n)
value_rows i base rs zero = sym (ap (length {A = At}) (split_none base rs))
value_rows i base rs (suc n) = length_under i (split base rs (suc n))
