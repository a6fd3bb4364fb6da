-- The sections of ascending records above the base ascend, and so do their rows. Those beside the base are the records' own, so the
-- records visited are as many.
-- Assumes nothing.
use mathlib.Core.Path.{◌≡◌, refl, sym, ap, ◌∙◌}
use mathlib.Core.Bool.{true}
use mathlib.Core.List.{List, [], ◌∷◌, ◌++◌}
use Prim.Native.Nat.{ℕ, zero, suc, ◌≤◌, ◌<◌}
use native.Mathlib.Omega.{arith}
use lib.ListN.{length}
use borrow.Author.Tests.{eq-eqb, ne_eqb}
use Rattle.records_spec.specs.Tables.{At, epochs_of, ascending, rising}
use Rattle.records_spec.proofs.Rising.{asc_none, asc_head, asc_tail, asc_cons, asc_lower, asc_rises}
use Rattle.rows_spec.specs.Rows.{row, parts_of, rows_under, ascends}
use Rattle.rows_spec.specs.Removals.{rows_of_removal}
use Rattle.rows_spec.proofs.Rows.{asc_none as asc-no-rows, asc_cons as asc-row}
use Rattle.rows_spec.proofs.Under.{under_one, parts_under, asc_under}
use Rattle.splitting_spec.specs.Sections.{above, asked, section, sections, split, beside_base}
use Rattle.splitting_spec.specs.Calls.{key_part, value_part}
use Rattle.splitting_spec.proofs.Sections.{split_none}

-- a section before sections that ascend from its epoch
section_before : (b e n most : ℕ) (ss : List At) → b < e → ascending e (epochs_of ss) ≡ true → ascending b (epochs_of (section e n most ++ ss)) ≡ true
unfolding section epochs_of
section_before b e zero most ss p h = asc_lower b e (epochs_of ss) (omega arith) h
section_before b e (suc n) most ss p h = asc_cons b e (epochs_of ss) p h

pub sections_ascend : (b : ℕ) (rs : List At) (n : ℕ) → ascending b (epochs_of rs) ≡ true → ascending b (epochs_of (sections rs n)) ≡ true
unfolding sections epochs_of
sections_ascend b [] n h = asc_none b
sections_ascend b (r ∷ rs) n h =
    section_before b r.epoch (asked n rs) (above r) (sections rs n) (asc_head b r.epoch (epochs_of rs) h)
    (sections_ascend r.epoch rs n (asc_tail b r.epoch (epochs_of rs) h))

-- the base's section, if there is one, comes first
section_first : (b n most : ℕ) (ss : List At) → ascending b (epochs_of ss) ≡ true → rising (epochs_of (section b n most ++ ss)) ≡ true
unfolding section epochs_of rising
section_first b zero most ss h = asc_rises b (epochs_of ss) h
section_first b (suc n) most ss h = h

module _ (base : ℕ) (rs : List At) (n : ℕ) (h : ascending base (epochs_of rs) ≡ true) where
  pub split_ascends : rising (epochs_of (split base rs n)) ≡ true
  unfolding split
  split_ascends = section_first base (asked n rs) (asked n rs) (sections rs n) (sections_ascend base rs n h)

  pub rows_ascend : (i : List ℕ) → ascends (rows_under i (split base rs n)) ≡ true
  rows_ascend i = asc_under i (split base rs n) split_ascends

-- ---- the sections beside the base

beside_all : (base b : ℕ) (ss : List At) → base ≤ b → ascending b (epochs_of ss) ≡ true → beside_base base ss ≡ ss
unfolding beside_base epochs_of
beside_all base b [] p h = refl
beside_all base b (s ∷ ss) p h =
    let q = asc_head b s.epoch (epochs_of ss) h in
    rw (ne_eqb s.epoch base (λ e. omega arith), beside_all base s.epoch ss (omega arith) (asc_tail b s.epoch (epochs_of ss) h))

beside_section : (base n most : ℕ) (ss : List At) → beside_base base (section base n most ++ ss) ≡ beside_base base ss
unfolding beside_base section
beside_section base zero most ss = refl
beside_section base (suc n) most ss = rw (eq-eqb base base refl)

module _ (base : ℕ) (rs : List At) (n : ℕ) (h : ascending base (epochs_of rs) ≡ true) where
  -- the sections of a split that do not stand at the base are those at the records
  pub split_beside : beside_base base (split base rs n) ≡ sections rs n
  unfolding split
  split_beside = beside_section base (asked n rs) (asked n rs) (sections rs n)
      ∙ beside_all base base (sections rs n) (omega arith) (sections_ascend base rs n h)

-- ---- the two removals

pub key_ascends : (i : List ℕ) (base n : ℕ) → ascends (rows_of_removal (key_part i base n)) ≡ true
key_ascends i base zero = asc-no-rows
key_ascends i base (suc n) = rw (under_one i base (suc n)) (asc-row (row i base (suc n)) [] tt asc-no-rows)

pub value_ascends : (i : List ℕ) (base : ℕ) (rs : List At) (n : ℕ) → ascending base (epochs_of rs) ≡ true
    → ascends (rows_of_removal (value_part i base rs n)) ≡ true
value_ascends i base rs zero h = asc-no-rows
value_ascends i base rs (suc n) h = rows_ascend base rs (suc n) h i

-- the sections of the value's
pub value_parts : (i : List ℕ) (base : ℕ) (rs : List At) (n : ℕ) → parts_of (rows_of_removal (value_part i base rs n)) ≡ split base rs n
unfolding parts_of
value_parts i base rs zero = sym (split_none base rs)
value_parts i base rs (suc n) = parts_under i (split base rs (suc n))

-- so many records are visited as it has sections beside the base
pub visited_beside : (i : List ℕ) (base : ℕ) (rs : List At) (n : ℕ) → ascending base (epochs_of rs) ≡ true
    → length (sections rs n) ≡ length (beside_base base (parts_of (rows_of_removal (value_part i base rs n))))
visited_beside i base rs n h = ap (length {A = At}) (sym (ap (beside_base base) (value_parts i base rs n) ∙ split_beside base rs n h))
