-- The sections of a split: none where nothing is asked, those at the last record behind those at the others. So a pass from the latest
-- record down finds them one after another.
-- Assumes nothing.
use mathlib.Core.Path.{◌≡◌, refl, sym, ◌∙◌}
use mathlib.Core.List.{List, [], ◌∷◌, ◌++◌, append-nil, append_assoc}
use Prim.Native.Nat.{ℕ, zero, suc, ◌+◌, ◌-◌, ◌≤◌, ◌<◌, min}
use native.Mathlib.Omega.{arith}
use lib.ListN.{length, take, get_or}
use lib.Seq.{take_all}
use Rattle.records_spec.specs.Tables.{At, ◌⦂◌, records_of}
use Rattle.records_spec.proofs.Tables.{first_last, length_records_of}
use Rattle.splitting_spec.specs.Sections.{minimum, above, spare, asked, section, sections, split}

-- ---- one section

pub section_none : (e most : ℕ) → section e 0 most ≡ []
unfolding section
section_none e most = refl

pub section_one : (e n most : ℕ) → 0 < n → section e n most ≡ e ⦂ min n most ∷ []
unfolding section
section_one e zero most p = absurd (omega arith)
section_one e (suc n) most p = refl

-- the base's section, and those at the records
pub split_parts : (base : ℕ) (rs : List At) (n : ℕ) → split base rs n ≡ section base (asked n rs) (asked n rs) ++ sections rs n
unfolding split
split_parts base rs n = refl

-- ---- nothing is asked

pub asked_none : (rs : List At) → asked 0 rs ≡ 0
asked_none rs = omega arith

pub sections_none : (rs : List At) → sections rs 0 ≡ []
unfolding sections
sections_none [] = refl
sections_none (r ∷ rs) = rw (asked_none rs, section_none) (sections_none rs)

pub split_none : (base : ℕ) (rs : List At) → split base rs 0 ≡ []
unfolding split
split_none base rs = rw (asked_none rs, section_none) (sections_none rs)

-- ---- no records

pub asked_all : (n : ℕ) → asked n [] ≡ n
unfolding spare
asked_all n = omega arith

pub sections_end : (n : ℕ) → sections [] n ≡ []
unfolding sections
sections_end n = refl

pub split_base : (base n : ℕ) → split base [] n ≡ section base n n
unfolding split
split_base base n = rw (asked_all n, sections_end n) (append-nil (section base n n))

-- ---- the last record

pub spare_append : (xs ys : List At) → spare (xs ++ ys) ≡ spare xs + spare ys
unfolding spare
spare_append [] ys = omega arith
spare_append (x ∷ xs) ys = omega (arith, spare_append xs ys)

sections_append : (xs ys : List At) (n : ℕ) → sections (xs ++ ys) n ≡ sections xs (asked n ys) ++ sections ys n
unfolding sections
sections_append [] ys n = refl
sections_append (x ∷ xs) ys n =
    let z : n - spare (xs ++ ys) ≡ n - spare ys - spare xs = omega (arith, spare_append xs ys) in
    rw (z, sections_append xs ys n, append_assoc)

sections_alone : (r : At) (n : ℕ) → sections (r ∷ []) n ≡ section r.epoch n (above r)
unfolding sections spare
sections_alone r n = let z : n - 0 ≡ n = omega arith in rw z (append-nil (section r.epoch n (above r)))

module _ (rs : List At) (r : At) (n : ℕ) where
  -- the others are asked what the last leaves
  pub asked_last : asked n (rs ++ (r ∷ [])) ≡ asked (n - min n (above r)) rs
  unfolding spare
  asked_last = omega (arith, spare_append rs (r ∷ []))

  pub sections_last : sections (rs ++ (r ∷ [])) n ≡ sections rs (n - min n (above r)) ++ section r.epoch n (above r)
  unfolding spare
  sections_last =
      let z : n - (above r + 0) ≡ n - min n (above r) = omega arith in
      sections_append rs (r ∷ []) n ∙ rw (sections_alone r n, z)

  pub split_last : (base : ℕ) → split base (rs ++ (r ∷ [])) n ≡ split base rs (n - min n (above r)) ++ section r.epoch n (above r)
  unfolding split
  split_last base = rw (asked_last, sections_last)
      (sym (append_assoc (section base (asked (n - min n (above r)) rs) (asked (n - min n (above r)) rs)) (sections rs (n - min n (above r)))
      (section r.epoch n (above r))))

-- ---- the records of two tables, the last of the first j

module _ (es cs : List ℕ) (j n g : ℕ) (p : 0 < j) (he : j ≤ length es) (hc : j ≤ length cs) (q : 0 < n)
    (e : g ≡ min n (get_or cs (j - 1) 0 - minimum)) where
  -- the record there gives g
  pub asked_next : asked n (take j (records_of es cs)) ≡ asked (n - g) (take (j - 1) (records_of es cs))
  asked_next = rw (first_last es cs j p he hc, e) (asked_last (take (j - 1) (records_of es cs)) (get_or es (j - 1) 0 ⦂ get_or cs (j - 1) 0) n)

  pub sections_next : sections (take j (records_of es cs)) n ≡ sections (take (j - 1) (records_of es cs)) (n - g) ++ (get_or es (j - 1) 0 ⦂ g ∷ [])
  sections_next =
      rw (first_last es cs j p he hc, e)
      (sections_last (take (j - 1) (records_of es cs)) (get_or es (j - 1) 0 ⦂ get_or cs (j - 1) 0) n
      ∙ rw (section_one (get_or es (j - 1) 0) n (get_or cs (j - 1) 0 - minimum) q))

  pub split_next : (base : ℕ) → split base (take j (records_of es cs)) n
      ≡ split base (take (j - 1) (records_of es cs)) (n - g) ++ (get_or es (j - 1) 0 ⦂ g ∷ [])
  split_next base =
      rw (first_last es cs j p he hc, e)
      (split_last (take (j - 1) (records_of es cs)) (get_or es (j - 1) 0 ⦂ get_or cs (j - 1) 0) n base
      ∙ rw (section_one (get_or es (j - 1) 0) n (get_or cs (j - 1) 0 - minimum) q))

-- all of them are the first as many as there are
pub first_all : (es cs : List ℕ) → length es ≡ length cs → take (length cs) (records_of es cs) ≡ records_of es cs
first_all es cs h = take_all (length cs) (records_of es cs) (omega (arith, length_records_of es cs h))
