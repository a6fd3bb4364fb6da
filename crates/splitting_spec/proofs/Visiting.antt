-- The records visited from the latest down: those visited, and those that what is left asks, are all that have a section.
-- Assumes nothing.
use mathlib.Core.Path.{◌≡◌, sym, ap, ◌∙◌}
use mathlib.Core.List.{List, [], ◌∷◌}
use Prim.Native.Nat.{ℕ, ◌+◌, ◌-◌, ◌≤◌, ◌<◌, min}
use native.Mathlib.Omega.{arith}
use lib.ListN.{length, take, get_or, length-append}
use Rattle.records_spec.specs.Tables.{At, ◌⦂◌, records_of}
use Rattle.splitting_spec.specs.Sections.{minimum, asked, sections}
use Rattle.splitting_spec.specs.Inner.Visits.{visits}
use Rattle.splitting_spec.specs.declared.giving.Visited.{Visited}
use Rattle.splitting_spec.proofs.Sections.{asked_none, asked_all, sections_none, sections_end, asked_next, sections_next, first_all}

-- so many records were visited, the first j were not, and so much of n bytes is left
pub record Visiting (es cs : List ℕ) (n visited left j : ℕ) : Type 0 where
  pub even : length es ≡ length cs
  pub reached : visited + j ≡ length cs
  pub number : length (sections (records_of es cs) n) ≡ visited + length (sections (take j (records_of es cs)) left)
  pub base : asked n (records_of es cs) ≡ asked left (take j (records_of es cs))

pub visiting_start : (es cs : List ℕ) (n : ℕ) → length es ≡ length cs → Visiting es cs n 0 n (length cs)
visiting_start es cs n h =
    record {
      even = h;
      reached = omega arith;
      number = rw (first_all es cs h) (omega arith);
      base = rw (first_all es cs h);
    }

module _ {es cs : List ℕ} {n visited left j : ℕ} (v : Visiting es cs n visited left j) where
  pub visiting_step : (g : ℕ) → 0 < j → 0 < left → g ≡ min left (get_or cs (j - 1) 0 - minimum) → Visiting es cs n (visited + 1) (left - g) (j - 1)
  visiting_step g p q e =
      let he : j ≤ length es = omega (arith, v.even, v.reached) in
      let hc : j ≤ length cs = omega (arith, v.reached) in
      let l = ap (length {A = At}) (sections_next es cs j left g p he hc q e)
      ∙ length-append (sections (take (j - 1) (records_of es cs)) (left - g)) (get_or es (j - 1) 0 ⦂ g ∷ []) in
      record {
        even = v.even;
        reached = omega (arith, v.reached);
        number = omega (arith, v.number, l);
        base = v.base ∙ asked_next es cs j left g p he hc q e;
      }

  told : length (sections (take j (records_of es cs)) left) ≡ 0 → asked left (take j (records_of es cs)) ≡ left
      → ◌≡◌ {A = Visited} (record { records = visited; left = left }) (visits (records_of es cs) n)
  told p q =
      let a : visited ≡ length (sections (records_of es cs) n) = omega (arith, v.number, p) in
      let b : left ≡ asked n (records_of es cs) = sym (v.base ∙ q) in
      rw (← a, ← b)

  -- nothing is left
  pub visiting_none : left ≡ 0 → ◌≡◌ {A = Visited} (record { records = visited; left = left }) (visits (records_of es cs) n)
  visiting_none h =
      told (ap (λ (m : ℕ). length (sections (take j (records_of es cs)) m)) h ∙ ap (length {A = At}) (sections_none (take j (records_of es cs))))
      (ap (λ (m : ℕ). asked m (take j (records_of es cs))) h ∙ asked_none (take j (records_of es cs)) ∙ sym h)

  -- no record is left
  pub visiting_end : j ≡ 0 → ◌≡◌ {A = Visited} (record { records = visited; left = left }) (visits (records_of es cs) n)
  visiting_end h =
      told (ap (λ (i : ℕ). length (sections (take i (records_of es cs)) left)) h ∙ ap (length {A = At}) (sections_end left))
      (ap (λ (i : ℕ). asked left (take i (records_of es cs))) h ∙ asked_all left)
