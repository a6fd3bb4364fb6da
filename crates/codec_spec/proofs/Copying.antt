-- A list that is copied into another element by element. Assumes nothing.
use Prim.Native.Nat.{ℕ, suc, ◌+◌, ◌≤◌, ◌<◌}
use native.Mathlib.Nat.{add-zero}
use native.Mathlib.Numerals.{add-one}
use native.Mathlib.Omega.{arith}
use mathlib.Core.Path.{◌≡◌, ap, ◌∙◌}
use mathlib.Core.List.{List, ◌++◌, append-nil}
use lib.ListN.{length, get_or, drop, set, drop_of_length-le}
use lib.Seq.{drop-cons}
use Rattle.fields_spec.specs.Writing.{Put}
use Rattle.fields_spec.proofs.Parts.{Parts, parts_start, parts_byte, parts_done}
use Rattle.records_spec.proofs.Tables.{over_sets}

-- the first k of xs stand at the place at
abbrev pub Copied : List ℕ → ℕ → List ℕ → ℕ → List ℕ → Type 0
Copied xs at old k new = Parts xs at old (drop k xs) (at + k) new

pub copy_start : (xs : List ℕ) (at : ℕ) (old : List ℕ) → Copied xs at old 0 old
copy_start xs at old = rw (add-zero at) (parts_start xs at old)

module _ {xs : List ℕ} {at : ℕ} {old : List ℕ} {k : ℕ} {new : List ℕ} (p : Copied xs at old k new) where
  pub copy_more : (x : ℕ) → k < length xs → x ≡ get_or xs k 0 → Copied xs at old (k + 1) (set new (at + k) x)
  copy_more x h e =
      let d : drop (k + 1) xs ≡ drop (suc k) xs = ap (λ (i : ℕ). drop i xs) (add-one k) in
      let j : at + (k + 1) ≡ at + k + 1 = omega arith in
      rw (d, j, e) (parts_byte p (drop-cons xs k 0 h))

  pub copy_done : length xs ≤ k → Put xs at (at + k) old new
  copy_done h = parts_done p (drop_of_length-le xs {i = k} h)

-- all of a list over one as long
pub copy_all : (xs old new : List ℕ) (n : ℕ) → Put xs 0 n old new → length xs ≡ length old → new ≡ xs
copy_all xs old new n p e =
    p.wrote
    ∙ over_sets xs old (omega arith)
    ∙ ap (λ (r : List ℕ). xs ++ r) (drop_of_length-le old {i = length xs} (omega arith))
    ∙ append-nil xs
