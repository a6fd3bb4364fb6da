-- Walks over slices from the back, one or two at once: the item after k turns is the last of the j that are left. Assumes nothing.
use Rattle.std.proofs.Common.{◌≡◌, ℕ, ◌+◌, ◌-◌, ◌<◌, List, length, get_or, reverse, arith, ap, ◌∙◌}
use Rattle.std.specs.List.{zip}
use Rattle.std.proofs.lemmas.List.{get_or-reverse, length-reverse, get_or_default}
use Rattle.std.proofs.lemmas.Slice.Zip.{length-zip, get_or-zip}

pub item_from_back : (xs : List ℕ) (k j x : ℕ) → k + j ≡ length xs → (k < length (reverse xs)) × (x ≡ get_or (reverse xs) k x)
    → (0 < j) × (x ≡ get_or xs (j - 1) 0)
item_from_back xs k j x e t =
    let h : k < length xs = omega (arith, length-reverse xs) in
    let same : length xs - 1 - k ≡ j - 1 = omega arith in
    (omega arith, t.1 ∙ get_or-reverse xs k x h ∙ rw same (get_or_default xs _ x 0 (omega arith)))

module _ (xs ys : List ℕ) (k j : ℕ) where
  pub no_pair_left : length xs ≡ length ys → k + j ≡ length ys → k ≡ length (zip (reverse xs) (reverse ys)) → j ≡ 0
  no_pair_left even e end = omega (arith, length-zip (reverse xs) (reverse ys), length-reverse xs, length-reverse ys)

  pub pair_from_back : (x y : ℕ) → length xs ≡ length ys → k + j ≡ length ys
      → (k < length (zip (reverse xs) (reverse ys))) × ((x, y) ≡ get_or (zip (reverse xs) (reverse ys)) k (x, y))
      → (0 < j) × (x ≡ get_or xs (j - 1) 0) × (y ≡ get_or ys (j - 1) 0)
  pair_from_back x y even e t =
      let n = length-zip (reverse xs) (reverse ys) in
      let h : k < length (reverse xs) = omega arith in
      let i : k < length (reverse ys) = omega arith in
      let both = t.1 ∙ get_or-zip (reverse xs) (reverse ys) k (x, y) h i in
      let first = item_from_back xs k j x (omega arith) (h, ap (λ (p : ℕ × ℕ). p.0) both) in
      let second = item_from_back ys k j y e (i, ap (λ (p : ℕ × ℕ). p.1) both) in
      (first.0, first.1, second.1)
