-- Varints longer than minimal: where one ends, and what its groups say, summed from the last down and never past the first number that
-- is too large. Assumes nothing.
use Rattle.std.proofs.Common.{◌≡◌, refl, sym, ap, ◌∙◌, ℕ, suc, ◌+◌, ◌-◌, ◌*◌, ◌%◌, ◌≤◌, ◌<◌, ltb, List, [], ◌∷◌, length, get_or, take, drop, reverse}
use Rattle.std.proofs.Common.{Some, position, arith, le-leb, lt-ltb, le-ltb, drop-cons, drop_of_length-le}
use Rattle.std.proofs.Math.Decide.{dec_lt}
use Rattle.std.proofs.lemmas.List.{get_or-reverse, length-reverse, get_or_default}
use Rattle.std.specs.List.{position_or_len}
use borrow.Author.Tests.{lt-leb}
use Rattle.fields_spec.specs.Varint.{largest, high, value}
use Rattle.fields_spec.proofs.Places.{high_low, high_high, high_nil, value_cons, value_nil}
use Rattle.repair_spec.specs.Inner.Steps.{count_capped}

-- ---- where it ends

-- its last byte is the first without the top bit
pub first_low : (xs : List ℕ) → high xs < length xs → position (λ (b : ℕ). ltb b 128) xs ≡ Some (high xs)
first_low xs h =
    let m : position_or_len (λ (b : ℕ). ltb b 128) xs ≡ high xs = low_high xs in
    rw m (rw (lt-ltb (high xs) (length xs) h) refl)
  where
    low_high : (xs : List ℕ) → position_or_len (λ (b : ℕ). ltb b 128) xs ≡ high xs
    low_high [] = sym high_nil
    low_high (x ∷ xs) =
        elim (dec_lt x 128) [
          | yes l ↦ simp (lt-ltb x 128 l) (omega (arith, high_low x xs l))
          | no h ↦
              let l : 128 ≤ x = omega arith in
              simp (le-ltb x 128 l) (omega (arith, low_high xs, high_high x xs l))
        ]

-- ---- what it says

pub capped_fits : (n : ℕ) → n ≤ largest → count_capped n ≡ n
capped_fits n h = rw (le-leb n largest h)

pub capped_large : (n : ℕ) → largest < n → count_capped n ≡ suc largest
capped_large n h = rw (lt-leb n largest h)

pub capped_small : (n : ℕ) → count_capped n ≤ largest → count_capped n ≡ n
capped_small n h =
    elim (dec_lt largest n) [
      | yes l ↦ absurd (omega (arith, capped_large n l))
      | no l ↦ capped_fits n (omega arith)
    ]

pub capped_above : (n : ℕ) → largest < count_capped n → largest < n
capped_above n h =
    elim (dec_lt largest n) [
      | yes l ↦ l
      | no l ↦ absurd (omega (arith, capped_fits n (omega arith)))
    ]

-- one group more below what was capped is as if nothing had been
pub capped_turn : (n b : ℕ) → count_capped (count_capped n * 128 + b) ≡ count_capped (b + 128 * n)
capped_turn n b =
    elim (dec_lt largest n) [
      | yes h ↦
          let e = capped_large n h in
          capped_large (count_capped n * 128 + b) (omega arith) ∙ sym (capped_large (b + 128 * n) (omega arith))
      | no h ↦
          let e = capped_fits n (omega arith) in
          let s : count_capped n * 128 + b ≡ b + 128 * n = omega arith in
          ap count_capped s
    ]

-- the groups from i up to end
abbrev pub says : List ℕ → ℕ → ℕ → ℕ
says d i end = value (take (end - i) (drop i d))

-- of groups that are walked from the back, the item after k turns stands before the last k
pub group_from_back : (xs : List ℕ) (k x : ℕ) → (k < length (reverse xs)) × (x ≡ get_or (reverse xs) k x)
    → value (drop (length xs - (k + 1)) xs) ≡ x % 128 + 128 * value (drop (length xs - k) xs)
group_from_back xs k x t =
    let h : k < length xs = omega (arith, length-reverse xs) in
    let i : ℕ = length xs - (k + 1) in
    let same : length xs - 1 - k ≡ i = omega arith in
    let more : suc i ≡ length xs - k = omega arith in
    let item : x ≡ get_or xs i 0 = t.1 ∙ get_or-reverse xs k x h ∙ rw same (get_or_default xs i x 0 (omega arith)) in
    ap value (drop-cons xs i 0 (omega arith)) ∙ value_cons (get_or xs i 0) (drop (suc i) xs)
    ∙ ap (λ (y : ℕ). y % 128 + 128 * value (drop (suc i) xs)) (sym item)
    ∙ ap (λ (j : ℕ). x % 128 + 128 * value (drop j xs)) more

-- none of them are passed yet
pub capped_none : (xs : List ℕ) → count_capped (value (drop (length xs - 0) xs)) ≡ 0
capped_none xs =
    ap (λ (ys : List ℕ). count_capped (value ys)) (drop_of_length-le xs (omega arith)) ∙ ap count_capped value_nil ∙ capped_fits 0 (omega arith)
