-- The first byte without the top bit, as `position` finds it: it ends the varint, and where none is among the first ten bytes it is incomplete.
-- Assumes nothing.
use Rattle.std.proofs.Common.{ℕ, zero, suc, ◌+◌, ◌≤◌, ◌<◌, ◌≡◌, min, Bool, ltb, List, [], ◌∷◌, length, get_or, take, drop}
use Rattle.std.proofs.Common.{Some, None, position, refl, sym, ap, ◌∙◌, arith, length-take, Ok, add-zero, le-ltb, lt-ltb, drop-drop, length-drop, get_or-drop}
use Rattle.std.proofs.Math.Decide.{dec_lt}
use Rattle.std.specs.List.{position_or_len}
use Rattle.fields_spec.specs.Varint.{high, found, incomplete}
use Rattle.fields_spec.specs.Inner.Varints.{judged_at, Ending}
use Rattle.fields_spec.proofs.Places.{high_low, high_high, high_nil, found_ten, found_cut, first_whole}

-- a byte without the top bit
abbrev pub low : ℕ → Bool
low b = ltb b 128

-- the bytes before it have the top bit set
pub position_high : (n : ℕ) (xs : List ℕ) → position_or_len low (take n xs) ≡ min n (high xs)
position_high zero xs = sym (omega arith)
position_high (suc n) [] = omega (arith, high_nil)
position_high (suc n) (x ∷ xs) =
    elim (dec_lt x 128) [
      | yes l ↦ simp (lt-ltb x 128 l) (omega (arith, high_low x xs l))
      | no h ↦
          let l : 128 ≤ x = omega arith in
          simp (le-ltb x 128 l) (omega (arith, position_high n xs, high_high x xs l))
    ]

pub high_within : (xs : List ℕ) → high xs ≤ length xs
high_within [] = omega (arith, high_nil)
high_within (x ∷ xs) =
    elim (dec_lt x 128) [
      | yes l ↦ omega (arith, high_low x xs l)
      | no h ↦ omega (arith, high_high x xs (omega arith), high_within xs)
    ]

-- it stands behind them, and none is passed from there on
pub high_ends : (xs : List ℕ) (k : ℕ) → high xs ≡ k → k < length xs → (get_or xs k 0 < 128) × (high (drop k xs) ≡ 0)
high_ends [] k e h = absurd (omega arith)
high_ends (x ∷ xs) k e h =
    elim (dec_lt x 128) [
      | yes l ↦ let z : k ≡ 0 = sym e ∙ high_low x xs l in rw z (l, high_low x xs l)
      | no n ↦
          let s : k ≡ suc (high xs) = sym e ∙ high_high x xs (omega arith) in
          rw s (high_ends xs (high xs) refl (omega arith))
    ]

-- ---- what is found by it

module _ (n : ℕ) (xs : List ℕ) where
  abbrev m : ℕ
  m = position_or_len low (take n xs)

  low_there : high xs < n → high xs < length xs → position low (take n xs) ≡ Some (high xs)
  low_there a b =
      let e : m ≡ high xs = omega (arith, position_high n xs) in
      let t : m < length (take n xs) = simp length-take (omega arith) in
      simp (lt-ltb m (length (take n xs)) t) (ap Some e)

  low_absent : min n (length xs) ≤ high xs → position low (take n xs) ≡ None
  low_absent h =
      let t : length (take n xs) ≤ m = simp length-take (omega (arith, position_high n xs)) in
      simp (le-ltb m (length (take n xs)) t)

-- it ends the varint there, or the varint is incomplete
pub low_ends : (d : List ℕ) (at k : ℕ) → position low (take 10 (drop at d)) ≡ Some k
    → (high (drop at d) ≡ k) × (k < 10) × (k < length (drop at d))
low_ends d at k e =
    let xs : List ℕ = drop at d in
    elim (dec_lt (high xs) (min 10 (length xs))) [
      | yes h ↦
          let s : Some (high xs) ≡ Some k = sym (low_there 10 xs (omega arith) (omega arith)) ∙ e in
          let z : high xs ≡ k = cc in
          (z, omega arith, omega arith)
      | no h ↦ let s = low_absent 10 xs (omega arith) in (cc, cc, cc)
    ]

pub low_cut : (xs : List ℕ) → position low (take 10 xs) ≡ None → found xs ≡ incomplete
low_cut xs e =
    elim (dec_lt (high xs) (min 10 (length xs))) [
      | yes h ↦ let s = low_there 10 xs (omega arith) (omega arith) in cc
      | no h ↦ elim (dec_lt (high xs) 10) [ yes t ↦ found_cut xs (omega arith) | no t ↦ found_ten xs (omega arith) ]
    ]

pub low_first : (d : List ℕ) (at : ℕ) → position low (take 10 (drop at d)) ≡ Some 0 → Ok (at + 1) ≡ judged_at at (found (drop at d))
low_first d at e =
    let p = low_ends d at 0 e in
    let q = high_ends (drop at d) 0 p.0 p.2 in
    ap (judged_at at) (sym (first_whole d at (omega (arith, p.2, length-drop at d)) (rw add-zero at (rw get_or-drop at q.0))))

-- behind the first byte
pub low_ending : (d : List ℕ) (at k : ℕ) → 1 ≤ k → position low (take 10 (drop at d)) ≡ Some k → Ending d at k
low_ending d at k some e =
    let p = low_ends d at k e in
    let q = high_ends (drop at d) k p.0 p.2 in
    let next : drop k (drop at d) ≡ drop (at + k) d = drop-drop k at d in
    record {
      passed = omega (arith, p.0, q.1, ap high next);
      some = some;
      ten = p.1;
      inside = omega (arith, p.2, length-drop at d);
      low = omega (arith, q.0, get_or-drop at d k 0);
    }
