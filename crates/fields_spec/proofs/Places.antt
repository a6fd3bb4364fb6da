-- Varints at a place of a list: bytes with the top bit set are passed one by one, what they say is summed, and the byte that ends
-- them decides what is found. Assumes nothing.
use Rattle.std.proofs.Common.{◌≡◌, refl, sym, ap, ◌∙◌, Bool, true, false, cond, ◌&&◌, List, [], ◌∷◌, ℕ, zero, suc, ◌+◌, ◌-◌, ◌*◌, ◌/◌, ◌%◌, ◌^◌}
use Rattle.std.proofs.Common.{◌≤◌, ◌<◌, add-zero, mul_assoc, mul_comm, mul-le-mul_right, one-mul, zero-mul, arith, leb, eqb, lt-ltb, le-ltb}
use Rattle.std.proofs.Common.{le-leb, eq-eqb, ne_eqb, length, get_or, take, drop, drop_of_length-le, length-drop, length-take, drop-cons}
use Rattle.std.proofs.Common.{get_or-drop, Ok, Err}
use Rattle.std.proofs.Math.Nat.{pow-succ', pow-zero, one-le-pow}
use Rattle.std.proofs.Math.Decide.{dec_lt}
use borrow.Author.Tests.{lt-leb}
use Rattle.fields_spec.specs.Varint.{largest, varint, high, value, incomplete, notCanonical, whole, canonical, found}
use Rattle.fields_spec.specs.Inner.Varints.{is_whole, judged_at, read_at, Passed}
use Rattle.fields_spec.specs.declared.varint.VarintFault.TheVariants.{Incomplete}
use Rattle.fields_spec.proofs.Bases.{size_below}
use Rattle.fields_spec.proofs.Varints.{length_last, length_more, length_pos, length_five}

-- ---- one byte

pub high_low : (b : ℕ) (bs : List ℕ) → b < 128 → high (b ∷ bs) ≡ 0
unfolding high
high_low b bs h = rw (lt-ltb b 128 h)

pub high_high : (b : ℕ) (bs : List ℕ) → 128 ≤ b → high (b ∷ bs) ≡ suc (high bs)
unfolding high
high_high b bs h = rw (le-ltb b 128 h)

pub high_nil : high [] ≡ 0
unfolding high
high_nil = refl

pub value_cons : (b : ℕ) (bs : List ℕ) → value (b ∷ bs) ≡ b % 128 + 128 * value bs
unfolding value
value_cons b bs = refl

pub value_nil : value [] ≡ 0
unfolding value
value_nil = refl

-- one group more goes to the top
value_top : (xs : List ℕ) (k : ℕ) → k < length xs → value (take (suc k) xs) ≡ value (take k xs) + get_or xs k 0 % 128 * 128 ^ k
unfolding value
value_top [] k h = absurd (omega arith)
value_top (x ∷ xs) zero h = omega (arith, pow-zero 128)
value_top (x ∷ xs) (suc k) h =
    let ih = value_top xs k (omega arith) in
    let b : ℕ = get_or xs k 0 % 128 in
    let e : b * (128 * 128 ^ k) ≡ 128 * (b * 128 ^ k) = sym (mul_assoc b 128 (128 ^ k)) ∙ ap (λ (z : ℕ). z * 128 ^ k) (mul_comm b 128)
    ∙ mul_assoc 128 b (128 ^ k) in
    rw (pow-succ' 128 k) (omega arith)

-- k groups say a number below 128 ^ k
pub value_below : (k : ℕ) (xs : List ℕ) → length xs ≤ k → value xs < 128 ^ k
unfolding value
value_below k [] h = one-le-pow k 128 (omega arith)
value_below zero (x ∷ xs) h = absurd (omega arith)
value_below (suc k) (x ∷ xs) h = omega (arith, value_below k xs (omega arith), pow-succ' 128 k)

-- ---- a run of groups is minimal exactly where its last byte is not 0, or it is one byte

-- a number below 128 ^ k has a varint of k bytes at most
pub length_below : (k n : ℕ) → n < 128 ^ suc k → length (varint n) ≤ suc k
length_below = size_below 128 (omega arith) (λ (n : ℕ). length (varint n)) length_last length_more

-- and one from there on has more
pub length_above : (k n : ℕ) → 128 ^ k ≤ n → k < length (varint n)
length_above zero n h = length_pos n
length_above (suc k) n h =
    let p = pow-succ' 128 k in
    let one : 1 ≤ 128 ^ k = one-le-pow k 128 (omega arith) in
    omega (arith, length_more n (omega arith), length_above k (n / 128) (omega arith))

-- ---- what is found

pub found_ten : (xs : List ℕ) → 10 ≤ high xs → found xs ≡ incomplete
unfolding found
found_ten xs h = simp (le-ltb (high xs) 10 h)

pub found_cut : (xs : List ℕ) → length xs ≤ high xs → found xs ≡ incomplete
unfolding found
found_cut xs h =
    elim (dec_lt (high xs) 10) [
      | yes a ↦ simp (lt-ltb (high xs) 10 a, le-ltb (high xs) (length xs) h)
      | no a ↦ let b : 10 ≤ high xs = omega arith in simp (le-ltb (high xs) 10 b)
    ]

pub found_canonical : (xs : List ℕ) (k : ℕ) → high xs ≡ k → k < 10 → k < length xs → found xs ≡ canonical (value (take (suc k) xs)) (suc k)
unfolding found
found_canonical xs k e ten long =
    let a : high xs < 10 = omega arith in
    let b : high xs < length xs = omega arith in
    simp (lt-ltb (high xs) 10 a, lt-ltb (high xs) (length xs) b) (ap (λ (n : ℕ). canonical (value (take (suc n) xs)) (suc n)) e)

pub canonical_whole : (v u : ℕ) → v ≤ largest → length (varint v) ≡ u → canonical v u ≡ whole v u
canonical_whole v u h e = simp (le-leb v largest h, eq-eqb (length (varint v)) u e)

pub canonical_large : (v u : ℕ) → largest < v → canonical v u ≡ notCanonical
canonical_large v u h = simp (lt-leb v largest h)

-- longer than minimal
pub canonical_longer : (v u : ℕ) → (v ≤ largest → length (varint v) < u) → canonical v u ≡ notCanonical
canonical_longer v u h =
    elim (dec_lt largest v) [
      | yes a ↦ canonical_large v u a
      | no a ↦
          let l : length (varint v) < u = h (omega arith) in
          simp (le-leb v largest (omega arith), ne_eqb (length (varint v)) u (λ e. omega arith))
    ]

-- a canonical varint is whole, and says just that
pub canonical_inv : (v u : ℕ) → is_whole (canonical v u) ≡ true → canonical v u ≡ whole v u
canonical_inv v u = by (leb v largest && eqb (length (varint v)) u)
  where
    by : (b : Bool) → is_whole (cond b (whole v u) notCanonical) ≡ true → cond b (whole v u) notCanonical ≡ whole v u
    by true w = refl
    by false w = cc

-- ---- at a place of a list

-- what the bytes from there on say, one group further
pub value_on : (d : List ℕ) (at k v : ℕ) → at + k < length d → v ≡ value (take k (drop at d))
    → v + get_or d (at + k) 0 % 128 * 128 ^ k ≡ value (take (suc k) (drop at d))
value_on d at k v inside e =
    let t = value_top (drop at d) k (omega (arith, length-drop at d)) in
    let g : get_or (drop at d) k 0 ≡ get_or d (at + k) 0 = get_or-drop at d k 0 in
    rw (← g) (omega arith)

-- ---- k bytes passed

module _ (d : List ℕ) (at k : ℕ) (p : Passed d at k) where
  -- the bytes end
  pub passed_cut : length d ≤ at + k → found (drop at d) ≡ incomplete
  passed_cut h =
      let e : high (drop (at + k) d) ≡ 0 = ap high (drop_of_length-le d {i = at + k} h) ∙ high_nil in
      found_cut (drop at d) (omega (arith, length-drop at d))

  -- ten bytes that all have the top bit set
  pub passed_ten : 10 ≤ k → found (drop at d) ≡ incomplete
  passed_ten h = found_ten (drop at d) (omega arith)

  module _ (inside : at + k < length d) where
    pub passed_more : (j : ℕ) → j ≡ k + 1 → 128 ≤ get_or d (at + k) 0 → Passed d at j
    passed_more j e h =
        let z : at + j ≡ suc (at + k) = omega arith in
        let s : high (drop (at + k) d) ≡ suc (high (drop (at + j) d)) =
        rw (z, drop-cons d (at + k) 0 inside) (high_high (get_or d (at + k) 0) (drop (suc (at + k)) d) h) in
        omega arith

    module _ (low : get_or d (at + k) 0 < 128) (ten : k < 10) where
      -- the varint ends here
      pub passed_end : found (drop at d) ≡ canonical (value (take (suc k) (drop at d))) (suc k)
      passed_end =
          let s : high (drop (at + k) d) ≡ 0 = rw (drop-cons d (at + k) 0 inside) (high_low (get_or d (at + k) 0) (drop (suc (at + k)) d) low) in
          found_canonical (drop at d) k (omega arith) ten (omega (arith, length-drop at d))

      -- more than five bytes are never minimal
      pub passed_long : 5 ≤ k → found (drop at d) ≡ notCanonical
      passed_long h =
          passed_end ∙ canonical_longer (value (take (suc k) (drop at d))) (suc k)
          (λ f. omega (arith, length_five (value (take (suc k) (drop at d))) f))

      -- where the last byte is 0, one byte less would do
      pub passed_zero : 1 ≤ k → get_or d (at + k) 0 ≡ 0 → found (drop at d) ≡ notCanonical
      passed_zero some e =
          let v : ℕ = value (take (suc k) (drop at d)) in
          let t : value (take k (drop at d)) + get_or d (at + k) 0 % 128 * 128 ^ k ≡ v = value_on d at k (value (take k (drop at d))) inside refl in
          let z : get_or d (at + k) 0 % 128 * 128 ^ k ≡ 0 = ap (λ (b : ℕ). b % 128 * 128 ^ k) e ∙ zero-mul (128 ^ k) in
          let b : value (take k (drop at d)) < 128 ^ k = value_below k (take k (drop at d)) (simp length-take (omega arith)) in
          let j : suc (k - 1) ≡ k = omega arith in
          let l : length (varint v) ≤ suc (k - 1) = length_below (k - 1) v (rw j (omega arith)) in
          passed_end ∙ canonical_longer v (suc k) (λ f. omega arith)

      -- where it is not 0, the varint is minimal
      pub passed_whole : 1 ≤ get_or d (at + k) 0 → value (take (suc k) (drop at d)) ≤ largest
          → found (drop at d) ≡ whole (value (take (suc k) (drop at d))) (suc k)
      passed_whole pos f =
          let v : ℕ = value (take (suc k) (drop at d)) in
          let t : value (take k (drop at d)) + get_or d (at + k) 0 % 128 * 128 ^ k ≡ v = value_on d at k (value (take k (drop at d))) inside refl in
          let m : get_or d (at + k) 0 % 128 ≡ get_or d (at + k) 0 = omega arith in
          let a : 1 * 128 ^ k ≤ get_or d (at + k) 0 % 128 * 128 ^ k = mul-le-mul_right (128 ^ k) (omega arith) in
          let o : 1 * 128 ^ k ≡ 128 ^ k = one-mul (128 ^ k) in
          let lo : k < length (varint v) = length_above k v (omega arith) in
          let hi : length (varint v) ≤ suc k = length_below k v (value_below (suc k) (take (suc k) (drop at d)) (simp length-take (omega arith))) in
          passed_end ∙ canonical_whole v (suc k) f (omega arith)

      -- what is read of a whole varint that ends here
      pub passed_read : (count next : ℕ) → is_whole (found (drop at d)) ≡ true → count ≡ value (take (suc k) (drop at d)) → next ≡ at + suc k
          → Ok (record { count = count; next = next }) ≡ read_at at (found (drop at d))
      passed_read count next w ec en =
          let v : ℕ = value (take (suc k) (drop at d)) in
          let f : found (drop at d) ≡ whole v (suc k) = passed_end ∙ canonical_inv v (suc k) (sym (ap is_whole passed_end) ∙ w) in
          (λ i. Ok (record { count = ec i; next = en i })) ∙ ap (read_at at) (sym f)

  -- four bytes hold no more than 32 bits
  pub passed_small : k < 4 → value (take (suc k) (drop at d)) ≤ largest
  passed_small h =
      let b : value (take (suc k) (drop at d)) < 128 ^ 4 = value_below 4 (take (suc k) (drop at d)) (simp length-take (omega arith)) in
      omega arith

  -- as judging answers it
  pub judged_cut : length d ≤ at + k → Err (Incomplete at) ≡ judged_at at (found (drop at d))
  judged_cut h = ap (judged_at at) (sym (passed_cut h))

  -- a whole varint goes on while its bytes have the top bit set
  pub whole_inside : is_whole (found (drop at d)) ≡ true → at + k < length d
  whole_inside w =
      elim (dec_lt (at + k) (length d)) [
        | yes h ↦ h
        | no h ↦ let z = passed_cut (omega arith) in cc
      ]

-- ---- the first byte

pub passed_none : (d : List ℕ) (at : ℕ) → Passed d at 0
passed_none d at =
    let e : high (drop (at + 0) d) ≡ high (drop at d) = ap (λ (i : ℕ). high (drop i d)) (add-zero at) in
    omega arith

module _ (d : List ℕ) (at : ℕ) where
  pub first_inside : is_whole (found (drop at d)) ≡ true → at < length d
  first_inside w = rw add-zero at (whole_inside d at 0 (passed_none d at) w)

  module _ (inside : at < length d) where
    pub first_more : 128 ≤ get_or d at 0 → Passed d at 1
    first_more h = passed_more d at 0 (passed_none d at) (rw (add-zero at) inside) 1 refl (rw (add-zero at) h)

    pub first_value : get_or d at 0 % 128 ≡ value (take 1 (drop at d))
    first_value = rw (drop-cons d at 0 inside) (omega (arith, value_cons (get_or d at 0) [], value_nil))

    pub first_whole : get_or d at 0 < 128 → found (drop at d) ≡ whole (get_or d at 0) 1
    first_whole h =
        let b : ℕ = get_or d at 0 in
        let hi : high (drop at d) ≡ 0 = rw (drop-cons d at 0 inside) (high_low b (drop (suc at) d) h) in
        let v : value (take 1 (drop at d)) ≡ b = omega (arith, first_value) in
        found_canonical (drop at d) 0 hi (omega arith) (omega (arith, length-drop at d))
        ∙ ap (λ (n : ℕ). canonical n 1) v
        ∙ canonical_whole b 1 (omega arith) (length_last b h)

-- ---- more than five bytes

-- no varint with k bytes passed, five or more, is whole; f bytes are left up to ten
pub long_never : (d : List ℕ) (at k f : ℕ) → Passed d at k → 5 ≤ k → 10 ≤ k + f → is_whole (found (drop at d)) ≡ true → ⊥
long_never d at k zero p five ten w = let z = passed_ten d at k p (omega arith) in cc
long_never d at k (suc f) p five ten w =
    let i = whole_inside d at k p w in
    elim (dec_lt (get_or d (at + k) 0) 128) [
      | yes l ↦
          elim (dec_lt k 10) [
            | yes t ↦ let z = passed_long d at k p i l t five in cc
            | no t ↦ let z = passed_ten d at k p (omega arith) in cc
          ]
      | no l ↦ long_never d at (k + 1) f (passed_more d at k p i (k + 1) refl (omega arith)) (omega arith) (omega arith) w
    ]

-- ---- the fifth byte

module _ (d : List ℕ) (at k : ℕ) (fifth : k ≡ 4) (p : Passed d at k) (inside : at + k < length d) where
  fifth_value : value (take k (drop at d)) + get_or d (at + k) 0 % 128 * 268435456 ≡ value (take (suc k) (drop at d))
  fifth_value =
      ap (λ (z : ℕ). value (take k (drop at d)) + get_or d (at + k) 0 % 128 * z) (sym (ap (λ (j : ℕ). 128 ^ j) fifth))
      ∙ value_on d at k (value (take k (drop at d))) inside refl

  pub fifth_fits : get_or d (at + k) 0 < 16 → value (take (suc k) (drop at d)) ≤ largest
  fifth_fits h =
      let b : value (take k (drop at d)) < 128 ^ 4 = value_below 4 (take k (drop at d)) (simp length-take (omega arith)) in
      omega (arith, fifth_value)

  pub fifth_large : get_or d (at + k) 0 < 128 → 16 ≤ get_or d (at + k) 0 → found (drop at d) ≡ notCanonical
  fifth_large low h =
      passed_end d at k p inside low (omega arith) ∙ canonical_large (value (take (suc k) (drop at d))) (suc k) (omega (arith, fifth_value))

  -- the fifth byte of a whole varint is its last, and fits
  pub fifth_whole : is_whole (found (drop at d)) ≡ true → get_or d (at + k) 0 < 16
  fifth_whole w =
      elim (dec_lt (get_or d (at + k) 0) 16) [
        | yes h ↦ h
        | no h ↦
            elim (dec_lt (get_or d (at + k) 0) 128) [
              | yes l ↦ let z = fifth_large l (omega arith) in cc
              | no l ↦ absurd (long_never d at (k + 1) 5 (passed_more d at k p inside (k + 1) refl (omega arith)) (omega arith) (omega arith) w)
            ]
      ]
