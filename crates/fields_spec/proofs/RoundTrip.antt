-- A varint that is written is found again, and one that is found whole is the written one, byte for byte.
-- Assumes nothing.
use Rattle.std.proofs.Common.{ℕ, suc, ◌+◌, ◌/◌, ◌%◌, ◌≤◌, ◌<◌, ◌≡◌, refl, ap, ap₂, sym, ◌∙◌, List, [], ◌∷◌, ◌++◌, arith, le-leb, ne_eqb, length}
use Rattle.std.proofs.Common.{take, length-append, take_at}
use Rattle.std.proofs.Math.Decide.{dec_lt, ℕ_discrete}
use Rattle.fields_spec.specs.Varint.{largest, varint, high, value, whole, notCanonical, canonical, found}
use Rattle.fields_spec.specs.Theorems.{Bytes}
use Rattle.fields_spec.proofs.Varints.{varint_last, varint_more, length_last, length_more, length_five, by-groups}
use Rattle.fields_spec.proofs.Places.{high_low, high_high, value_nil, value_cons, found_canonical, found_ten, found_cut, canonical_whole}
use Rattle.fields_spec.proofs.Places.{canonical_large}

-- ---- what is written is found

-- all of the varint but its last byte has the top bit set
high_varint : (rest : List ℕ) (n : ℕ) → suc (high (varint n ++ rest)) ≡ length (varint n)
high_varint rest =
    by-groups (λ (n : ℕ). suc (high (varint n ++ rest)) ≡ length (varint n))
    (λ n h. rw (varint_last n h) (ap suc (high_low n rest h)))
    (λ n h ih. rw (varint_more n h) (ap suc (high_high (n % 128 + 128) (varint (n / 128) ++ rest) (omega arith) ∙ ih)))

value_varint : (n : ℕ) → value (varint n) ≡ n
value_varint =
    by-groups (λ (n : ℕ). value (varint n) ≡ n)
    (λ n h. rw (varint_last n h) (omega (arith, value_cons n [], value_nil)))
    (λ n h ih. rw (varint_more n h) (omega (arith, value_cons (n % 128 + 128) (varint (n / 128)))))

-- whatever stands behind it
pub found_back : (n : ℕ) (rest : List ℕ) → n ≤ largest → found (varint n ++ rest) ≡ whole n (length (varint n))
found_back n rest h =
    let s = high_varint rest n in
    let k : ℕ = high (varint n ++ rest) in
    let t : take (suc k) (varint n ++ rest) ≡ varint n = take_at (varint n) rest (suc k) (sym s) in
    found_canonical (varint n ++ rest) k refl (omega (arith, length_five n h)) (omega (arith, length-append (varint n) rest))
    ∙ ap₂ canonical (ap value t ∙ value_varint n) s
    ∙ canonical_whole n (length (varint n)) h refl

-- ---- what is found is what is written

-- groups of a minimal length are the varint of what they say
minimal : (xs : List ℕ) → Bytes xs → high xs < length xs → length (varint (value (take (suc (high xs)) xs))) ≡ suc (high xs)
    → varint (value (take (suc (high xs)) xs)) ≡ take (suc (high xs)) xs
minimal [] b h l = absurd (omega arith)
minimal (x ∷ xs) b h l =
    elim (dec_lt x 128) [
      | yes lo ↦
          let e = high_low x xs lo in
          let v : value (x ∷ []) ≡ x = omega (arith, value_cons x [], value_nil) in
          rw e (ap varint v ∙ varint_last x lo)
      | no hi ↦
          let e = high_high x xs (omega arith) in
          let tl : List ℕ = take (suc (high xs)) xs in
          let w : ℕ = value (x ∷ tl) in
          let is = value_cons x tl in
          let l' : length (varint w) ≡ suc (suc (high xs)) = rw e at l in
          let big : 128 ≤ w = elim (dec_lt w 128) [ yes s ↦ absurd (omega (arith, length_last w s)) | no s ↦ omega arith ] in
          let q : w / 128 ≡ value tl = omega arith in
          let r : w % 128 + 128 ≡ x = omega (arith, b 0) in
          let ll : length (varint (value tl)) ≡ suc (high xs) = omega (arith, length_more w big, ap (λ (n : ℕ). length (varint n)) q) in
          rw e (varint_more w big ∙ ap₂ (λ (a : ℕ) (t : List ℕ). a ∷ t) r (ap varint q ∙ minimal xs (λ i. b (suc i)) (omega arith) ll))
    ]

-- what a varint that was found whole is
pub record Accepted (xs : List ℕ) (v u : ℕ) : Type 0 where
  pub used : u ≡ suc (high xs)
  pub inside : u ≤ length xs
  pub fits : v ≤ largest
  pub says : v ≡ value (take u xs)
  pub least : length (varint v) ≡ u

canonical_parts : (w n v u : ℕ) → canonical w n ≡ whole v u → (v ≡ w) × (u ≡ n) × (w ≤ largest) × (length (varint w) ≡ n)
canonical_parts w n v u e =
    elim (dec_lt largest w) [
      | yes a ↦ let s = canonical_large w n a in cc
      | no a ↦
          elim (ℕ_discrete (length (varint w)) n) [
            | yes q ↦ let s = canonical_whole w n (omega arith) q in (cc, cc, omega arith, q)
            | no q ↦ let s = unequal w n (omega arith) q in cc
          ]
    ]
  where
    unequal : (w n : ℕ) → w ≤ largest → (length (varint w) ≡ n → ⊥) → canonical w n ≡ notCanonical
    unequal w n f q = simp (le-leb w largest f, ne_eqb (length (varint w)) n q)

pub found_inv : (xs : List ℕ) (v u : ℕ) → found xs ≡ whole v u → Accepted xs v u
found_inv xs v u e =
    elim (dec_lt (high xs) 10) [
      | yes a ↦
          elim (dec_lt (high xs) (length xs)) [
            | yes b ↦
                let p = canonical_parts (value (take (suc (high xs)) xs)) (suc (high xs)) v u (sym (found_canonical xs (high xs) refl a b) ∙ e) in
                record {
                  used = p.1;
                  inside = omega arith;
                  fits = omega arith;
                  says = p.0 ∙ ap (λ (n : ℕ). value (take n xs)) (sym p.1);
                  least = ap (λ (n : ℕ). length (varint n)) p.0 ∙ p.3 ∙ sym p.1;
                }
            | no b ↦ let r = found_cut xs (omega arith) in cc
          ]
      | no a ↦ let r = found_ten xs (omega arith) in cc
    ]

pub found_written : (xs : List ℕ) (v u : ℕ) → Bytes xs → found xs ≡ whole v u → varint v ≡ take u xs
found_written xs v u b e =
    let i = found_inv xs v u e in
    let f : take u xs ≡ take (suc (high xs)) xs = ap (λ (n : ℕ). take n xs) i.used in
    let g : v ≡ value (take (suc (high xs)) xs) = i.says ∙ ap value f in
    ap varint g
    ∙ minimal xs b (omega (arith, i.used, i.inside)) (ap (λ (n : ℕ). length (varint n)) (sym g) ∙ i.least ∙ i.used)
    ∙ sym f
