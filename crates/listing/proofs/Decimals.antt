-- The decimal digits of a number: how many there are, by its logarithm, and how they are written from the last to the first.
-- By induction on the digits. Assumes nothing.
use Rattle.std.proofs.Common.{ℕ, zero, suc, ◌+◌, ◌-◌, ◌*◌, ◌/◌, ◌%◌, ◌^◌, ◌≤◌, ◌<◌, max, ◌≡◌, refl, sym, ap, ◌∙◌, arith}
use Rattle.std.proofs.Common.{List, [], ◌∷◌, ◌++◌, length, set}
use Rattle.std.proofs.Math.Nat.{pow-succ', one-le-pow}
use Rattle.std.proofs.Math.ListN.{length-set, length-append}
use Rattle.std.proofs.Math.Seq.{sets}
use Rattle.fields_spec.specs.Writing.{Put}
use Rattle.fields_spec.proofs.Parts.{sets_append, sets_before}
use Rattle.listing_spec.specs.Text.{decimal}
use Rattle.listing_spec.proofs.Decimals.{decimal_last, decimal_more, length_last, length_more, length_below}
use native.Mathlib.Decide.{dec_lt}

-- ---- their number

some_digit : (n : ℕ) → 0 < length (decimal n)
some_digit n =
    elim (dec_lt n 10) [
      | yes s ↦ omega (arith, length_last n s)
      | no s ↦ omega (arith, length_more n (omega arith))
    ]

-- a number of 10 ^ k or more has more than k digits
length_above : (k n : ℕ) → 10 ^ k ≤ n → k < length (decimal n)
length_above zero n h = some_digit n
length_above (suc k) n h =
    let p : 10 * 10 ^ k ≤ n = rw (← pow-succ' 10 k) h in
    let more : 10 ≤ n = omega (arith, one-le-pow k 10 (omega arith)) in
    omega (arith, length_more n more, length_above k (n / 10) (omega arith))

-- the digits by the logarithm, where that of 0 is that of 1
pub length_log : (k n m : ℕ) → m ≡ max n 1 → 10 ^ k ≤ m → m < 10 * 10 ^ k → length (decimal n) ≡ k + 1
length_log zero n m e low high = length_last n (omega arith)
length_log (suc k) n m e low high =
    let p : 10 * 10 ^ k ≤ m = rw (← pow-succ' 10 k) low in
    let more : 10 ^ suc k ≤ n = omega (arith, one-le-pow k 10 (omega arith)) in
    let q : n < 10 ^ suc (suc k) = rw (pow-succ' 10 (suc k)) (omega arith) in
    omega (arith, length_above (suc k) n more, length_below (suc k) n q)

-- ---- written from the last to the first

-- the last k digits
abbrev pub low : ℕ → ℕ → List ℕ
low zero n = []
low (suc k) n = low k (n / 10) ++ ((48 + n % 10) ∷ [])

length_low : (k n : ℕ) → length (low k n) ≡ k
length_low zero n = refl
length_low (suc k) n = omega (arith, length_low k (n / 10), length-append (low k (n / 10)) ((48 + n % 10) ∷ []))

-- as many as there are
low_all : (k n : ℕ) → k ≡ length (decimal n) → low k n ≡ decimal n
low_all zero n e = absurd (omega (arith, some_digit n))
low_all (suc k) n e =
    elim (dec_lt n 10) [
      | yes s ↦ by k (omega (arith, length_last n s)) s
      | no s ↦
          let m : 10 ≤ n = omega arith in
          ap (λ (ds : List ℕ). ds ++ ((48 + n % 10) ∷ [])) (low_all k (n / 10) (omega (arith, length_more n m))) ∙ sym (decimal_more n m)
    ]
  where
    by : (k : ℕ) → k ≡ 0 → n < 10 → low (suc k) n ≡ decimal n
    by zero z s = let d : n % 10 ≡ n = omega arith in ap (λ (m : ℕ). (48 + m) ∷ []) d ∙ sym (decimal_last n s)
    by (suc k) z s = absurd (omega arith)

-- a run and the byte behind it, which is written first
sets_snoc : (xs l : List ℕ) (i a : ℕ) → sets (set l (i + length xs) a) i xs ≡ sets l i (xs ++ (a ∷ []))
sets_snoc xs l i a = sets_before xs (a ∷ []) l i (i + length xs) (omega arith) ∙ sym (sets_append xs (a ∷ []) l i)

-- of the digits of n at the place at of old the last ones of rest are left, before the place i of new
pub record Backing (n at : ℕ) (old : List ℕ) (rest i : ℕ) (new : List ℕ) : Type 0 where
  pub behind : at ≤ i
  pub to_set : sets new at (low (i - at) rest) ≡ sets old at (decimal n)
  pub long : length new ≡ length old

module _ {n at i : ℕ} {old : List ℕ} where
  pub backing_start : i ≡ at + length (decimal n) → Backing n at old n i old
  backing_start e = record { behind = omega arith; to_set = ap (sets old at) (low_all (i - at) n (omega arith)); long = refl }

  module _ {rest : ℕ} {new : List ℕ} (b : Backing n at old rest i new) where
    -- a digit more is written
    pub backing_more : at < i → Backing n at old (rest / 10) (i - 1) (set new (i - 1) (48 + rest % 10))
    backing_more h =
        let k : ℕ = (i - 1) - at in
        let all : i - at ≡ suc k = omega arith in
        let place : i - 1 ≡ at + length (low k (rest / 10)) = omega (arith, length_low k (rest / 10)) in
        record {
          behind = omega arith;
          to_set =
              ap (λ (j : ℕ). sets (set new j (48 + rest % 10)) at (low k (rest / 10))) place
              ∙ sets_snoc (low k (rest / 10)) new at (48 + rest % 10)
              ∙ ap (λ (j : ℕ). sets new at (low j rest)) (sym all)
              ∙ b.to_set;
          long = length-set new (i - 1) (48 + rest % 10) ∙ b.long;
        }

    -- all are written
    pub backing_done : {end : ℕ} → i ≡ at → end ≡ at + length (decimal n) → Put (decimal n) at end old new
    backing_done h e =
        let none : i - at ≡ 0 = omega arith in
        record { behind = e; wrote = ap (λ (j : ℕ). sets new at (low j rest)) (sym none) ∙ b.to_set }
