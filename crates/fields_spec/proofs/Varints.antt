-- The minimal varint of a number: its two equations, and its length.
-- Assumes nothing.
use Rattle.std.proofs.Common.{ℕ, zero, suc, ◌+◌, ◌/◌, ◌%◌, ◌≤◌, ◌<◌, le_refl, ◌≡◌, refl, ap, List, [], ◌∷◌, arith, lt-ltb, le-ltb, ltb, length}
use Rattle.std.proofs.Math.Decide.{dec_lt}
use Rattle.std.proofs.lemmas.Bool.Decides.{nat_tests}
use Rattle.std.specs.Int.{from_bool}
use Rattle.fields_spec.specs.Varint.{largest, groups, varint}
use Rattle.fields_spec.proofs.Bases.{written_more}

groups_last : (f n : ℕ) → n < 128 → groups f n ≡ n ∷ []
unfolding groups
groups_last zero n h = refl
groups_last (suc f) n h = rw (lt-ltb n 128 h, groups)

groups_more : (f n : ℕ) → 128 ≤ n → groups (suc f) n ≡ (n % 128 + 128) ∷ groups f (n / 128)
unfolding groups
groups_more f n h = rw (le-ltb n 128 h, groups)

pub varint_last : (n : ℕ) → n < 128 → varint n ≡ n ∷ []
unfolding varint
varint_last n h = groups_last n n h

pub varint_more : (n : ℕ) → 128 ≤ n → varint n ≡ (n % 128 + 128) ∷ varint (n / 128)
unfolding varint
varint_more = written_more 128 (omega arith) groups (λ (n : ℕ). n ∷ []) (λ (n : ℕ) (r : List ℕ). (n % 128 + 128) ∷ r) groups_last groups_more

-- induction group by group
pub by-groups {ℓ} : (P : ℕ → Type ℓ) → ((n : ℕ) → n < 128 → P n) → ((n : ℕ) → 128 ≤ n → P (n / 128) → P n) → (n : ℕ) → P n
by-groups P last more n = go n n (le_refl n)
  where
    go : (f m : ℕ) → m ≤ f → P m
    go zero m h = last m (omega arith)
    go (suc f) m h = elim (dec_lt m 128) [ yes k ↦ last m k | no k ↦ more m (omega arith) (go f (m / 128) (omega arith)) ]

-- ---- its length

pub length_last : (n : ℕ) → n < 128 → length (varint n) ≡ 1
length_last n h = ap length (varint_last n h)

pub length_more : (n : ℕ) → 128 ≤ n → length (varint n) ≡ suc (length (varint (n / 128)))
length_more n h = ap length (varint_more n h)

pub length_pos : (n : ℕ) → 1 ≤ length (varint n)
length_pos = by-groups (λ (n : ℕ). 1 ≤ length (varint n)) (λ n h. omega (arith, length_last n h)) (λ n h ih. omega (arith, length_more n h))

-- a larger number has no shorter varint
pub length_mono : (a b : ℕ) → a ≤ b → length (varint a) ≤ length (varint b)
length_mono =
    by-groups (λ (a : ℕ). (b : ℕ) → a ≤ b → length (varint a) ≤ length (varint b))
    (λ a h b k. omega (arith, length_last a h, length_pos b))
    (λ a h ih b k. omega (arith, length_more a h, length_more b (omega arith), ih (b / 128) (omega arith)))

-- a count of 32 bits has a varint of five bytes at most
pub length_five : (n : ℕ) → n ≤ largest → length (varint n) ≤ 5
unfolding varint groups
length_five n h = length_mono n largest h

-- ---- by the limits that a number passes

-- a number has a varint as long as the two that it is between
pub length_between : (lo hi n : ℕ) {l : ℕ} → lo ≤ n → n ≤ hi → length (varint lo) ≡ l → length (varint hi) ≡ l → length (varint n) ≡ l
length_between lo hi n p q a b = omega (arith, length_mono lo n p, length_mono n hi q)

-- one byte, and one more for each limit
pub length_limits : (n : ℕ) → n ≤ largest
    → 1 + from_bool (ltb 127 n) + from_bool (ltb 16383 n) + from_bool (ltb 2097151 n) + from_bool (ltb 268435455 n) ≡ length (varint n)
unfolding varint groups
length_limits n h =
    let one : n ≤ 127 → length (varint n) ≡ 1 = λ q. length_between 0 127 n (omega arith) q refl refl in
    let two : 127 < n → n ≤ 16383 → length (varint n) ≡ 2 = λ p q. length_between 128 16383 n p q refl refl in
    let three : 16383 < n → n ≤ 2097151 → length (varint n) ≡ 3 = λ p q. length_between 16384 2097151 n p q refl refl in
    let four : 2097151 < n → n ≤ 268435455 → length (varint n) ≡ 4 = λ p q. length_between 2097152 268435455 n p q refl refl in
    let five : 268435455 < n → length (varint n) ≡ 5 = λ p. length_between 268435456 largest n p h refl refl in
    grind (arith, nat_tests)
