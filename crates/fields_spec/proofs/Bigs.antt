-- Big-endian fields, once over their width: what is written is read back, and what is read is what would be written.
-- Assumes nothing.
use Rattle.std.proofs.Common.{ℕ, zero, suc, ◌+◌, ◌*◌, ◌/◌, ◌%◌, ◌^◌, ◌≤◌, ◌<◌, add-zero, mul_assoc, one-mul, ◌≡◌, refl, ap, ap₂, sym, ◌∙◌, List}
use Rattle.std.proofs.Common.{[], ◌∷◌, ◌++◌, append_assoc, append-nil, arith, add-one, length, get_or, take, drop, set, length-append, drop-cons}
use Rattle.std.proofs.Math.Nat.{pow-succ', pow-zero}
use Rattle.fields_spec.specs.Big.{big, said, said_after}
use Rattle.fields_spec.specs.Writing.{Put}

pub length_big : (k n : ℕ) → length (big k n) ≡ k
unfolding big
length_big zero n = refl
length_big (suc k) n = omega (arith, length-append (big k (n / 256)) (n % 256 ∷ []), length_big k (n / 256))

said_snoc : (xs : List ℕ) (n y : ℕ) → said_after n (xs ++ (y ∷ [])) ≡ said_after n xs * 256 + y
unfolding said_after
said_snoc [] n y = refl
said_snoc (x ∷ xs) n y = said_snoc xs (n * 256 + x) y

-- what is written is read back
pub said_big : (k n : ℕ) → n < 256 ^ k → said (big k n) ≡ n
unfolding big said_after
said_big zero n h = omega (arith, pow-zero 256)
said_big (suc k) n h =
    let ih = said_big k (n / 256) (omega (arith, pow-succ' 256 k)) in
    omega (arith, said_snoc (big k (n / 256)) 0 (n % 256))

-- what is read is written again, behind what stands before
big_after : (xs : List ℕ) (k n : ℕ) → ((i : ℕ) → get_or xs i 0 < 256) → big (k + length xs) (said_after n xs) ≡ big k n ++ xs
unfolding big said_after
big_after [] k n b = ap (λ (j : ℕ). big j n) (add-zero k) ∙ sym (append-nil (big k n))
big_after (x ∷ xs) k n b =
    let e : k + suc (length xs) ≡ suc k + length xs = omega arith in
    let q : (n * 256 + x) / 256 ≡ n = omega (arith, b 0) in
    let r : (n * 256 + x) % 256 ≡ x = omega (arith, b 0) in
    ap (λ (j : ℕ). big j (said_after (n * 256 + x) xs)) e
    ∙ big_after xs (suc k) (n * 256 + x) (λ i. b (suc i))
    ∙ ap₂ (λ (m y : ℕ). (big k m ++ (y ∷ [])) ++ xs) q r
    ∙ append_assoc (big k n) (x ∷ []) xs

pub big_said : (xs : List ℕ) → ((i : ℕ) → get_or xs i 0 < 256) → big (length xs) (said xs) ≡ xs
unfolding big
big_said xs b =
    let e : length xs ≡ zero + length xs = omega arith in
    ap (λ (j : ℕ). big j (said xs)) e ∙ big_after xs zero 0 b

-- as many bytes say a number below that power of 256
said_below_after : (xs : List ℕ) (n m : ℕ) → ((i : ℕ) → get_or xs i 0 < 256) → n < m → said_after n xs < m * 256 ^ length xs
unfolding said_after
said_below_after [] n m b h = omega (arith, pow-zero 256)
said_below_after (x ∷ xs) n m b h =
    let e : m * 256 * 256 ^ length xs ≡ m * 256 ^ suc (length xs) =
    mul_assoc m 256 (256 ^ length xs) ∙ ap (λ (p : ℕ). m * p) (sym (pow-succ' 256 (length xs))) in
    rw e at (said_below_after xs (n * 256 + x) (m * 256) (λ i. b (suc i)) (omega (arith, b 0)))

pub said_below : (xs : List ℕ) → ((i : ℕ) → get_or xs i 0 < 256) → said xs < 256 ^ length xs
said_below xs b = rw one-mul at (said_below_after xs 0 1 b (omega arith))

-- ---- fields of two bytes, as the code reads and writes them

pub two_at : (d : List ℕ) (at : ℕ) → at + 2 ≤ length d → get_or d at 0 * 256 + get_or d (at + 1) 0 ≡ said (take 2 (drop at d))
unfolding said_after
two_at d at h =
    rw (drop-cons d at 0 (omega arith), add-one, drop-cons d (suc at) 0 (omega arith)) (omega arith)

pub put_two : (out : List ℕ) (at n : ℕ) → Put (big 2 n) at (at + 2) out (set (set out at (n / 256 % 256)) (at + 1) (n % 256))
unfolding big
put_two out at n = record { behind = refl; wrote = rw add-one refl }
