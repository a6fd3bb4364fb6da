-- Numbers written in a base b, group by group: a bound on the steps that is large enough makes no difference, and a number below
-- b ^ k has k groups at most. Assumes nothing.
use Rattle.std.proofs.Common.{ℕ, zero, suc, ◌*◌, ◌/◌, ◌^◌, ◌≤◌, ◌<◌, div-lt_iff_lt-mul, mul_comm, le_refl, arith, ◌≡◌, ap, sym, ◌∙◌, List}
use Rattle.std.proofs.Math.Nat.{div-lt_self, pow-succ', pow-zero}
use Rattle.std.proofs.Math.Decide.{dec_lt}

module _ (b : ℕ) (base : 1 < b) where
  -- a group less is a step less
  falls : (n f : ℕ) → b ≤ n → n ≤ suc f → n / b ≤ f
  falls n f h k = omega (arith, div-lt_self {n = n} {k = b} (omega arith) base)

  -- writing in at most f groups before the last: a number below b is the last group
  module _ (write : ℕ → ℕ → List ℕ) (last : ℕ → List ℕ) (more : ℕ → List ℕ → List ℕ)
      (ends : (f n : ℕ) → n < b → write f n ≡ last n) (goes_on_lem : (f n : ℕ) → b ≤ n → write (suc f) n ≡ more n (write f (n / b))) where
    -- any bound that is large enough gives the same
    same : (f g n : ℕ) → n ≤ f → n ≤ g → write f n ≡ write g n
    same zero g n hf hg = ends zero n (omega arith) ∙ sym (ends g n (omega arith))
    same (suc f) zero n hf hg = ends (suc f) n (omega arith) ∙ sym (ends zero n (omega arith))
    same (suc f) (suc g) n hf hg =
        elim (dec_lt n b) [
          | yes h ↦ ends (suc f) n h ∙ sym (ends (suc g) n h)
          | no h ↦
              let m : b ≤ n = omega arith in
              goes_on_lem f n m ∙ ap (more n) (same f g (n / b) (falls n f m hf) (falls n g m hg)) ∙ sym (goes_on_lem g n m)
        ]

    -- so a number is a bound for itself
    pub written_more : (n : ℕ) → b ≤ n → write n n ≡ more n (write (n / b) (n / b))
    written_more n h =
        same n (suc n) n (omega arith) (omega arith)
        ∙ goes_on_lem n n h
        ∙ ap (more n) (same n (n / b) (n / b) (falls n n h (omega arith)) (le_refl (n / b)))

  -- the number of groups
  module _ (size : ℕ → ℕ) (one : (n : ℕ) → n < b → size n ≡ 1) (more : (n : ℕ) → b ≤ n → size n ≡ suc (size (n / b))) where
    pub size_below : (k n : ℕ) → n < b ^ suc k → size n ≤ suc k
    size_below zero n h = omega (arith, one n (omega (arith, (rw (pow-succ' b 0, pow-zero b) at h))))
    size_below (suc k) n h =
        elim (dec_lt n b) [
          | yes s ↦ omega (arith, one n s)
          | no s ↦
              let low : n < b ^ suc k * b = rw (mul_comm (b ^ suc k) b, ← pow-succ' b (suc k)) h in
              omega (arith, more n (omega arith), size_below k (n / b) ((div-lt_iff_lt-mul {k = b} (omega arith)).1 low))
        ]
