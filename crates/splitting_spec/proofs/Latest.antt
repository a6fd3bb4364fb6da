-- The split is the loop of the Rust: from the latest record down, while bytes are left. By cases on the records from the latest on.
-- Assumes nothing.
use mathlib.Core.Path.{◌≡◌, refl, sym, ap, ◌∙◌}
use mathlib.Core.List.{List, [], ◌∷◌, ◌++◌, reverse, reverse-cons, reverse-reverse}
use Prim.Native.Nat.{ℕ, zero, suc, ◌+◌, ◌-◌, ◌≤◌, ◌<◌, min}
use native.Mathlib.Omega.{arith}
use native.Mathlib.Decide.{dec_le}
use borrow.Author.Tests.{ne_eqb, le-leb, lt-leb}
use Rattle.records_spec.specs.Tables.{At, ◌⦂◌}
use Rattle.splitting_spec.specs.Sections.{minimum, above, section, split, from_latest}
use Rattle.splitting_spec.proofs.Sections.{section_one, split_none, split_base, split_last}

module _ (base : ℕ) where
  -- ---- the loop by its tests

  loop_none : (xs : List At) → from_latest base xs 0 ≡ []
  unfolding from_latest
  loop_none [] = refl
  loop_none (x ∷ xs) = refl

  loop_base : (n : ℕ) → 0 < n → from_latest base [] n ≡ base ⦂ n ∷ []
  unfolding from_latest
  loop_base n h = rw (ne_eqb n 0 (λ e. omega arith))

  module _ (x : At) (xs : List At) (n : ℕ) (h : 0 < n) where
    -- all above 3, and the next record is asked the rest
    loop_all : x.bytes ≤ n + minimum → from_latest base (x ∷ xs) n ≡ x.epoch ⦂ above x ∷ from_latest base xs (n - above x)
    unfolding from_latest
    loop_all g = rw (ne_eqb n 0 (λ e. omega arith), le-leb x.bytes (n + minimum) g)

    -- all that is left
    loop_last : n + minimum < x.bytes → from_latest base (x ∷ xs) n ≡ x.epoch ⦂ n ∷ []
    unfolding from_latest
    loop_last g = rw (ne_eqb n 0 (λ e. omega arith), lt-leb x.bytes (n + minimum) g)

  -- ---- the split

  at_base : (n : ℕ) → split base [] n ≡ reverse (from_latest base [] n)
  at_base zero = split_none base [] ∙ sym (ap reverse (loop_none []))
  at_base (suc n) =
      let m : min (suc n) (suc n) ≡ suc n = omega arith in
      let p : 0 < suc n = omega arith in
      split_base base (suc n) ∙ section_one base (suc n) (suc n) p ∙ ap (λ (k : ℕ). base ⦂ k ∷ []) m ∙ sym (ap reverse (loop_base (suc n) p))

  -- one record earlier
  module _ (x : At) (xs : List At) (same : (m : ℕ) → split base (reverse xs) m ≡ reverse (from_latest base xs m)) where
    by : (n : ℕ) → 0 < n → Dec (x.bytes ≤ n + minimum)
        → split base (reverse xs) (n - min n (above x)) ++ section x.epoch n (above x) ≡ reverse (from_latest base (x ∷ xs) n)
    by n p (yes h) =
        let m : min n (above x) ≡ above x = omega arith in
        rw (section_one x.epoch n (above x) p, m, loop_all x xs n p h, same (n - above x))
        (sym (reverse-cons (x.epoch ⦂ above x) (from_latest base xs (n - above x))))
    by n p (no h) =
        let m : min n (above x) ≡ n = omega arith in
        let z : n - n ≡ 0 = omega arith in
        rw (section_one x.epoch n (above x) p, m, z, split_none base (reverse xs), loop_last x xs n p (omega arith))

    at_record : (n : ℕ) → split base (reverse (x ∷ xs)) n ≡ reverse (from_latest base (x ∷ xs) n)
    at_record zero = split_none base (reverse (x ∷ xs)) ∙ sym (ap reverse (loop_none (x ∷ xs)))
    at_record (suc n) =
        ap (λ (l : List At). split base l (suc n)) (reverse-cons x xs) ∙ split_last (reverse xs) x (suc n) base
        ∙ by (suc n) (omega arith) (dec_le x.bytes (suc n + minimum))

  backwards : (xs : List At) (n : ℕ) → split base (reverse xs) n ≡ reverse (from_latest base xs n)
  backwards [] n = at_base n
  backwards (x ∷ xs) n = at_record x xs (λ m. backwards xs m) n

  pub split_is_the_loop : (rs : List At) (n : ℕ) → split base rs n ≡ reverse (from_latest base (reverse rs) n)
  split_is_the_loop rs n = ap (λ (l : List At). split base l n) (sym (reverse-reverse rs)) ∙ backwards (reverse rs) n
