-- Bytes stand to each other as the numbers that they say, so rows can be compared eight bytes at a time.
-- Assumes nothing.
use mathlib.Core.Path.{◌≡◌, refl, ap, ap₂, sym, ◌∙◌}
use Prim.Native.Nat.{ℕ, zero, suc, ◌+◌, ◌*◌, ◌≤◌, ◌<◌}
use native.Mathlib.Omega.{arith}
use mathlib.Core.Bool.{Bool, true, false, cond}
use mathlib.Core.List.{List, [], ◌∷◌, ◌++◌, append_assoc}
use lib.Dec.{ltb}
use lib.ListN.{length, get_or, take, drop, take-append-drop, length-drop, drop_of_length-le}
use lib.Seq.{length-take-le, get_or-drop, drop-drop}
use borrow.Author.Tests.{ltb-true, ltb-false}
use Rattle.fields_spec.specs.Big.{said, said_after}
use Rattle.records_spec.specs.Flags.{owner_length}
use Rattle.rows_spec.specs.Order.{by, order, is_less}
use Rattle.rows_spec.specs.Rows.{row, compared}
use Rattle.std.specs.declared.cmp.Ordering.{Ordering}
use Rattle.std.specs.declared.cmp.Ordering.TheVariants.{Equal}
use Rattle.rows_spec.proofs.Comparing.{by_less, by_greater, by_next, order_one}

-- by the first numbers, and where these are equal by what comes next
abbrev pub less_or : ℕ → ℕ → Bool → Bool
less_or x y next = cond (ltb x y) true (cond (ltb y x) false next)

-- the number that eight bytes say
abbrev pub word_at : List ℕ → ℕ → ℕ
word_at a k = said (take 8 (drop k a))

-- ---- a word as the code makes it

eight : (l : List ℕ) → 8 ≤ length l
    → ((said (take 2 l) * 65536 + said (take 2 (drop 2 l))) * 65536 + said (take 2 (drop 4 l))) * 65536 + said (take 2 (drop 6 l)) ≡ said (take 8 l)
unfolding said_after
eight [] h = absurd (omega arith)
eight (a ∷ []) h = absurd (omega arith)
eight (a ∷ b ∷ []) h = absurd (omega arith)
eight (a ∷ b ∷ c ∷ []) h = absurd (omega arith)
eight (a ∷ b ∷ c ∷ d ∷ []) h = absurd (omega arith)
eight (a ∷ b ∷ c ∷ d ∷ e ∷ []) h = absurd (omega arith)
eight (a ∷ b ∷ c ∷ d ∷ e ∷ f ∷ []) h = absurd (omega arith)
eight (a ∷ b ∷ c ∷ d ∷ e ∷ f ∷ g ∷ []) h = absurd (omega arith)
eight (a ∷ b ∷ c ∷ d ∷ e ∷ f ∷ g ∷ i ∷ l) h = omega arith

pub word_at_lem : (l : List ℕ) (k : ℕ) (p q r s : ℕ) → k + 8 ≤ length l
    → p ≡ said (take 2 (drop k l)) → q ≡ said (take 2 (drop (k + 2) l)) → r ≡ said (take 2 (drop (k + 4) l)) → s ≡ said (take 2 (drop (k + 6) l))
    → ((p * 65536 + q) * 65536 + r) * 65536 + s ≡ word_at l k
word_at_lem l k p q r s h e f g i =
    let e8 = eight (drop k l) (omega (arith, length-drop k l)) in
    let f2 = f ∙ ap (λ (t : List ℕ). said (take 2 t)) (sym (drop-drop 2 k l)) in
    let g2 = g ∙ ap (λ (t : List ℕ). said (take 2 t)) (sym (drop-drop 4 k l)) in
    let i2 = i ∙ ap (λ (t : List ℕ). said (take 2 t)) (sym (drop-drop 6 k l)) in
    omega arith

-- ---- the tests

less_by : (x y : ℕ) (n : Ordering) → is_less (by x y n) ≡ less_or x y (is_less n)
less_by x y n = go (ltb x y) refl (ltb y x) refl
  where
    go : (p : Bool) → ltb x y ≡ p → (q : Bool) → ltb y x ≡ q → is_less (by x y n) ≡ less_or x y (is_less n)
    go true e q f = rw e refl
    go false e true f = rw (e, f) refl
    go false e false f = rw (e, f) refl

less_last : (x y : ℕ) → is_less (by x y Equal) ≡ ltb x y
less_last x y = go (ltb x y) refl (ltb y x) refl
  where
    go : (p : Bool) → ltb x y ≡ p → (q : Bool) → ltb y x ≡ q → is_less (by x y Equal) ≡ ltb x y
    go true e q f = rw e refl
    go false e true f = rw (e, f) refl
    go false e false f = rw (e, f) refl

-- ---- bytes stand as the numbers that they say

-- a byte more on both sides
by_byte : (n m x y : ℕ) (o : Ordering) → x < 256 → y < 256 → by n m (by x y o) ≡ by (n * 256 + x) (m * 256 + y) o
by_byte n m x y o h k = go (ltb n m) refl (ltb m n) refl (ltb x y) refl (ltb y x) refl
  where
    go : (p : Bool) → ltb n m ≡ p → (q : Bool) → ltb m n ≡ q → (r : Bool) → ltb x y ≡ r → (s : Bool) → ltb y x ≡ s
        → by n m (by x y o) ≡ by (n * 256 + x) (m * 256 + y) o
    go true e q f r g s i = let a = ltb-true n m e in by_less n m _ a ∙ sym (by_less (n * 256 + x) (m * 256 + y) o (omega arith))
    go false e true f r g s i = let a = ltb-true m n f in by_greater n m _ a ∙ sym (by_greater (n * 256 + x) (m * 256 + y) o (omega arith))
    go false e false f true g s i =
        let a = ltb-false n m e in let b = ltb-false m n f in let c = ltb-true x y g in
        by_next n m _ b a ∙ by_less x y o c ∙ sym (by_less (n * 256 + x) (m * 256 + y) o (omega arith))
    go false e false f false g true i =
        let a = ltb-false n m e in let b = ltb-false m n f in let c = ltb-true y x i in
        by_next n m _ b a ∙ by_greater x y o c ∙ sym (by_greater (n * 256 + x) (m * 256 + y) o (omega arith))
    go false e false f false g false i =
        let a = ltb-false n m e in let b = ltb-false m n f in let c = ltb-false x y g in let d = ltb-false y x i in
        by_next n m _ b a ∙ by_next x y o d c ∙ sym (by_next (n * 256 + x) (m * 256 + y) o (omega arith) (omega arith))

by_said : (xs ys c d : List ℕ) (n m : ℕ) → length xs ≡ length ys → ((i : ℕ) → get_or xs i 0 < 256) → ((i : ℕ) → get_or ys i 0 < 256)
    → by n m (order (xs ++ c) (ys ++ d)) ≡ by (said_after n xs) (said_after m ys) (order c d)
unfolding order said_after
by_said [] [] c d n m h p q = refl
by_said [] (y ∷ ys) c d n m h p q = absurd (omega arith)
by_said (x ∷ xs) [] c d n m h p q = absurd (omega arith)
by_said (x ∷ xs) (y ∷ ys) c d n m h p q =
    by_byte n m x y (order (xs ++ c) (ys ++ d)) (p 0) (q 0)
    ∙ by_said xs ys c d (n * 256 + x) (m * 256 + y) (omega arith) (λ i. p (suc i)) (λ i. q (suc i))

-- ---- the bytes of a word are bytes

taken_byte : (n : ℕ) (l : List ℕ) → ((i : ℕ) → get_or l i 0 < 256) → (i : ℕ) → get_or (take n l) i 0 < 256
taken_byte zero l b i = omega arith
taken_byte (suc n) [] b i = omega arith
taken_byte (suc n) (x ∷ l) b zero = b 0
taken_byte (suc n) (x ∷ l) b (suc i) = taken_byte n l (λ j. b (suc j)) i

word_byte : (a : List ℕ) (k : ℕ) → ((i : ℕ) → get_or a i 0 < 256) → (i : ℕ) → get_or (take 8 (drop k a)) i 0 < 256
word_byte a k b = taken_byte 8 (drop k a) (λ i. omega (arith, get_or-drop k a i 0, b (k + i)))

module _ (a b : List ℕ) (p : (i : ℕ) → get_or a i 0 < 256) (q : (i : ℕ) → get_or b i 0 < 256) where
  split : (l c : List ℕ) (k : ℕ) → drop k l ++ c ≡ take 8 (drop k l) ++ (drop (k + 8) l ++ c)
  split l c k =
      ap (λ (t : List ℕ). t ++ c) (sym (take-append-drop 8 (drop k l)))
      ∙ append_assoc (take 8 (drop k l)) (drop 8 (drop k l)) c
      ∙ ap (λ (t : List ℕ). take 8 (drop k l) ++ (t ++ c)) (drop-drop 8 k l)

  -- one word decides, then what stands behind it
  word_decides : (c d : List ℕ) (k : ℕ) → k + 8 ≤ length a → k + 8 ≤ length b
      → order (drop k a ++ c) (drop k b ++ d) ≡ by (word_at a k) (word_at b k) (order (drop (k + 8) a ++ c) (drop (k + 8) b ++ d))
  word_decides c d k h i =
      let e = length-take-le 8 (drop k a) (omega (arith, length-drop k a)) in
      let f = length-take-le 8 (drop k b) (omega (arith, length-drop k b)) in
      ap₂ order (split a c k) (split b d k)
      ∙ sym (by_next 0 0 _ (omega arith) (omega arith))
      ∙ by_said (take 8 (drop k a)) (take 8 (drop k b)) (drop (k + 8) a ++ c) (drop (k + 8) b ++ d) 0 0 (e ∙ sym f) (word_byte a k p)
      (word_byte b k q)

  less_decides : (c d : List ℕ) (k : ℕ) → k + 8 ≤ length a → k + 8 ≤ length b
      → is_less (order (drop k a ++ c) (drop k b ++ d)) ≡ less_or (word_at a k) (word_at b k) (is_less (order (drop (k + 8) a ++ c) (drop (k + 8) b ++ d)))
  less_decides c d k h i =
      ap is_less (word_decides c d k h i) ∙ less_by (word_at a k) (word_at b k) (order (drop (k + 8) a ++ c) (drop (k + 8) b ++ d))

  pub less_words : (x y : ℕ) → length a ≡ owner_length → length b ≡ owner_length
      → is_less (compared (row a x 0) (row b y 0))
      ≡ less_or (word_at a 0) (word_at b 0) (less_or (word_at a 8) (word_at b 8)
      (less_or (word_at a 16) (word_at b 16) (less_or (word_at a 24) (word_at b 24) (ltb x y))))
  less_words x y h k =
      let c = x ∷ [] in
      let d = y ∷ [] in
      let e : order (drop 32 a ++ c) (drop 32 b ++ d) ≡ by x y Equal =
      ap₂ (λ (s t : List ℕ). order (s ++ c) (t ++ d)) (drop_of_length-le a {i = 32} (omega arith)) (drop_of_length-le b {i = 32} (omega arith))
      ∙ order_one x y in
      less_decides c d 0 (omega arith) (omega arith)
      ∙ ap (less_or (word_at a 0) (word_at b 0)) (less_decides c d 8 (omega arith) (omega arith)
      ∙ ap (less_or (word_at a 8) (word_at b 8)) (less_decides c d 16 (omega arith) (omega arith)
      ∙ ap (less_or (word_at a 16) (word_at b 16)) (less_decides c d 24 (omega arith) (omega arith)
      ∙ ap (less_or (word_at a 24) (word_at b 24)) (ap is_less e ∙ less_last x y))))
