-- The order of lists is total: turned round, transitive, and equal only of equal lists. So is that of rows by their keys.
-- Assumes nothing.
use mathlib.Core.Path.{◌≡◌, refl, sym, ap, ◌∙◌}
use mathlib.Core.Logic.{◌⊎◌, inl, inr, ⊎_elim}
use Prim.Native.Nat.{ℕ, zero, suc, ◌≤◌, ◌<◌}
use native.Mathlib.Nat.{le_antisymm}
use native.Mathlib.Omega.{arith}
use mathlib.Core.Bool.{Bool, true, false}
use mathlib.Core.List.{List, [], ◌∷◌, ◌++◌}
use lib.ListN.{length, replicate}
use lib.Dec.{ltb}
use borrow.Author.Tests.{ltb-true, ltb-false, lt-ltb, le-ltb}
use Rattle.rows_spec.specs.Order.{by, order, flip}
use Rattle.rows_spec.specs.Rows.{Row, row, key, compared}
use Rattle.std.specs.Cmp.{nat_cmp_is}
use Rattle.std.specs.Cmp.Lexicographic.{slice_cmp}
use Rattle.std.specs.Ordering.{ordering_then, nat_cmp}
use Rattle.std.specs.declared.cmp.Ordering.{Ordering}
use Rattle.std.specs.declared.cmp.Ordering.TheVariants.{Less, Equal, Greater}

-- ---- one number, and then what comes next

module _ (x y : ℕ) (n : Ordering) where
  pub by_less : x < y → by x y n ≡ Less
  by_less h = rw (lt-ltb x y h)

  pub by_greater : y < x → by x y n ≡ Greater
  by_greater h = let l : y ≤ x = omega arith in rw (le-ltb x y l, lt-ltb y x h)

  pub by_next : x ≤ y → y ≤ x → by x y n ≡ n
  by_next h k = rw (le-ltb x y k, le-ltb y x h)

  -- by the two tests
  by_cases : (P : Ordering → Type 0) → (x < y → P Less) → (y < x → P Greater) → (x ≡ y → P n) → P (by x y n)
  by_cases P less greater next = go (ltb x y) refl (ltb y x) refl
    where
      go : (p : Bool) → ltb x y ≡ p → (q : Bool) → ltb y x ≡ q → P (by x y n)
      go true e q f = rw e (less (ltb-true x y e))
      go false e true f = rw (e, f) (greater (ltb-true y x f))
      go false e false f = rw (e, f) (next (le_antisymm (ltb-false y x f) (ltb-false x y e)))

  by_flip : by y x (flip n) ≡ flip (by x y n)
  by_flip =
      by_cases (λ o. by y x (flip n) ≡ flip o) (λ p. let q : x ≤ y = omega arith in rw (le-ltb y x q, lt-ltb x y p)) (λ p. rw (lt-ltb y x p))
      (λ p. let q : x ≤ y = omega arith in let r : y ≤ x = omega arith in rw (le-ltb y x q, le-ltb x y r))

  pub by_less_inv : by x y n ≡ Less → (x < y) ⊎ ((x ≡ y) × (n ≡ Less))
  by_less_inv = by_cases (λ o. o ≡ Less → (x < y) ⊎ ((x ≡ y) × (n ≡ Less))) (λ p e. inl p) (λ p e. cc) (λ p e. inr (p, e))

  by_equal_inv : by x y n ≡ Equal → (x ≡ y) × (n ≡ Equal)
  by_equal_inv = by_cases (λ o. o ≡ Equal → (x ≡ y) × (n ≡ Equal)) (λ p e. cc) (λ p e. cc) (λ p e. (p, e))

  by_then : (next : Ordering) → by x y (ordering_then n next) ≡ ordering_then (by x y n) next
  by_then next =
      by_cases (λ o. by x y (ordering_then n next) ≡ ordering_then o next) (λ p. rw (lt-ltb x y p))
      (λ p. let q : y ≤ x = omega arith in rw (le-ltb x y q, lt-ltb y x p))
      (λ p. let q : x ≤ y = omega arith in let r : y ≤ x = omega arith in rw (le-ltb x y r, le-ltb y x q))

-- ---- lists

pub order_flip : (a b : List ℕ) → order b a ≡ flip (order a b)
unfolding order
order_flip [] [] = refl
order_flip [] (y ∷ ys) = refl
order_flip (x ∷ xs) [] = refl
order_flip (x ∷ xs) (y ∷ ys) = ap (by y x) (order_flip xs ys) ∙ by_flip x y (order xs ys)

pub order_trans : (a b c : List ℕ) → order a b ≡ Less → order b c ≡ Less → order a c ≡ Less
unfolding order
order_trans [] [] c h k = cc
order_trans [] (y ∷ ys) [] h k = cc
order_trans [] (y ∷ ys) (z ∷ zs) h k = refl
order_trans (x ∷ xs) [] c h k = cc
order_trans (x ∷ xs) (y ∷ ys) [] h k = cc
order_trans (x ∷ xs) (y ∷ ys) (z ∷ zs) h k =
    ⊎_elim
    (λ p. ⊎_elim (λ q. by_less x z _ (omega arith)) (λ q. by_less x z _ (omega arith)) (by_less_inv y z _ k))
    (λ p. ⊎_elim (λ q. by_less x z _ (omega arith)) (λ q. by_next x z _ (omega arith) (omega arith) ∙ order_trans xs ys zs p.1 q.1)
    (by_less_inv y z _ k))
    (by_less_inv x y _ h)

pub order_same : (a b : List ℕ) → order a b ≡ Equal → a ≡ b
unfolding order
order_same [] [] h = refl
order_same [] (y ∷ ys) h = cc
order_same (x ∷ xs) [] h = cc
order_same (x ∷ xs) (y ∷ ys) h =
    let p = by_equal_inv x y (order xs ys) h in
    let q = order_same xs ys p.1 in
    cc p.0

pub order_self : (a : List ℕ) → order a a ≡ Equal
unfolding order
order_self [] = refl
order_self (x ∷ xs) = by_next x x _ (omega arith) (omega arith) ∙ order_self xs

-- lists that begin alike stand as their ends do
pub order_behind : (a b c : List ℕ) → order (a ++ b) (a ++ c) ≡ order b c
unfolding order
order_behind [] b c = refl
order_behind (x ∷ xs) b c = by_next x x _ (omega arith) (omega arith) ∙ order_behind xs b c

-- beginnings of one length decide first, then the ends
pub order_then : (a b c d : List ℕ) → length a ≡ length b → order (a ++ c) (b ++ d) ≡ ordering_then (order a b) (order c d)
unfolding order
order_then [] [] c d h = refl
order_then [] (y ∷ ys) c d h = absurd (omega arith)
order_then (x ∷ xs) [] c d h = absurd (omega arith)
order_then (x ∷ xs) (y ∷ ys) c d h = ap (by x y) (order_then xs ys c d (omega arith)) ∙ by_then x y (order xs ys) (order c d)

-- nothing of n numbers is less than n zeros
pub zeros_least : (n : ℕ) (x : List ℕ) → length x ≡ n → order x (replicate n 0) ≡ Less → ⊥
unfolding order
zeros_least zero [] l h = cc
zeros_least zero (x ∷ xs) l h = omega arith
zeros_least (suc n) [] l h = omega arith
zeros_least (suc n) (x ∷ xs) l h =
    ⊎_elim (λ q. omega arith) (λ q. zeros_least n xs (omega arith) q.1) (by_less_inv x 0 (order xs (replicate n 0)) h)

pub order_one : (x y : ℕ) → order (x ∷ []) (y ∷ []) ≡ by x y Equal
unfolding order
order_one x y = refl

-- ---- the order of std

-- by a number is by its place in the order of numbers
by_is : (x y : ℕ) (n : Ordering) → by x y n ≡ ordering_then (nat_cmp x y) n
by_is x y n =
    let then = λ (o : Ordering). ordering_then o n in
    by_cases x y n (λ o. o ≡ then (nat_cmp x y)) (λ p. ap then (nat_cmp_is x y Less p)) (λ p. ap then (nat_cmp_is x y Greater p))
    (λ p. ap then (nat_cmp_is x y Equal p))

pub by_equal_is : (x y : ℕ) → by x y Equal ≡ nat_cmp x y
by_equal_is x y =
    by_cases x y Equal (λ o. o ≡ nat_cmp x y) (nat_cmp_is x y Less) (nat_cmp_is x y Greater) (nat_cmp_is x y Equal)

-- THE ORDER OF LISTS IS THAT OF `cmp` AT SLICES
pub order_is : (a b : List ℕ) → order a b ≡ slice_cmp nat_cmp a b
unfolding order
order_is [] [] = refl
order_is [] (y ∷ ys) = refl
order_is (x ∷ xs) [] = refl
order_is (x ∷ xs) (y ∷ ys) = by_is x y (order xs ys) ∙ ap (ordering_then (nat_cmp x y)) (order_is xs ys)

-- ---- rows

-- a key is told by its identifier and its epoch
last_same : (a b : List ℕ) (x y : ℕ) → a ++ (x ∷ []) ≡ b ++ (y ∷ []) → (a ≡ b) × (x ≡ y)
last_same [] [] x y e = (refl, cc)
last_same [] (b ∷ []) x y e = let l = ap (length {A = ℕ}) e in absurd (omega arith)
last_same [] (b ∷ c ∷ bs) x y e = let l = ap (length {A = ℕ}) e in absurd (omega arith)
last_same (a ∷ []) [] x y e = let l = ap (length {A = ℕ}) e in absurd (omega arith)
last_same (a ∷ c ∷ us) [] x y e = let l = ap (length {A = ℕ}) e in absurd (omega arith)
last_same (a ∷ us) (b ∷ bs) x y e =
    let h : a ≡ b = cc in
    let t : us ++ (x ∷ []) ≡ bs ++ (y ∷ []) = cc in
    let r = last_same us bs x y t in
    (ap (λ l. a ∷ l) r.0 ∙ ap (λ z. z ∷ bs) h, r.1)

pub compared_same : (a b : Row) → compared a b ≡ Equal → (a.identifier ≡ b.identifier) × (a.part.epoch ≡ b.part.epoch)
compared_same a b e = last_same a.identifier b.identifier a.part.epoch b.part.epoch (order_same (key a) (key b) e)

-- rows under one identifier stand as their epochs do
pub compared_under : (i : List ℕ) (a b m n : ℕ) → compared (row i a m) (row i b n) ≡ by a b Equal
compared_under i a b m n = order_behind i (a ∷ []) (b ∷ []) ∙ order_one a b

-- by identifiers of one length, then by epochs
pub compared_parts : (o : Ordering) (i j : List ℕ) (a b m n : ℕ) → length i ≡ length j → order i j ≡ o
    → compared (row i a m) (row j b n) ≡ ordering_then o (by a b Equal)
compared_parts o i j a b m n h e =
    order_then i j (a ∷ []) (b ∷ []) h ∙ ap (ordering_then (order i j)) (order_one a b) ∙ ap (λ (p : Ordering). ordering_then p (by a b Equal)) e

-- the same, as `then` and `cmp` answer it
pub compared_then : (i j : List ℕ) (a b : ℕ) → length i ≡ length j → ordering_then (order i j) (nat_cmp a b) ≡ compared (row i a 0) (row j b 0)
compared_then i j a b h = ap (ordering_then (order i j)) (sym (by_equal_is a b)) ∙ sym (compared_parts (order i j) i j a b 0 0 h refl)

-- ---- how rows stand

pub self_same : (a : Row) → compared a a ≡ Equal
self_same a = order_self (key a)

pub flipped : (a b : Row) (o : Ordering) → compared a b ≡ o → compared b a ≡ flip o
flipped a b o h = order_flip (key a) (key b) ∙ ap flip h

pub less_trans : (a b c : Row) → compared a b ≡ Less → compared b c ≡ Less → compared a c ≡ Less
less_trans a b c = order_trans (key a) (key b) (key c)

-- rows of one pair stand alike
pub right_same : (c a x : Row) → compared a x ≡ Equal → compared c a ≡ compared c x
right_same c a x h = let p = compared_same a x h in rw (p.0, p.1)

pub left_same : (c a x : Row) → compared a x ≡ Equal → compared a c ≡ compared x c
left_same c a x h = let p = compared_same a x h in rw (p.0, p.1)

-- the same row, but for its bytes
pub row_same : (a b : Row) (m n : ℕ) → compared a b ≡ Equal → m ≡ n → row a.identifier a.part.epoch m ≡ row b.identifier b.part.epoch n
row_same a b m n h e = let p = compared_same a b h in rw (p.0, p.1, e)
