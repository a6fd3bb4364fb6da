-- Many removals added up: from version 1 on neither the order nor the grouping shows.
-- Assumes nothing.
use mathlib.Core.Path.{◌≡◌, refl, sym, ap, ◌∙◌, subst}
use mathlib.Core.List.{List, [], ◌∷◌, ◌++◌, Permᴰ}
use Prim.Native.Nat.{ℕ, ◌≤◌}
use Rattle.rows_spec.specs.Removals.{Removal, nothing}
use Rattle.sums_spec.specs.Sums.{sum}
use Rattle.sums_spec.specs.AnyOrder.{ProperRemoval}
use Rattle.sums_spec.specs.Batches.{Each, Group, one, two, sum_of, members, AnyGrouping}
use Rattle.sums_spec.proofs.AnyOrder.{none_neutral, sum_comm, sum_assoc}

-- removals added in turn to a first one
unfoldable pub sum_all : ℕ → Removal → List Removal → Removal
sum_all v x [] = x
sum_all v x (y ∷ ys) = sum_all v (sum v x y) ys

module _ (v : ℕ) (h : 1 ≤ v) where
  -- the first one can be added last of all
  pub sum_first : (x : Removal) (ys : List Removal) → sum_all v x ys ≡ sum v x (sum_all v nothing ys)
  unfolding sum_all
  sum_first x [] = sym ((none_neutral v).on_the_right x)
  sum_first x (y ∷ ys) = sum_first (sum v x y) ys ∙ sum_assoc v h x y (sum_all v nothing ys) ∙ ap (sum v x) (sym (sum_first y ys))

  -- the first two in either order
  sum_swap : (a b : Removal) → ProperRemoval a → ProperRemoval b → (ys : List Removal) → sum_all v nothing (a ∷ b ∷ ys) ≡ sum_all v nothing (b ∷ a ∷ ys)
  unfolding sum_all
  sum_swap a b p q ys = ap (λ (x : Removal). sum_all v x ys) (sum_comm v h a b p q)

-- in another order each still has it
pub each_perm : {A : Type 0} (P : A → Type 0) {xs ys : List A} → Permᴰ xs ys → Each P xs → Each P ys
each_perm P Permᴰ.nil p = p
each_perm P (Permᴰ.cons e d) p = (subst P e p.0, each_perm P d p.1)
each_perm P (Permᴰ.swap e f) p = (subst P f p.1.0, (subst P e p.0, p.1.1))
each_perm P (Permᴰ.trans d e) p = each_perm P e (each_perm P d p)

-- IN ANY ORDER
pub sum_perm : (v : ℕ) → 1 ≤ v → {xs ys : List Removal} → Permᴰ xs ys → Each ProperRemoval xs → sum_all v nothing xs ≡ sum_all v nothing ys
unfolding sum_all
sum_perm v h Permᴰ.nil p = refl
sum_perm v h (Permᴰ.cons {a} {b} {l₁} {l₂} e d) p =
    sum_first v h a l₁ ∙ ap (sum v a) (sum_perm v h d p.1) ∙ ap (λ (x : Removal). sum v x (sum_all v nothing l₂)) e ∙ sym (sum_first v h b l₂)
sum_perm v h (Permᴰ.swap {a} {b} {a'} {b'} {l} e f) p =
    sum_swap v h a b p.0 p.1.0 l ∙ ap (λ (x : Removal). sum_all v nothing (x ∷ a ∷ l)) f ∙ ap (λ (x : Removal). sum_all v nothing (a' ∷ x ∷ l)) e
sum_perm v h (Permᴰ.trans d e) p = sum_perm v h d p ∙ sum_perm v h e (each_perm ProperRemoval d p)

-- ---- group by group

sum_append : (v : ℕ) → 1 ≤ v → (xs ys : List Removal) (x : Removal) → sum_all v x (xs ++ ys) ≡ sum v (sum_all v x xs) (sum_all v nothing ys)
unfolding sum_all
sum_append v h [] ys x = sum_first v h x ys
sum_append v h (y ∷ xs) ys x = sum_append v h xs ys (sum v x y)

sum_members : (v : ℕ) → 1 ≤ v → (a : Group) → sum_of v a ≡ sum_all v nothing (members a)
unfolding sum_all sum_of members
sum_members v h (one x) = refl
sum_members v h (two a b) =
    ap (λ (x : Removal). sum v x (sum_of v b)) (sum_members v h a) ∙ ap (sum v (sum_all v nothing (members a))) (sum_members v h b)
    ∙ sym (sum_append v h (members a) (members b) nothing)

-- FROM VERSION 1 ON NEITHER THE GROUPING NOR THE ORDER SHOWS
pub any_grouping : (v : ℕ) → 1 ≤ v → AnyGrouping v
any_grouping v h a b p d = sum_members v h a ∙ sum_perm v h d p ∙ sym (sum_members v h b)
