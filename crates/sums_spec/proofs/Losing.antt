-- The rows of the zero identifier stand first, since no identifier of 32 bytes is less; what is lost of them at version 0.
-- Assumes nothing.
use mathlib.Core.Path.{◌≡◌, refl, sym, ap, ◌∙◌, subst}
use mathlib.Core.Bool.{Bool, true, false, cond, ◌&&◌}
use mathlib.Core.List.{List, [], ◌∷◌}
use Prim.Native.Nat.{ℕ, suc, ◌+◌, ◌≤◌, ◌<◌}
use native.Mathlib.Omega.{arith}
use lib.Dec.{leb, ltb}
use lib.ListN.{length, take, drop, get_or}
use lib.Seq.{length-take-le, get_or-take}
use borrow.Author.Tests.{lt-ltb, le-ltb, le-leb, lt-leb}
use Rattle.records_spec.specs.Flags.{owner_length, zeros, same}
use Rattle.records_spec.proofs.Owners.{same_self, same_equal}
use Rattle.rows_spec.specs.Order.{order}
use Rattle.rows_spec.specs.Rows.{Row, compared, ascends, ids_of, Tables, rows_in}
use Rattle.rows_spec.specs.Inner.Rows.{Proper}
use Rattle.std.specs.Prelude.{nat_eq}
use Rattle.std.specs.Cmp.Lexicographic.{pointwise}
use Rattle.std.specs.List.{prefix_len}
use Rattle.std.proofs.lemmas.List.Sums.{prefix_len-le-length}
use Rattle.std.specs.declared.cmp.Ordering.{Ordering}
use Rattle.std.specs.declared.cmp.Ordering.TheVariants.{Less, Equal, Greater}
use Rattle.rows_spec.proofs.Comparing.{order_same, compared_parts, zeros_least}
use Rattle.rows_spec.proofs.Rows.{length_rows, asc_tail}
use Rattle.rows_spec.proofs.Columns.{length_ids, columns}
use Rattle.sums_spec.specs.Joins.{add_row}
use Rattle.sums_spec.specs.Sums.{unknown, of_zeros, any_of_zeros, without_zeros, basic_plus}
use Rattle.sums_spec.specs.Inner.Sums.{Lost}
use Rattle.sums_spec.proofs.Joining.{AllAfter, all_after}

-- ---- one identifier

pub zero_same : (i : List ℕ) → order i zeros ≡ Equal → same i zeros ≡ true
zero_same i h = ap (λ (x : List ℕ). same x zeros) (order_same i zeros h) ∙ same_self zeros

-- behind a row above the zeros none has the zero identifier
later_other : (a b : Row) → length a.identifier ≡ owner_length → order a.identifier zeros ≡ Greater → compared a b ≡ Less → of_zeros b ≡ false
later_other a b l h k = go (same b.identifier zeros) refl
  where
    go : (x : Bool) → same b.identifier zeros ≡ x → x ≡ false
    go false e = refl
    go true e =
        let z : b.identifier ≡ zeros = same_equal b.identifier zeros e in
        let g : compared a b ≡ Greater = compared_parts Greater a.identifier b.identifier a.part.epoch b.part.epoch a.part.bytes
        b.part.bytes (l ∙ sym (ap (length {A = ℕ}) z)) (ap (order a.identifier) z ∙ h) in
        cc

-- ---- all rows

module _ (a : Row) (rs : List Row) where
  without_zero : of_zeros a ≡ true → without_zeros (a ∷ rs) ≡ without_zeros rs
  unfolding without_zeros
  without_zero z = rw z

  without_other : of_zeros a ≡ false → without_zeros (a ∷ rs) ≡ a ∷ without_zeros rs
  unfolding without_zeros
  without_other z = rw z

  any_zero : of_zeros a ≡ true → any_of_zeros (a ∷ rs) ≡ true
  unfolding any_of_zeros
  any_zero z = rw z

  any_other : of_zeros a ≡ false → any_of_zeros (a ∷ rs) ≡ any_of_zeros rs
  unfolding any_of_zeros
  any_other z = rw z

module _ (a : Row) (l : length a.identifier ≡ owner_length) (h : order a.identifier zeros ≡ Greater) where
  none_lost : (rs : List Row) → AllAfter a rs → without_zeros rs ≡ rs
  unfolding without_zeros
  none_lost [] k = refl
  none_lost (b ∷ rs) k = without_other b rs (later_other a b l h k.0) ∙ ap (λ (m : List Row). b ∷ m) (none_lost rs k.1)

  none_there : (rs : List Row) → AllAfter a rs → any_of_zeros rs ≡ false
  unfolding any_of_zeros
  none_there [] k = refl
  none_there (b ∷ rs) k = any_other b rs (later_other a b l h k.0) ∙ none_there rs k.1

-- whether an identifier is zero, as `==` tells it
abbrev pub is_zero : List ℕ → Bool
is_zero i = pointwise nat_eq i zeros

same_is : (xs ys : List ℕ) → same xs ys ≡ pointwise nat_eq xs ys
unfolding same
same_is [] [] = refl
same_is [] (y ∷ ys) = refl
same_is (x ∷ xs) [] = refl
same_is (x ∷ xs) (y ∷ ys) = ap (λ (b : Bool). nat_eq x y && b) (same_is xs ys)

module _ (a : Row) (rs : List Row) where
  first_zero : of_zeros a ≡ true → prefix_len is_zero (ids_of (a ∷ rs)) ≡ 1 + prefix_len is_zero (ids_of rs)
  unfolding ids_of
  first_zero z = rw (sym (same_is a.identifier zeros) ∙ z)

  first_other : of_zeros a ≡ false → prefix_len is_zero (ids_of (a ∷ rs)) ≡ 0
  unfolding ids_of
  first_other z = rw (sym (same_is a.identifier zeros) ∙ z)

-- an identifier of 32 bytes that is not zero is above zero
above_zero : (i : List ℕ) → length i ≡ owner_length → same i zeros ≡ false → order i zeros ≡ Greater
above_zero i l z = go (order i zeros) refl
  where
    go : (o : Ordering) → order i zeros ≡ o → o ≡ Greater
    go Less e = absurd (zeros_least owner_length i l e)
    go Equal e = let f = zero_same i e in cc
    go Greater e = refl

-- every identifier has 32 bytes
abbrev pub AllLong : List (List ℕ) → Type 0
AllLong is = (i : ℕ) → i < length is → length (get_or is i []) ≡ owner_length

-- the rows of the zero identifier are the first
abbrev ZerosFirst : List Row → Type 0
ZerosFirst rs =
    let k = prefix_len is_zero (ids_of rs) in (without_zeros rs ≡ drop k rs) × (any_of_zeros rs ≡ ltb 0 k)

-- those of ascending rows are
zeros_first : (rs : List Row) → AllLong (ids_of rs) → ascends rs ≡ true → ZerosFirst rs
unfolding without_zeros any_of_zeros ids_of
zeros_first [] long s = (refl, refl)
zeros_first (a ∷ rs) long s = go (of_zeros a) refl (zeros_first rs (λ i h. long (suc i) (omega arith)) (asc_tail a rs s))
  where
    go : (b : Bool) → of_zeros a ≡ b → ZerosFirst rs → ZerosFirst (a ∷ rs)
    go true z ih =
        let k = prefix_len is_zero (ids_of rs) in
        let e : suc k ≡ prefix_len is_zero (ids_of (a ∷ rs)) = omega (arith, first_zero a rs z) in
        (without_zero a rs z ∙ ih.0 ∙ ap (λ (m : ℕ). drop m (a ∷ rs)) e, any_zero a rs z ∙ sym (lt-ltb 0 _ (omega (arith, e))))
    go false z ih =
        let l = long 0 (omega arith) in
        let g = above_zero a.identifier l z in
        let after = all_after a rs s in
        let e = sym (first_other a rs z) in (
          without_other a rs z ∙ ap (λ (m : List Row). a ∷ m) (none_lost a l g rs after) ∙ ap (λ (m : ℕ). drop m (a ∷ rs)) e,
          any_other a rs z ∙ none_there a l g rs after ∙ ap (ltb 0) e,
        )

-- how many are lost of the first n rows
pub lost_first : {n : ℕ} {t : Tables} {k : ℕ} → Proper n t → AllLong t.ids → k ≡ prefix_len is_zero (take n t.ids) → Lost (rows_in n t) n k
lost_first {n} {t} p long e =
    let l = length-take-le n t.ids p.room.ids_long in
    let column = (columns p.room).ids_first in
    let first : AllLong (take n t.ids) = λ i h.
    ap (length {A = ℕ}) (get_or-take n t.ids i [] (omega (arith, l))) ∙ long i (omega (arith, l, p.room.ids_long)) in
    let z = zeros_first (rows_in n t) (subst AllLong (sym column) first) p.rises in
    subst (Lost (rows_in n t) n) (ap (prefix_len is_zero) column ∙ sym e)
    (record {
      within = omega (arith, prefix_len-le-length is_zero (ids_of (rows_in n t)), length_ids (rows_in n t), length_rows p.room);
      others = z.0;
      some_lost = z.1;
    })

-- ---- a basic number plus rows

pub basic_later : (v n : ℕ) (rs : List Row) → 1 ≤ v → basic_plus v n rs ≡ add_row (unknown n) rs
unfolding basic_plus
basic_later v n rs h = rw (le-leb 1 v h)

-- either the number's row is added, or rows are lost
pub basic_cases : (P : List Row → Type 0) (v n : ℕ) (rs : List Row) → P (add_row (unknown n) rs) → P (without_zeros rs) → P (basic_plus v n rs)
unfolding basic_plus
basic_cases P v n rs made lost = go (leb _ v) (any_of_zeros rs)
  where
    go : (later any : Bool) → P (cond later (add_row (unknown n) rs) (cond any (without_zeros rs) (add_row (unknown n) rs)))
    go true any = made
    go false true = lost
    go false false = made

-- where no row has the zero identifier, none is lost
pub basic_whole : (v n : ℕ) (rs : List Row) → any_of_zeros rs ≡ false → basic_plus v n rs ≡ add_row (unknown n) rs
unfolding basic_plus
basic_whole v n rs h = rw h (either (leb _ v))
  where
    either : (later : Bool) → cond later (add_row (unknown n) rs) (add_row (unknown n) rs) ≡ add_row (unknown n) rs
    either true = refl
    either false = refl

-- by the version and by how many are lost
module _ (v n : ℕ) {rs : List Row} {m k : ℕ} (l : Lost rs m k) where
  pub basic_made : k ≤ 0 → basic_plus v n rs ≡ add_row (unknown n) rs
  basic_made h = basic_whole v n rs (l.some_lost ∙ le-ltb 0 k h)

  pub basic_lost : v < 1 → 0 < k → basic_plus v n rs ≡ drop k rs
  unfolding basic_plus
  basic_lost e h = rw (lt-leb 1 v e, l.some_lost, lt-ltb 0 k h) l.others
