-- Old records one after another: the equations of `old_at` and `olds`, and one turn over the records at a place of the input.
-- Assumes nothing.
use Prim.Native.Nat.{ℕ, zero, suc, pred, ◌+◌, ◌≤◌, ◌<◌}
use native.Mathlib.Decide.{dec_lt}
use native.Mathlib.Nat.{add-zero}
use native.Mathlib.Omega.{arith}
use mathlib.Core.Path.{◌≡◌, refl, sym, ap, ◌∙◌}
use Rattle.std.specs.Prelude.{Option, None, Some}
use mathlib.Core.List.{List, [], ◌∷◌}
use borrow.Author.Tests.{lt-ltb, le-ltb, le-leb, lt-leb}
use lib.ListN.{length, take, drop, length-drop, drop_of_length-le}
use lib.Seq.{drop-drop}
use Rattle.fields_spec.specs.Big.{said}
use Rattle.fields_spec.specs.Varint.{high, value}
use Rattle.repair_spec.specs.Olds.{Old, old_at, Olds, following_old, olds}

-- ---- one record

pub old_short : (at : ℕ) (xs : List ℕ) → length xs < 2 → old_at at xs ≡ None
unfolding old_at
old_short at xs h = simp (lt-leb 2 (length xs) h)

-- ten continued bytes, or bytes that end before the varint
pub old_ten : (at : ℕ) (xs : List ℕ) → 2 ≤ length xs → 10 ≤ high (drop 2 xs) → old_at at xs ≡ None
unfolding old_at
old_ten at xs h t = simp (le-leb 2 (length xs) h, le-ltb (high (drop 2 xs)) 10 t)

pub old_cut : (at : ℕ) (xs : List ℕ) → 2 ≤ length xs → length (drop 2 xs) ≤ high (drop 2 xs) → old_at at xs ≡ None
unfolding old_at
old_cut at xs h t =
    elim (dec_lt (high (drop 2 xs)) 10) [
      | yes a ↦ simp (le-leb 2 (length xs) h, lt-ltb (high (drop 2 xs)) 10 a, le-ltb (high (drop 2 xs)) (length (drop 2 xs)) t)
      | no a ↦ old_ten at xs h (omega arith)
    ]

-- the record of a whole varint
abbrev pub old_there : ℕ → List ℕ → Old
old_there at xs = record {
  offset = at;
  epoch = said (take 2 xs);
  count = value (take (suc (high (drop 2 xs))) (drop 2 xs));
  size = 3 + high (drop 2 xs);
}

pub old_there_lem : (at : ℕ) (xs : List ℕ) → 2 ≤ length xs → high (drop 2 xs) < 10 → high (drop 2 xs) < length (drop 2 xs)
    → old_at at xs ≡ Some (old_there at xs)
unfolding old_at
old_there_lem at xs h t l = simp (le-leb 2 (length xs) h, lt-ltb (high (drop 2 xs)) 10 t, lt-ltb (high (drop 2 xs)) (length (drop 2 xs)) l)

-- what a record that was read is
pub record There (at : ℕ) (xs : List ℕ) (o : Old) : Type 0 where
  pub ten : high (drop 2 xs) < 10
  pub inside : high (drop 2 xs) < length (drop 2 xs)
  pub long : 2 ≤ length xs
  pub is : o ≡ old_there at xs

some_same : (x y : Old) → Some x ≡ Some y → x ≡ y
some_same x y e = cc

none_some : (o : Old) → ◌≡◌ {A = Option Old} None (Some o) → ⊥
none_some o e = let z : ◌≡◌ {A = ℕ} 0 1 = cc in omega arith

pub old_inv : (at : ℕ) (xs : List ℕ) (o : Old) → old_at at xs ≡ Some o → There at xs o
old_inv at xs o e =
    elim (dec_lt (length xs) 2) [
      | yes h ↦ absurd (none_some o (sym (old_short at xs h) ∙ e))
      | no h ↦
          elim (dec_lt (high (drop 2 xs)) 10) [
            | yes t ↦
                elim (dec_lt (high (drop 2 xs)) (length (drop 2 xs))) [
                  | yes l ↦ record {
                    ten = t;
                    inside = l;
                    long = omega arith;
                    is = some_same o (old_there at xs) (sym e ∙ old_there_lem at xs (omega arith) t l);
                  }
                  | no l ↦ absurd (none_some o (sym (old_cut at xs (omega arith) (omega arith)) ∙ e))
                ]
            | no t ↦ absurd (none_some o (sym (old_ten at xs (omega arith) (omega arith)) ∙ e))
          ]
    ]

-- ---- all records

pub olds_skip : (at k : ℕ) (xs : List ℕ) → olds at k xs ≡ olds (at + k) 0 (drop k xs)
unfolding olds
olds_skip at zero [] = refl
olds_skip at (suc k) [] = refl
olds_skip at zero (x ∷ xs) = rw (add-zero at)
olds_skip at (suc k) (x ∷ xs) =
    let e : suc at + k ≡ at + suc k = omega arith in
    olds_skip (suc at) k xs ∙ ap (λ (i : ℕ). olds i 0 (drop k xs)) e

pub olds_nil : (at : ℕ) → olds at 0 [] ≡ record { records = []; cut = None }
unfolding olds
olds_nil at = refl

pub olds_cut : (at : ℕ) (xs : List ℕ) → 1 ≤ length xs → old_at at xs ≡ None → olds at 0 xs ≡ record { records = []; cut = Some at }
unfolding olds
olds_cut at [] h q = absurd (omega arith)
olds_cut at (x ∷ xs) h q = ap (λ (n : Option Old). following_old n at (λ o. olds (suc at) (pred o.size) xs)) q

-- what a record and those behind it make
abbrev pub before : Old → Olds → Olds
before o p = record { records = o ∷ p.records; cut = p.cut }

pub olds_more : (at : ℕ) (xs : List ℕ) (o : Old) → 1 ≤ length xs → 1 ≤ o.size → old_at at xs ≡ Some o
    → olds at 0 xs ≡ before o (olds (at + o.size) 0 (drop o.size xs))
unfolding olds
olds_more at [] o h hu q = absurd (omega arith)
olds_more at (x ∷ xs) o h hu q =
    let u : suc (pred o.size) ≡ o.size = omega arith in
    let e : suc at + pred o.size ≡ at + o.size = omega arith in
    ap (λ (n : Option Old). following_old n at (λ o. olds (suc at) (pred o.size) xs)) q
    ∙ ap (before o) (olds_skip (suc at) (pred o.size) xs ∙ ap (λ (i : ℕ). olds i 0 (drop (pred o.size) xs)) e
    ∙ ap (λ (j : ℕ). olds (at + o.size) 0 (drop j (x ∷ xs))) u)

-- ---- at a place of the input

-- what is read from a place on
abbrev pub rest : List ℕ → ℕ → Olds
rest d at = olds at 0 (drop at d)

pub rest_end : (d : List ℕ) (at : ℕ) → length d ≤ at → rest d at ≡ record { records = []; cut = None }
rest_end d at h = ap (olds at 0) (drop_of_length-le d {i = at} h) ∙ olds_nil at

pub rest_cut : (d : List ℕ) (at : ℕ) → at < length d → old_at at (drop at d) ≡ None → rest d at ≡ record { records = []; cut = Some at }
rest_cut d at h q = olds_cut at (drop at d) (omega (arith, length-drop at d)) q

-- a record that was read, and those behind it
pub record Turn (d : List ℕ) (at : ℕ) (o : Old) : Type 0 where
  pub inside : at + o.size ≤ length d
  pub some_bytes : 3 ≤ o.size
  pub starts : o.offset ≡ at
  pub step : rest d at ≡ before o (rest d (at + o.size))

pub rest_more : (d : List ℕ) (at : ℕ) (o : Old) → at < length d → old_at at (drop at d) ≡ Some o → Turn d at o
rest_more d at o h q =
    let t = old_inv at (drop at d) o q in
    let s : o.size ≡ 3 + high (drop 2 (drop at d)) = ap (λ (x : Old). x.size) t.is in
    let l = length-drop at d in
    let l2 = length-drop 2 (drop at d) in
    record {
      inside = omega (arith, t.inside, t.long);
      some_bytes = omega arith;
      starts = ap (λ (x : Old). x.offset) t.is;
      step =
          olds_more at (drop at d) o (omega arith) (omega arith) q
          ∙ ap (λ (xs : List ℕ). before o (olds (at + o.size) 0 xs)) (drop-drop o.size at d);
    }
