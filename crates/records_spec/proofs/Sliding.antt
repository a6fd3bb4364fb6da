-- Moving what stands from one place up to another inside a list: down, the first first, or up, the last first. No element is written over
-- before it is read.
-- Assumes nothing.
use mathlib.Core.Path.{◌≡◌, refl, sym, ap, ◌∙◌}
use mathlib.Core.List.{List, [], ◌∷◌}
use Prim.Native.Nat.{ℕ, suc, ◌+◌, ◌-◌, ◌≤◌, ◌<◌}
use native.Mathlib.Nat.{add-zero}
use native.Mathlib.Numerals.{add-one}
use native.Mathlib.Omega.{arith}
use lib.ListN.{length, take, drop, get_or, set, length-set, length-append, length-drop, take-append-drop, drop_of_length-le}
use lib.Seq.{length-take-le, take-take, drop-drop, drop-cons, drop-set-lt, set_comm, get_or-take, get_or-drop, get_or-set_other, sets, sets-eq, length-sets}
use Rattle.records_spec.specs.Tables.{without, over}

-- ---- down

-- what stands from `from` to i - 1 has moved to the places from `to` to k - 1; from i on nothing has
pub record MovedDown {A : Type 0} (from upto to i k : ℕ) (old now : List A) : Type 0 where
  pub to_set : sets now k (drop i (take upto old)) ≡ sets old to (drop from (take upto old))
  pub behind : drop i now ≡ drop i old
  pub long : length now ≡ length old

module _ {A : Type 0} where
  pub down_start : {k : ℕ} (from upto to : ℕ) (old : List A) → k ≡ to → MovedDown from upto to from k old old
  down_start from upto to old e = record { to_set = rw e; behind = refl; long = refl }

  first_of_drop : (l : List A) (i : ℕ) (d : A) → get_or (drop i l) 0 d ≡ get_or l i d
  first_of_drop l i d = get_or-drop i l 0 d ∙ rw (add-zero i)

  module _ {from upto to i k : ℕ} {old now : List A} (s : MovedDown from upto to i k old now) where
    pub down_step : {k' : ℕ} (d : A) → upto ≤ length old → k ≤ i → i < upto → k' ≡ k + 1
        → MovedDown from upto to (i + 1) k' old (set now k (get_or now i d))
    down_step d l z p e =
        let next : k + 1 ≡ suc k = add-one k in
        let v : get_or now i d ≡ get_or old i d = sym (first_of_drop now i d) ∙ rw s.behind (first_of_drop old i d) in
        let q : i < length (take upto old) = rw (length-take-le upto old l) p in
        record {
          to_set = rw (e, next, add-one, v) (rw (drop-cons (take upto old) i d q, get_or-take upto old i d p) at s.to_set);
          behind =
              drop-set-lt (i + 1) now k _ (omega arith)
              ∙ sym (drop-drop 1 i now)
              ∙ rw s.behind (drop-drop 1 i old);
          long = length-set now k _ ∙ s.long;
        }

    pub down_done : upto ≤ length old → upto ≤ i → now ≡ sets old to (drop from (take upto old))
    down_done l q =
        let none : drop i (take upto old) ≡ [] = drop_of_length-le (take upto old) {i = i} (omega (arith, length-take-le upto old l)) in
        rw none at s.to_set

-- what is moved to where it stands
pub stays : {A : Type 0} (from upto : ℕ) (l : List A) → from ≤ upto → upto ≤ length l → sets l from (drop from (take upto l)) ≡ l
stays from upto l p q =
    let t = length-take-le upto l q in
    let n : from + length (drop from (take upto l)) ≡ upto = omega (arith, length-drop from (take upto l)) in
    sets-eq (drop from (take upto l)) l from (omega arith)
    ∙ rw (n, ← take-take from upto l p, take-append-drop from (take upto l))
    (take-append-drop upto l)

-- what stood behind a place of the first n, moved down by one: the place is dropped
pub dropped : (n at : ℕ) (old : List ℕ) → n ≤ length old → at < n → sets old at (drop (suc at) (take n old)) ≡ over (without at (take n old)) old
dropped n at old l p =
    let t = length-take-le n old l in
    sets-eq (drop (suc at) (take n old)) old at (omega (arith, length-drop (suc at) (take n old)))
    ∙ simp (take-take at n old (omega arith), length-append, length-take-le at old (omega arith))

-- ---- up

-- what stands from i on up to `upto` has moved to the places from k on
pub record MovedUp {A : Type 0} (upto i k : ℕ) (old now : List A) : Type 0 where
  pub set_so_far : now ≡ sets old k (drop i (take upto old))

module _ {A : Type 0} where
  pub up_start : (upto k : ℕ) (old : List A) → upto ≤ length old → MovedUp upto upto k old old
  up_start upto k old l =
      let none : drop upto (take upto old) ≡ [] = drop_of_length-le (take upto old) {i = upto} (omega (arith, length-take-le upto old l)) in
      record { set_so_far = rw none }

  -- a place before all that is set
  set_first : (l : List A) (i j : ℕ) (vs : List A) (x : A) → j < i → set (sets l i vs) j x ≡ sets (set l j x) i vs
  set_first l i j [] x h = refl
  set_first l i j (v ∷ vs) x h = set_first (set l i v) (suc i) j vs x (omega arith)
      ∙ ap (λ (m : List A). sets m (suc i) vs) (set_comm l i j v x (λ e. omega arith))

  get_first : (l : List A) (i j : ℕ) (vs : List A) (d : A) → j < i → get_or (sets l i vs) j d ≡ get_or l j d
  get_first l i j [] d h = refl
  get_first l i j (v ∷ vs) d h = get_first (set l i v) (suc i) j vs d (omega arith) ∙ get_or-set_other l i j v d (λ e. omega arith)

  module _ {upto i k : ℕ} {old now : List A} (s : MovedUp upto i k old now) where
    pub up_long : length now ≡ length old
    up_long = ap (length {A = A}) s.set_so_far ∙ length-sets old k (drop i (take upto old))

    pub up_step : (d : A) → upto ≤ length old → 0 < i → i ≤ upto → i ≤ k → MovedUp upto (i - 1) (k - 1) old (set now (k - 1) (get_or now (i - 1) d))
    up_step d l z p q =
        let e : suc (k - 1) ≡ k = omega arith in
        let f : suc (i - 1) ≡ i = omega arith in
        let b : i - 1 < length (take upto old) = omega (arith, length-take-le upto old l) in
        let v : get_or now (i - 1) d ≡ get_or old (i - 1) d = rw s.set_so_far (get_first old k (i - 1) (drop i (take upto old)) d (omega arith)) in
        let x = get_or old (i - 1) d in
        let rest = drop i (take upto old) in
        let run : drop (i - 1) (take upto old) ≡ x ∷ rest =
        drop-cons (take upto old) (i - 1) d b ∙ ap (λ (y : A). y ∷ drop (suc (i - 1)) (take upto old)) (get_or-take upto old (i - 1) d (omega arith))
        ∙ ap (λ (j : ℕ). x ∷ drop j (take upto old)) f in
        record {
          set_so_far =
              ap (set now (k - 1)) v
              ∙ ap (λ (l : List A). set l (k - 1) x) s.set_so_far
              ∙ set_first old k (k - 1) rest x (omega arith)
              ∙ ap (λ (j : ℕ). sets (set old (k - 1) x) j rest) (sym e)
              ∙ sym (ap (sets old (k - 1)) run);
        }

    pub up_done : {from to : ℕ} → i ≡ from → k ≡ to → now ≡ sets old to (drop from (take upto old))
    up_done e f = s.set_so_far ∙ rw (e, f)
