-- Epochs that ascend, all of them and from a place on, and the place of an epoch among them. By cases on the table.
-- Assumes nothing.
use mathlib.Core.Path.{◌≡◌, refl}
use mathlib.Core.List.{List, [], ◌∷◌}
use mathlib.Core.Bool.{true, ◌&&◌, and-eq-true_iff}
use Prim.Native.Nat.{ℕ, zero, suc, ◌+◌, ◌≤◌, ◌<◌, zero-le, suc-le-suc}
use native.Mathlib.Numerals.{add-one}
use native.Mathlib.Omega.{arith}
use native.Mathlib.Decide.{dec_lt, ℕ_discrete}
use lib.Dec.{ltb}
use lib.ListN.{length, drop, get_or, drop_of_length-le}
use lib.Seq.{drop-cons}
use borrow.Author.Tests.{ltb-true, lt-ltb, le-ltb}
use Rattle.records_spec.specs.Tables.{ascending, rising, place_of}

-- an epoch is below another, at it or above it
pub data Side (x e : ℕ) : Type 0 where
  lower : x < e → Side x e
  equal : x ≡ e → Side x e
  higher : e < x → Side x e

pub side : (x e : ℕ) → Side x e
side x e =
    elim (dec_lt x e) [
      | yes p ↦ lower p
      | no p ↦ elim (ℕ_discrete x e) [ yes q ↦ equal q | no q ↦ higher (omega arith) ]
    ]

pub asc_none : (b : ℕ) → ascending b [] ≡ true
unfolding ascending
asc_none b = refl

pub asc_head : (b e : ℕ) (es : List ℕ) → ascending b (e ∷ es) ≡ true → b < e
unfolding ascending
asc_head b e es h = ltb-true _ _ ((and-eq-true_iff (ltb b e) (ascending e es)).0 h).0

pub asc_tail : (b e : ℕ) (es : List ℕ) → ascending b (e ∷ es) ≡ true → ascending e es ≡ true
unfolding ascending
asc_tail b e es h = ((and-eq-true_iff (ltb b e) (ascending e es)).0 h).1

pub asc_cons : (b e : ℕ) (es : List ℕ) → b < e → ascending e es ≡ true → ascending b (e ∷ es) ≡ true
unfolding ascending
asc_cons b e es p h = rw (lt-ltb b e p) h

-- what ascends from b ascends from what is below b
pub asc_lower : (a b : ℕ) (es : List ℕ) → a ≤ b → ascending b es ≡ true → ascending a es ≡ true
asc_lower a b [] p h = asc_none a
asc_lower a b (e ∷ es) p h =
    let q : b < e = asc_head b e es h in
    asc_cons a e es (omega arith) (asc_tail b e es h)

-- every one of them is above what they ascend from
pub asc_above : (b : ℕ) (es : List ℕ) (i : ℕ) → ascending b es ≡ true → i < length es → b < get_or es i 0
asc_above b [] i h p = absurd (omega arith)
asc_above b (e ∷ es) zero h p = asc_head b e es h
asc_above b (e ∷ es) (suc i) h p =
    let q = asc_head b e es h in
    let r = asc_above e es i (asc_tail b e es h) (omega arith) in
    omega arith

pub asc_rises : (b : ℕ) (es : List ℕ) → ascending b es ≡ true → rising es ≡ true
unfolding rising
asc_rises b [] h = refl
asc_rises b (e ∷ es) h = asc_tail b e es h

pub rises_none : rising [] ≡ true
unfolding rising
rises_none = refl

pub asc_of_rises : (e : ℕ) (es : List ℕ) → rising (e ∷ es) ≡ true → ascending e es ≡ true
unfolding rising
asc_of_rises e es h = h

pub rises_cons : (e : ℕ) (es : List ℕ) → ascending e es ≡ true → rising (e ∷ es) ≡ true
unfolding rising
rises_cons e es h = h

-- ---- from a place on

pub drop_next : (es : List ℕ) (i : ℕ) → i < length es → drop i es ≡ get_or es i 0 ∷ drop (i + 1) es
drop_next es i p = rw add-one (drop-cons es i 0 p)

pub rising_drop : (i : ℕ) (es : List ℕ) → rising es ≡ true → rising (drop i es) ≡ true
unfolding rising
rising_drop zero es h = h
rising_drop (suc i) [] h = h
rising_drop (suc i) (e ∷ es) h = rising_drop i es (asc_rises e es h)

module _ (es : List ℕ) (i : ℕ) where
  -- what stands from place i on begins with the epoch there
  pub asc_on : (b : ℕ) → i < length es → ascending b (drop i es) ≡ (ltb b (get_or es i 0) && ascending (get_or es i 0) (drop (i + 1) es))
  unfolding ascending
  asc_on b p = rw (drop_next es i p)

  -- behind place i the epochs ascend from the one there
  pub asc_behind : rising es ≡ true → i < length es → ascending (get_or es i 0) (drop (i + 1) es) ≡ true
  unfolding rising
  asc_behind h p = rw (drop_next es i p) at (rising_drop i es h)

  -- from place i on they ascend from what is below the one there
  pub asc_from : (b : ℕ) → rising es ≡ true → i < length es → b < get_or es i 0 → ascending b (drop i es) ≡ true
  asc_from b h p q = rw (asc_on b p, lt-ltb b (get_or es i 0) q) (asc_behind h p)

  -- behind the end there are none
  pub asc_end : (b : ℕ) → length es ≤ i → ascending b (drop i es) ≡ true
  asc_end b p = rw (drop_of_length-le es {i = i} p) (asc_none b)

-- ---- the place of an epoch

pub place_within : (e : ℕ) (es : List ℕ) → place_of e es ≤ length es
unfolding place_of
place_within e [] = zero-le
place_within e (x ∷ xs) =
    elim (dec_lt x e) [
      | yes p ↦ rw (lt-ltb x e p) (suc-le-suc (place_within e xs))
      | no p ↦ rw (le-ltb x e (omega arith)) zero-le
    ]

-- it is not behind an epoch that is not below
pub place_upto : (e : ℕ) (es : List ℕ) (i : ℕ) → i < length es → e ≤ get_or es i 0 → place_of e es ≤ i
unfolding place_of
place_upto e [] i p q = absurd (omega arith)
place_upto e (x ∷ xs) zero p q = rw (le-ltb x e q) zero-le
place_upto e (x ∷ xs) (suc i) p q =
    elim (dec_lt x e) [
      | yes l ↦ rw (lt-ltb x e l) (suc-le-suc (place_upto e xs i (omega arith) q))
      | no l ↦ rw (le-ltb x e (omega arith)) zero-le
    ]

-- in a rising table it is behind every epoch below
pub place_past : (e : ℕ) (es : List ℕ) (i : ℕ) → rising es ≡ true → i < length es → get_or es i 0 < e → i < place_of e es
unfolding place_of
place_past e [] i h p q = absurd (omega arith)
place_past e (x ∷ xs) zero h p q = rw (lt-ltb x e q) (suc-le-suc zero-le)
place_past e (x ∷ xs) (suc i) h p q =
    let a = asc_of_rises x xs h in
    let l : x < get_or xs i 0 = asc_above x xs i a (omega arith) in
    rw (lt-ltb x e (omega arith)) (suc-le-suc (place_past e xs i (asc_rises x xs a) (omega arith) q))
