-- What remains of ascending records of which bytes were removed, record by record. From this, removals compose: a bytes, then b bytes of what
-- remains, leave and give what a + b bytes do.
-- Assumes nothing.
use mathlib.Core.Path.{◌≡◌, refl, sym, ap, ◌∙◌}
use mathlib.Core.Bool.{Bool, true, false, cond}
use mathlib.Core.List.{List, [], ◌∷◌, ◌++◌, append_assoc}
use Prim.Native.Nat.{ℕ, zero, suc, ◌+◌, ◌-◌, ◌≤◌, ◌<◌, min}
use native.Mathlib.Nat.{sub-add-eq}
use native.Mathlib.Omega.{arith}
use native.Mathlib.Decide.{dec_lt}
use lib.Dec.{ltb, eqb}
use borrow.Author.Tests.{lt-ltb, le-ltb, le-leb, lt-leb}
use Rattle.records_spec.specs.Tables.{At, ◌⦂◌, epochs_of, ascending}
use Rattle.splitting_spec.specs.Sections.{minimum, above, spare, asked, section, sections, split}
use Rattle.splitting_spec.proofs.Sections.{split_none}
use Rattle.splitting_spec.proofs.Given.{record_has, record_gives}
use Rattle.removal_spec.specs.Removing.{remainder, minus}
use Rattle.removal_spec.proofs.Lessening.{minus_none, minus_cons, minus_above}
use Rattle.removal_spec.proofs.OwnSplit.{minus_nothing}

-- what remains of records of which n bytes were removed
abbrev pub remaining : ℕ → List At → ℕ → List At
remaining base rs n = minus rs (split base rs n)

pub remaining_none : (base : ℕ) (rs : List At) → remaining base rs 0 ≡ rs
remaining_none base rs = ap (minus rs) (split_none base rs) ∙ minus_nothing rs

-- ---- record by record

-- what stays of a record of which n bytes are asked
abbrev pub stays : At → ℕ → List At
stays r n = cond (ltb 0 n) (remainder r.epoch (r.bytes - min n (above r))) (r ∷ [])

-- what stays of all records, each asked what the later ones cannot give
unfoldable pub remains : List At → ℕ → List At
remains [] n = []
remains (r ∷ rs) n = stays r (asked n rs) ++ remains rs n

module _ (base n : ℕ) where
  -- the later records ys among all
  later_remain : (xs ys : List At) → ascending base (epochs_of (xs ++ ys)) ≡ true → minus ys (split base (xs ++ ys) n) ≡ remains ys n
  unfolding remains
  later_remain xs [] h = minus_none _
  later_remain xs (r ∷ ys) h =
      let a = append_assoc xs (r ∷ []) ys in
      let i = later_remain (xs ++ (r ∷ [])) ys (ap (λ (l : List At). ascending base (epochs_of l)) a ∙ h) in
      minus_cons r ys (split base (xs ++ (r ∷ ys)) n)
      ∙ rw (record_has r ys n base xs h, record_gives r ys n base xs h)
      (ap (λ (l : List At). stays r (asked n ys) ++ l) (ap (λ (l : List At). minus ys (split base l n)) (sym a) ∙ i))

  pub remaining_each : (rs : List At) → ascending base (epochs_of rs) ≡ true → remaining base rs n ≡ remains rs n
  remaining_each rs h = later_remain [] rs h

-- where something is asked, or more than 3 are held, only what is left decides
pub stays_left : (r : At) (n : ℕ) → 0 < n + above r → stays r n ≡ remainder r.epoch (r.bytes - min n (above r))
stays_left r n p =
    elim (dec_lt 0 n) [
      | yes q ↦ rw (lt-ltb 0 n q)
      | no q ↦
          let z : r.bytes - min n (above r) ≡ r.bytes = omega arith in
          rw (le-ltb 0 n (omega arith), z, lt-leb r.bytes minimum (omega arith))
    ]

-- where something is asked, and no less than all above 3, nothing stays
stays_none : (r : At) (n : ℕ) → 0 < n → above r ≤ n → stays r n ≡ []
stays_none r n p q = stays_left r n (omega arith) ∙ rw (le-leb (r.bytes - min n (above r)) minimum (omega arith))

-- a record is dropped, or stays with n bytes fewer
stays_cases : (P : List At → Type 0) (r : At) (n : ℕ)
    → (0 < n → above r ≤ n → P []) → ((0 < n → n < above r) → P (r.epoch ⦂ (r.bytes - n) ∷ [])) → P (stays r n)
stays_cases P r n gone fewer =
    elim (dec_lt 0 n) [
      | yes p ↦
          elim (dec_lt n (above r)) [
            | yes q ↦
                let z : min n (above r) ≡ n = omega arith in
                rw (stays_left r n (omega arith), z, lt-leb (r.bytes - n) minimum (omega arith)) (fewer (λ p'. q))
            | no q ↦ rw (stays_none r n p (omega arith)) (gone p (omega arith))
          ]
      | no p ↦
          let z : r.bytes - n ≡ r.bytes = omega arith in
          rw (le-ltb 0 n (omega arith)) (rw z at (fewer (λ q. absurd (p q))))
    ]

-- ---- what remains of a bytes, then of b bytes

spare_stays : (r : At) (rs : List At) (n : ℕ) → spare (stays r n ++ rs) ≡ above r - n + spare rs
unfolding spare
spare_stays r rs n = stays_cases (λ l. spare (l ++ rs) ≡ above r - n + spare rs) r n (λ p q. omega arith) (λ p. omega arith)

spare_remains : (rs : List At) (n : ℕ) → spare (remains rs n) ≡ spare rs - n
unfolding spare remains
spare_remains [] n = omega arith
spare_remains (r ∷ rs) n = spare_stays r (remains rs n) (asked n rs) ∙ rw (spare_remains rs n) (omega arith)

-- of what stands before some records as much is asked in two removals as in one
asked_twice : (rs : List At) (a b : ℕ) → asked a rs + asked b (remains rs a) ≡ asked (a + b) rs
asked_twice rs a b = rw (spare_remains rs a) (omega arith)

-- of a record that stays, m bytes and then n are asked
fewer_twice : (r : At) (m n : ℕ) → (0 < m → m < above r) → stays (r.epoch ⦂ (r.bytes - m)) n ≡ stays r (m + n)
fewer_twice r m n p =
    elim (dec_lt 0 m) [
      | yes q ↦
          let l = p q in
          let z : min (m + n) (above r) ≡ m + min n (r.bytes - m - minimum) = omega arith in
          stays_left (r.epoch ⦂ (r.bytes - m)) n (omega arith) ∙ sym (stays_left r (m + n) (omega arith) ∙ rw (z, sub-add-eq))
      | no q ↦
          let z : r.bytes - m ≡ r.bytes = omega arith in
          let w : m + n ≡ n = omega arith in
          rw (z, w)
    ]

stays_twice : (r : At) (rs : List At) (m n : ℕ) → remains (stays r m ++ rs) n ≡ stays r (m + asked n rs) ++ remains rs n
unfolding remains
stays_twice r rs m n =
    stays_cases (λ l. remains (l ++ rs) n ≡ stays r (m + asked n rs) ++ remains rs n) r m
    (λ p q. rw (stays_none r (m + asked n rs) (omega arith) (omega arith)))
    (λ p. ap (λ (l : List At). l ++ remains rs n) (fewer_twice r m (asked n rs) p))

remains_twice : (rs : List At) (a b : ℕ) → remains (remains rs a) b ≡ remains rs (a + b)
unfolding remains
remains_twice [] a b = refl
remains_twice (r ∷ rs) a b = stays_twice r (remains rs a) (asked a rs) b ∙ rw (asked_twice rs a b, remains_twice rs a b)

-- REMOVALS COMPOSE IN WHAT REMAINS
pub remaining_twice : (base : ℕ) (rs : List At) (a b : ℕ) → ascending base (epochs_of rs) ≡ true
    → remaining base (remaining base rs a) b ≡ remaining base rs (a + b)
remaining_twice base rs a b h =
    remaining_each base b (remaining base rs a) (minus_above base rs (split base rs a) h)
    ∙ ap (λ (l : List At). remains l b) (remaining_each base a rs h)
    ∙ remains_twice rs a b
    ∙ sym (remaining_each base (a + b) rs h)

-- ---- what sections come to

-- n bytes at e, if e is d
abbrev pub part : ℕ → ℕ → ℕ → ℕ
part d e n = cond (eqb e d) n 0

-- what sections come to at an epoch
unfoldable pub given : ℕ → List At → ℕ
given d [] = 0
given d (s ∷ ss) = part d s.epoch s.bytes + given d ss

pub given_append : (d : ℕ) (xs ys : List At) → given d (xs ++ ys) ≡ given d xs + given d ys
unfolding given
given_append d [] ys = omega arith
given_append d (x ∷ xs) ys = omega (arith, given_append d xs ys)

pub part_sum : (d e x y z : ℕ) → x + y ≡ z → part d e x + part d e y ≡ part d e z
part_sum d e x y z h = by (eqb e d)
  where
    by : (b : Bool) → cond b x 0 + cond b y 0 ≡ cond b z 0
    by true = h
    by false = refl

part_none : (d e x : ℕ) → x ≡ 0 → part d e x ≡ 0
part_none d e x h = omega (arith, part_sum d e x x x (omega arith))

pub given_none : (d : ℕ) → given d [] ≡ 0
unfolding given
given_none d = refl

pub given_more : (d : ℕ) (ss : List At) → given d [] + given d ss ≡ given d ss
given_more d ss = omega (arith, given_none d)

-- sections of one epoch
module _ (d e : ℕ) where
  pub given_zero : given d (e ⦂ 0 ∷ []) ≡ 0
  unfolding given
  given_zero = omega (arith, part_sum d e 0 0 0 refl)

  -- two sections of one epoch come to their sum
  pub given_both : (m n : ℕ) (ss : List At) → given d (e ⦂ m ∷ []) + given d (e ⦂ n ∷ ss) ≡ given d (e ⦂ (m + n) ∷ ss)
  unfolding given
  given_both m n ss = omega (arith, part_sum d e m n (m + n) refl)

pub given_section : (d e n most : ℕ) → given d (section e n most) ≡ part d e (min n most)
unfolding given section
given_section d e zero most = sym (part_none d e (min 0 most) (omega arith))
given_section d e (suc n) most = omega arith

given_before : (d e n most : ℕ) (ss : List At) → given d (section e n most ++ ss) ≡ part d e (min n most) + given d ss
given_before d e n most ss = given_append d (section e n most) ss ∙ rw (given_section d e n most)

-- ---- what a bytes come to, then b bytes

given_stays : (d : ℕ) (r : At) (rs : List At) (m n : ℕ)
    → given d (sections (stays r m ++ rs) n) ≡ part d r.epoch (min (asked n rs) (above r - m)) + given d (sections rs n)
unfolding sections
given_stays d r rs m n =
    stays_cases (λ l. given d (sections (l ++ rs) n) ≡ part d r.epoch (min (asked n rs) (above r - m)) + given d (sections rs n)) r m
    (λ p q. omega (arith, part_none d r.epoch (min (asked n rs) (above r - m)) (omega arith)))
    (λ p.
    let z : above r - m ≡ r.bytes - m - minimum = omega arith in
    rw z (given_before d r.epoch (asked n rs) (r.bytes - m - minimum) (sections rs n)))

min_twice : (m n k : ℕ) → min m k + min n (k - m) ≡ min (m + n) k
min_twice m n k = omega arith

sections_twice : (d : ℕ) (rs : List At) (a b : ℕ) → given d (sections rs a) + given d (sections (remains rs a) b) ≡ given d (sections rs (a + b))
unfolding sections remains given
sections_twice d [] a b = refl
sections_twice d (r ∷ rs) a b =
    let g = given_before d r.epoch in
    let m = min_twice (asked a rs) (asked b (remains rs a)) (above r) ∙ ap (λ (k : ℕ). min k (above r)) (asked_twice rs a b) in
    omega (
      arith,
      g (asked a rs) (above r) (sections rs a),
      given_stays d r (remains rs a) (asked a rs) b,
      g (asked (a + b) rs) (above r) (sections rs (a + b)),
      part_sum d r.epoch _ _ _ m,
      sections_twice d rs a b,
    )

given_split : (d base : ℕ) (rs : List At) (n : ℕ) → given d (split base rs n) ≡ part d base (asked n rs) + given d (sections rs n)
unfolding split
given_split d base rs n =
    let z : min (asked n rs) (asked n rs) ≡ asked n rs = omega arith in
    given_before d base (asked n rs) (asked n rs) (sections rs n) ∙ rw z

-- AND IN WHAT EACH EPOCH GIVES
pub given_twice : (d base : ℕ) (rs : List At) (a b : ℕ) → ascending base (epochs_of rs) ≡ true
    → given d (split base rs a) + given d (split base (remaining base rs a) b) ≡ given d (split base rs (a + b))
given_twice d base rs a b h =
    let g = given_split d base in
    rw (remaining_each base a rs h)
    (omega (arith, g rs a, g (remains rs a) b, g rs (a + b), part_sum d base _ _ _ (asked_twice rs a b), sections_twice d rs a b))
