-- What each record gives, of any sections with the first four properties: the smaller of what is asked of it and what it holds above 3. Where that is
-- so, these properties hold, and the fifth holds exactly if a section stands where something is asked. By cases on the records.
-- Assumes nothing.
use mathlib.Core.Path.{◌≡◌, refl, sym, ap, ◌∙◌}
use mathlib.Core.List.{List, [], ◌∷◌}
use Prim.Native.Nat.{ℕ, zero, suc, ◌+◌, ◌≤◌, ◌<◌, min}
use native.Mathlib.Omega.{arith}
use lib.Dec.{ltb}
use borrow.Author.Tests.{lt-ltb}
use Rattle.records_spec.specs.Tables.{At, has}
use Rattle.records_spec.proofs.Alike.{has_held}
use Rattle.splitting_spec.specs.Sections.{above, spare, asked}
use Rattle.splitting_spec.proofs.Sums.{sections_sum, gave_less}
use Rattle.division.specs.Fair.{OfEach, gives, together, AllDown, ThreeKept, LatestFirst, BaseLast, SectionIfAsked}

-- sections ss of n bytes; each record gives the smaller of what is asked of it and what it holds above 3
abbrev pub RecordsGive : List At → ℕ → List At → Type 0
RecordsGive ss n rs = OfEach (λ r later. gives ss r.epoch ≡ min (asked n later) (above r)) rs

-- a section stands at a record's epoch exactly if something is asked of it
abbrev pub RecordsHave : List At → ℕ → List At → Type 0
RecordsHave ss n rs = OfEach (λ r later. has r.epoch ss ≡ ltb 0 (asked n later)) rs

-- the later epochs gave less than n exactly if they cannot give n
less_asked : (rs : List At) (n : ℕ) → ltb (min n (spare rs)) n ≡ ltb 0 (asked n rs)
less_asked rs n = sym (gave_less [] rs n ∙ ap (λ (k : ℕ). ltb k n) (sections_sum [] rs n))

-- where a sum is not 0, one of the two is not
either : {A : Type 0} (x y : ℕ) → (0 < x → A) → (0 < y → A) → 0 < x + y → A
either zero y f g h = g (omega arith)
either (suc x) y f g h = f (omega arith)

module _ (ss : List At) (n : ℕ) where
  -- ---- from the properties

  -- records that keep enough give no more than they can
  most : (rs : List At) → ThreeKept ss rs → together ss rs ≤ spare rs
  unfolding together spare
  most [] k = omega arith
  most (r ∷ later) k = omega (arith, k.0, most later k.1)

  -- those that are down give all that they can
  all : (rs : List At) → AllDown ss rs → together ss rs ≡ spare rs
  unfolding together spare
  all [] d = refl
  all (r ∷ later) d = omega (arith, d.0, all later d.1)

  -- the earlier epochs give x of n bytes, and something only when all of these are down
  as_asked : (x : ℕ) (rs : List At) → x + together ss rs ≡ n → ThreeKept ss rs → (0 < x → AllDown ss rs) → together ss rs ≡ min n (spare rs)
  as_asked zero rs e k d = omega (arith, most rs k)
  as_asked (suc x) rs e k d = omega (arith, all rs (d (omega arith)))

  pub each_gives : (x : ℕ) (rs : List At) → x + together ss rs ≡ n → ThreeKept ss rs → LatestFirst ss rs → (0 < x → AllDown ss rs)
      → RecordsGive ss n rs
  unfolding together spare
  each_gives x [] e k l d = tt
  each_gives x (r ∷ later) e k l d =
      let y = gives ss r.epoch in
      let d' = either x y (λ h. (d h).1) (λ h. l.0 (omega arith)) in
      let e' : x + y + together ss later ≡ n = omega arith in
      let here = as_asked x (r ∷ later) e k d in
      let behind = as_asked (x + y) later e' k.1 d' in
      (omega (arith, here, behind), each_gives (x + y) later e' k.1 l.1 d')

  -- ---- from what each record gives

  pub give_together : (rs : List At) → RecordsGive ss n rs → together ss rs ≡ min n (spare rs)
  unfolding together spare
  give_together [] g = omega arith
  give_together (r ∷ later) g = omega (arith, g.0, give_together later g.1)

  -- what follows for a record where those behind it give so
  module _ {P Q : At → List At → Type 0} (one : (r : At) (later : List At) → RecordsGive ss n later → P r later → Q r later) where
    each : (rs : List At) → RecordsGive ss n rs → OfEach P rs → OfEach Q rs
    each [] g p = tt
    each (r ∷ later) g p = (one r later g.1 p.0, each later g.1 p.1)

  pub keep : (rs : List At) → RecordsGive ss n rs → ThreeKept ss rs
  keep rs g = each (λ r later behind p. omega arith) rs g g

  -- all are down where no less is asked than they can give
  down : (rs : List At) → spare rs ≤ n → RecordsGive ss n rs → AllDown ss rs
  unfolding spare
  down [] h g = tt
  down (r ∷ later) h g = (omega (arith, g.0), down later (omega arith) g.1)

  pub latest : (rs : List At) → RecordsGive ss n rs → LatestFirst ss rs
  latest rs g = each (λ r later behind p h. down later (omega arith) behind) rs g g

  pub base_after : (base : ℕ) (rs : List At) → gives ss base ≡ asked n rs → RecordsGive ss n rs → BaseLast ss base rs
  base_after base rs b g = λ h. down rs (omega arith) g

  -- ---- where sections stand

  -- where the later records give as asked, the fifth property speaks of what is asked
  module _ (e : ℕ) (rs : List At) (g : RecordsGive ss n rs) where
    told : ltb (together ss rs) n ≡ ltb 0 (asked n rs)
    told = ap (λ (k : ℕ). ltb k n) (give_together rs g) ∙ less_asked rs n

    pub if_asked : SectionIfAsked ss n e rs → has e ss ≡ ltb 0 (asked n rs)
    if_asked h = let t = told in cc

    pub asked_if : has e ss ≡ ltb 0 (asked n rs) → SectionIfAsked ss n e rs
    asked_if h = let t = told in cc

  pub each_has : (rs : List At) → RecordsGive ss n rs → OfEach (λ r later. SectionIfAsked ss n r.epoch later) rs → RecordsHave ss n rs
  each_has = each (λ r later. if_asked r.epoch later)

  pub has_each : (rs : List At) → RecordsGive ss n rs → RecordsHave ss n rs → OfEach (λ r later. SectionIfAsked ss n r.epoch later) rs
  has_each = each (λ r later. asked_if r.epoch later)

  -- where an epoch gives something, the fifth property follows from the sum: the others give the rest, so the later ones less than n
  pub section_given : (e : ℕ) (later : List At) (x : ℕ) → x + gives ss e + together ss later ≡ n → 0 < gives ss e → SectionIfAsked ss n e later
  section_given e later x s h =
      let p = has_held e ss h in
      let q = lt-ltb (together ss later) n (omega arith) in
      cc

  pub each_given : (x : ℕ) (rs : List At) → x + together ss rs ≡ n
      → OfEach (λ r later. 0 < gives ss r.epoch → SectionIfAsked ss n r.epoch later) rs
  unfolding together
  each_given x [] e = tt
  each_given x (r ∷ later) e =
      let e' : x + gives ss r.epoch + together ss later ≡ n = omega arith in
      (section_given r.epoch later x e', each_given (x + gives ss r.epoch) later e')
