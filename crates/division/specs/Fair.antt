-- "Latest first, three kept": when a division of removed bytes among the epochs is fair. Request (xi) of document 02.
-- Assumes nothing.
use Rattle.std.specs.Prelude.{ℕ, ◌+◌, ◌≤◌, ◌<◌, min, ◌≡◌, true, false, List, [], ◌∷◌, ltb}
use Rattle.records_spec.specs.Tables.{At, epochs_of, rising, has, held}
use Rattle.splitting_spec.specs.Sections.{minimum}

-- a set of sections at the base and the records' epochs: in ascending order, so that no epoch has two, and nowhere else
pub record Division (base : ℕ) (rs ss : List At) : Type 0 where
  pub ascends : rising (epochs_of ss) ≡ true
  pub nowhere_else : (e : ℕ) → (e ≡ base → ⊥) → has e rs ≡ false → has e ss ≡ false

-- what some sections come to
unfoldable pub all_sections : List At → ℕ
all_sections [] = 0
all_sections (s ∷ ss) = s.bytes + all_sections ss

-- what an epoch gives: the bytes of its section; 0 where it has none
abbrev pub gives : List At → ℕ → ℕ
gives ss e = held e ss

-- of each record, with the later ones: in an ascending table those behind it
abbrev pub OfEach : (At → List At → Type 0) → List At → Type 0
OfEach P [] = Unit {0}
OfEach P (r ∷ later) = P r later × OfEach P later

-- what the epochs of some records give together
unfoldable pub together : List At → List At → ℕ
together ss [] = 0
together ss (r ∷ rs) = gives ss r.epoch + together ss rs

-- the smaller of a record's count and 3
abbrev pub least : At → ℕ
least r = min r.bytes minimum

-- some records are all down to that: with what each gives it is the count
abbrev pub AllDown : List At → List At → Type 0
AllDown ss rs = OfEach (λ r later. gives ss r.epoch + least r ≡ r.bytes) rs

-- ---- the five properties, of sections ss

-- the right sum
abbrev pub RightSum : List At → ℕ → Type 0
RightSum ss n = all_sections ss ≡ n

-- no record left with less than the smaller of its count and 3: with what it gives that is at most the count
abbrev pub ThreeKept : List At → List At → Type 0
ThreeKept ss rs = OfEach (λ r later. gives ss r.epoch + least r ≤ r.bytes) rs

-- a record giving only when all later ones are down to that
abbrev pub LatestFirst : List At → List At → Type 0
LatestFirst ss rs = OfEach (λ r later. 0 < gives ss r.epoch → AllDown ss later) rs

-- the base giving only when all records are
abbrev pub BaseLast : List At → ℕ → List At → Type 0
BaseLast ss base rs = 0 < gives ss base → AllDown ss rs

-- a section at an epoch exactly where the later ones gave less than asked
abbrev pub SectionIfAsked : List At → ℕ → ℕ → List At → Type 0
SectionIfAsked ss n e later = has e ss ≡ ltb (together ss later) n

-- so at the base and at each record
pub record SectionWhereAsked (ss : List At) (n base : ℕ) (rs : List At) : Type 0 where
  pub at_base : SectionIfAsked ss n base rs
  pub at_records : OfEach (λ r later. SectionIfAsked ss n r.epoch later) rs

-- n bytes fairly divided into sections
pub record Fair (base : ℕ) (rs : List At) (n : ℕ) (ss : List At) : Type 0 where
  pub right_sum : RightSum ss n
  pub three_kept : ThreeKept ss rs
  pub latest_first : LatestFirst ss rs
  pub base_last : BaseLast ss base rs
  pub section_where_asked : SectionWhereAsked ss n base rs

-- ---- only one

-- exactly one set of sections is fair, and this is it
pub record OnlyFair (base : ℕ) (rs : List At) (n : ℕ) (ss : List At) : Type 0 where
  pub is_division : Division base rs ss
  pub is_fair : Fair base rs n ss
  pub no_other : (us : List At) → Division base rs us → Fair base rs n us → us ≡ ss

-- an epoch gives no less in us than in ss
abbrev pub NoLess : List At → List At → ℕ → Type 0
NoLess ss us e = gives ss e ≤ gives us e

-- no epoch gives less of a larger amount
abbrev pub NeverLess : (ℕ → List At) → Type 0
NeverLess divided = (m n : ℕ) → m ≤ n → (e : ℕ) → NoLess (divided m) (divided n) e
