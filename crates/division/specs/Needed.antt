-- None of the five properties follows from the others: divisions that have all but one.
-- Assumes nothing.
use Rattle.std.specs.Prelude.{ℕ, ◌≡◌, true, List}
use Rattle.records_spec.specs.Tables.{At, epochs_of, ascending}
use Rattle.division.specs.Fair.{Division, RightSum, ThreeKept, LatestFirst, BaseLast, SectionWhereAsked}

-- the five by name
pub data Property : Type 0 where
  right_sum three_kept latest_first base_last section_where_asked : Property

-- what each says of n bytes in sections ss
abbrev pub Says : Property → ℕ → List At → ℕ → List At → Type 0
Says right_sum base rs n ss = RightSum ss n
Says three_kept base rs n ss = ThreeKept ss rs
Says latest_first base rs n ss = LatestFirst ss rs
Says base_last base rs n ss = BaseLast ss base rs
Says section_where_asked base rs n ss = SectionWhereAsked ss n base rs

-- a division that has not this property and has all others
pub record AllBut (p : Property) : Type 0 where
  pub base : ℕ
  pub records : List At
  pub amount : ℕ
  pub sections : List At
  pub ascends : ascending base (epochs_of records) ≡ true
  pub is_division : Division base records sections
  pub has_not : Says p base records amount sections → ⊥
  pub has_others : (q : Property) → (q ≡ p → ⊥) → Says q base records amount sections
