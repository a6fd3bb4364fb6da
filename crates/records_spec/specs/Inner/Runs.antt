-- What a union is joined from: runs of records, and those of ours that stand before all of theirs.
-- Assumes nothing.
use Rattle.std.specs.Prelude.{ℕ, ◌+◌, ◌≤◌, List, [], ◌∷◌, length, take, drop}
use Rattle.records_spec.specs.Tables.{At, place_of}

-- the records from the place i up to the place end
abbrev pub stretch : ℕ → ℕ → List At → List At
stretch i end rs = drop i (take end rs)

-- how many of our epochs are below the first of theirs; all, where theirs are none
unfoldable pub lead : List ℕ → List ℕ → ℕ
lead ours [] = length ours
lead ours (t ∷ theirs) = place_of t ours

-- two tables have room for records from the place at on
pub record RoomFrom (rs : List At) (at : ℕ) (es cs : List ℕ) : Type 0 where
  pub in_epochs : at + length rs ≤ length es
  pub in_counts : at + length rs ≤ length cs
