-- A list with each of the seven changes, as it is printed. By computation.
-- Assumes nothing.
use mathlib.Core.Path.{◌≡◌, refl}
use mathlib.Core.List.{[], ◌∷◌}
use Rattle.listing_spec.specs.Text.{ascii, digits, decimal}
use Rattle.repair_spec.specs.Changes.{line}
use Rattle.repair_spec.specs.declared.change.Change.TheVariants.{ReEncoded, TooLarge, NotAboveBase, Replaced, TailCut, Moved, KindChanged}
use Rattle.change_lines_spec.specs.Text.{lines_text, lines_in}

pub marked :
    lines_text (line 0 KindChanged ∷ line 3 ReEncoded ∷ line 6 TooLarge ∷ line 11 NotAboveBase ∷ line 14 Replaced ∷ line 17 Moved ∷ line 120 TailCut ∷
    [])
    ≡ ascii "0 kind changed\n3 re-encoded\n6 too large\n11 not above base\n14 replaced\n17 moved\n120 tail cut\n"
unfolding lines_text decimal digits
marked = refl

-- the same from the two columns that a repair leaves
pub marked_columns :
    lines_text (lines_in (0 ∷ 3 ∷ 6 ∷ 11 ∷ 14 ∷ 17 ∷ 120 ∷ []) (7 ∷ 1 ∷ 2 ∷ 3 ∷ 4 ∷ 6 ∷ 5 ∷ []))
    ≡ ascii "0 kind changed\n3 re-encoded\n6 too large\n11 not above base\n14 replaced\n17 moved\n120 tail cut\n"
unfolding lines_text lines_in decimal digits
marked_columns = refl
