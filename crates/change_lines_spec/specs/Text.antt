-- The list of changes as text: document 02 (iv), one line a change with offset and words. Assumes nothing.
use Rattle.std.specs.Prelude.{ℕ, cond, List, [], ◌∷◌, ◌++◌, eqb}
use Rattle.listing_spec.specs.Text.{ascii, decimal}
use Rattle.repair_spec.specs.Changes.{Line, line}
use Rattle.repair_spec.specs.declared.change.Change.{Change}
use Rattle.repair_spec.specs.declared.change.Change.TheVariants.{ReEncoded, TooLarge, NotAboveBase, Replaced, TailCut, Moved, KindChanged}

-- a change's words
abbrev pub words : Change → List ℕ
words ReEncoded = ascii "re-encoded"
words TooLarge = ascii "too large"
words NotAboveBase = ascii "not above base"
words Replaced = ascii "replaced"
words TailCut = ascii "tail cut"
words Moved = ascii "moved"
words KindChanged = ascii "kind changed"

-- a line: the offset in decimal, a blank, the words, a line end
abbrev pub line_text : Line → List ℕ
line_text l = decimal l.offset ++ (ascii " " ++ (words l.change ++ ascii "\n"))

-- all lines
unfoldable pub lines_text : List Line → List ℕ
lines_text [] = []
lines_text (l ∷ ls) = line_text l ++ lines_text ls

-- ---- lines as the code has them

-- the change that a number names; 7 is left where the others do not fit
abbrev pub change_of : ℕ → Change
change_of n =
    cond (eqb n 1) ReEncoded
    (cond (eqb n 2) TooLarge
    (cond (eqb n 3) NotAboveBase (cond (eqb n 4) Replaced (cond (eqb n 5) TailCut (cond (eqb n 6) Moved KindChanged)))))

-- the lines that a column of offsets and one of changes hold, place by place
unfoldable pub lines_in : List ℕ → List ℕ → List Line
lines_in [] cs = []
lines_in (o ∷ os) [] = []
lines_in (o ∷ os) (c ∷ cs) = line o (change_of c) ∷ lines_in os cs
