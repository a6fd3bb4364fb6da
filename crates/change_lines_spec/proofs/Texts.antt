-- The text of lines: its length, its parts one after another, and the lines that two columns hold. Assumes nothing.
use Prim.Native.Nat.{ℕ, zero, suc, ◌+◌, ◌≤◌, ◌<◌, ◌^◌}
use native.Mathlib.Omega.{arith}
use native.Mathlib.Numerals.{add-one}
use mathlib.Core.Path.{◌≡◌, refl, sym, ap, ap₂, ◌∙◌}
use mathlib.Core.List.{List, [], ◌∷◌, ◌++◌, append_assoc}
use lib.ListN.{length, take, get_or, length-append}
use Rattle.listing_spec.specs.Text.{decimal}
use Rattle.listing_spec.specs.Inner.Sizes.{most_digits}
use Rattle.listing_spec.proofs.Decimals.{length_below}
use Rattle.repair_spec.specs.Changes.{Line, line, change_number}
use Rattle.repair_spec.specs.Calls.{offsets_of, changes_of}
use Rattle.repair_spec.specs.declared.change.Change.{Change}
use Rattle.repair_spec.specs.declared.change.Change.TheVariants.{ReEncoded, TooLarge, NotAboveBase, Replaced, TailCut, Moved, KindChanged}
use Rattle.change_lines_spec.specs.Text.{words, line_text, lines_text, change_of, lines_in}
use Rattle.change_lines_spec.specs.Inner.Chunks.{longest_words, longest_line}

-- ---- one line

words_short : (c : Change) → length (words c) ≤ longest_words
words_short ReEncoded = omega arith
words_short TooLarge = omega arith
words_short NotAboveBase = omega arith
words_short Replaced = omega arith
words_short TailCut = omega arith
words_short Moved = omega arith
words_short KindChanged = omega arith

pub length_line : (l : Line) → length (line_text l) ≡ length (decimal l.offset) + length (words l.change) + 2
length_line l = simp length-append (omega arith)

-- a line is at most so long
pub line_short : (l : Line) → l.offset < 10 ^ most_digits → length (line_text l) ≤ longest_line
line_short l h = omega (arith, length_line l, length_below 19 l.offset h, words_short l.change)

-- ---- all lines

pub text_append : (ls ms : List Line) → lines_text (ls ++ ms) ≡ lines_text ls ++ lines_text ms
unfolding lines_text
text_append [] ms = refl
text_append (l ∷ ls) ms = ap (λ (t : List ℕ). line_text l ++ t) (text_append ls ms) ∙ sym (append_assoc (line_text l) (lines_text ls) (lines_text ms))

-- ---- two columns

change_back : (c : Change) → change_of (change_number c) ≡ c
change_back ReEncoded = refl
change_back TooLarge = refl
change_back NotAboveBase = refl
change_back Replaced = refl
change_back TailCut = refl
change_back Moved = refl
change_back KindChanged = refl

-- the columns that a repair leaves hold its lines
pub lines_back : (ls : List Line) → lines_in (offsets_of ls) (changes_of ls) ≡ ls
unfolding lines_in offsets_of changes_of
lines_back [] = refl
lines_back (l ∷ ls) = ap₂ (λ (c : Change) (ms : List Line). line l.offset c ∷ ms) (change_back l.change) (lines_back ls)

pub length_lines : (os cs : List ℕ) → length os ≡ length cs → length (lines_in os cs) ≡ length os
unfolding lines_in
length_lines [] cs e = refl
length_lines (o ∷ os) [] e = absurd (omega arith)
length_lines (o ∷ os) (c ∷ cs) e = ap suc (length_lines os cs (omega arith))

-- one line more
pub lines_more : (os cs : List ℕ) (k : ℕ) → length os ≡ length cs → k < length os
    → take (k + 1) (lines_in os cs) ≡ take k (lines_in os cs) ++ (line (get_or os k 0) (change_of (get_or cs k 0)) ∷ [])
unfolding lines_in
lines_more os cs k e h = rw (add-one k) (by os cs k e h)
  where
    by : (os cs : List ℕ) (k : ℕ) → length os ≡ length cs → k < length os
        → take (suc k) (lines_in os cs) ≡ take k (lines_in os cs) ++ (line (get_or os k 0) (change_of (get_or cs k 0)) ∷ [])
    by [] cs k e h = absurd (omega arith)
    by (o ∷ os) [] k e h = absurd (omega arith)
    by (o ∷ os) (c ∷ cs) zero e h = refl
    by (o ∷ os) (c ∷ cs) (suc k) e h = ap (λ (ls : List Line). line o (change_of c) ∷ ls) (by os cs k (omega arith) (omega arith))
