-- The text of some of the lines, and what putting it promises. Assumes nothing.
use Rattle.std.specs.Prelude.{ℕ, ◌+◌, ◌≤◌, ◌<◌, List, length, take, drop}
use Rattle.fields_spec.specs.Writing.{Put}
use Rattle.listing_spec.specs.Inner.Sizes.{most_digits}
use Rattle.repair_spec.specs.Changes.{Line}
use Rattle.change_lines_spec.specs.Text.{line_text, lines_text, lines_in}
use Rattle.change_lines_spec.specs.declared.Chunk.{Chunk}

-- no change has longer words
abbrev pub longest_words : ℕ
longest_words = 14

-- no line is longer: an offset, a blank, words and the line end
abbrev pub longest_line : ℕ
longest_line = most_digits + 1 + longest_words + 1

-- the lines from the place i up to the place end
abbrev pub lines_between : ℕ → ℕ → List ℕ → List ℕ → List Line
lines_between i end os cs = drop i (take end (lines_in os cs))

-- a line's text stands at a place, and the place behind it is not far
pub record OneLine (l : Line) (at next : ℕ) (old new : List ℕ) : Type 0 where
  pub put : Put (line_text l) at next old new
  pub short : next ≤ at + longest_line

-- the text of the lines from a place up to another stands at the start; where any are left, that is one line at least
pub record Chunked (os cs : List ℕ) (from : ℕ) (r : Chunk) (old new : List ℕ) : Type 0 where
  pub put : Put (lines_text (lines_between from r.next os cs)) 0 r.size old new
  pub goes_on_lem : from < length os → from < r.next
  pub inside : r.next ≤ length os
  pub fits : r.size ≤ length new
