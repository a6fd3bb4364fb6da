-- `change_lines::put_change_line` meets its contract: its parts are written one after another, and no line is longer than has room.
-- Assumes nothing.
use Rattle.std.proofs.Common.{ℕ, ◌+◌, ◌^◌, ◌≤◌, ◌<◌, List, ◌++◌, length, refl, sym, ap, ◌∙◌, arith}
use Rattle.fields_spec.proofs.Parts.{parts_start, parts_put, parts_last}
use Rattle.listing_spec.specs.Text.{ascii, decimal}
use Rattle.repair_spec.specs.Changes.{line}
use Rattle.change_lines_spec.specs.Text.{words, change_of}
use Rattle.change_lines_spec.specs.Inner.Chunks.{longest_line}
use Rattle.change_lines_spec.proofs.Texts.{length_line, line_short}
use Rattle.change_lines.proofs.put_change_line.Goals as goal

room : (offset n : ℕ) → offset < 2 ^ 64 → length (decimal offset) + length (words (change_of n)) + 2 ≤ longest_line
room offset n h = let l = line offset (change_of n) in omega (arith, length_line l, line_short l (omega arith))

pub put_decimal-blank-requires : goal.put_decimal-blank-requires
put_decimal-blank-requires c = omega (arith, room c.args.offset c.args.change (omega (arith, c.ranges.offset.fits)))

pub put_text-behind-requires : goal.put_text-behind-requires
put_text-behind-requires c = omega (arith, room c.args.offset c.args.change (omega (arith, c.ranges.offset.fits)))

pub put_text-end-requires : goal.put_text-end-requires
put_text-end-requires c =
    let said = ap length (c.words.ensures ∙ ap words c.change_of.ensures) in
    omega (arith, room c.args.offset c.args.change (omega (arith, c.ranges.offset.fits)))

pub put_text-requires : goal.put_text-requires
put_text-requires c =
    let said = ap length (c.words.ensures ∙ ap words c.change_of.ensures) in
    omega (arith, room c.args.offset c.args.change (omega (arith, c.ranges.offset.fits)))

pub returns : goal.returns
returns c =
    let said = c.words.ensures ∙ ap words c.change_of.ensures in
    let offset = parts_put (parts_start _ _ _) refl c.put_decimal-blank.ensures in
    let blank = parts_put offset refl c.put_text-behind.ensures in
    let text = parts_put blank (ap (λ (ws : List ℕ). ws ++ ascii "\n") (sym said)) c.put_text-end.ensures in
    let put = parts_last text c.put_text.ensures in
    let l = line c.args.offset (change_of c.args.change) in
    record { put = put; short = omega (arith, put.behind, line_short l (omega (arith, c.ranges.offset.fits))) }
