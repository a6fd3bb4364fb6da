-- `migrate::refusal_text` meets its contract: a line of a word and a number has room, and stands at the start. Assumes nothing.
use Rattle.std.proofs.Common.{◌≡◌, ℕ, ◌≤◌, List, arith, length, take, ap, ◌∙◌}
use Rattle.io.specs.Counts.{IsPrefixLen}
use Rattle.fields_spec.specs.Writing.{Put}
use Rattle.fields_spec.proofs.Parts.{put_long}
use Rattle.records_spec.specs.declared.refusal.Refusal.{Refusal}
use Rattle.records_spec.proofs.Tables.{over_first, over_sets}
use Rattle.records_spec.specs.Refusals.{number}
use Rattle.listing_spec.specs.Text.{ascii, word_line}
use Rattle.records_spec.proofs.Only.{number_below}
use Rattle.listing_spec.proofs.Bounds.{short_number}
use Rattle.migrate.proofs.refusal_text.Goals as goal

-- what was written at the start is counted there
at-start : (xs old new : List ℕ) (n : ℕ) → length xs ≤ length old → Put xs 0 n old new → IsPrefixLen n new × (take n new ≡ xs)
at-start xs old new n h p =
    let t : take n new ≡ xs = rw (p.wrote ∙ over_sets xs old h) (over_first xs old n (omega (arith, p.behind))) in
    let l : n ≤ length new = omega (arith, p.behind, put_long p) in
    ((l, omega (arith, p.behind, ap length t)), t)

-- the line has room
short : (refusal : Refusal) (out : List ℕ) → 11 ≤ length out → length (word_line "refused " (number refusal)) ≤ length out
short refusal out room = omega (arith, short_number (ascii "refused ") 1 (number refusal) (number_below refusal), room)

pub put_number_line-requires : goal.put_number_line-requires
put_number_line-requires c = rw (c.from-2.ensures, c.from.ensures) (omega (arith, short c.args.refusal c.args.out.now c.requires))

pub returns : goal.returns
returns c =
    let text = word_line "refused " (number c.args.refusal) in
    let put = rw (c.from-2.ensures, c.from.ensures) at c.put_number_line.ensures in
    let stands = at-start text _ _ _ (short c.args.refusal c.args.out.now c.requires) put in
    record { prefix_len = stands.0; out_value = stands.1 }
