-- `repair_reading::padded::end_of` meets its contract: the first byte without the top bit ends the varint. Assumes nothing.
use Rattle.std.proofs.Common.{drop, ◌∙◌, arith}
use Rattle.std.proofs.lemmas.List.{take_rest}
use Rattle.repair_spec.proofs.Padding.{first_low}
use Rattle.repair_reading.proofs.padded.end_of.Goals as goal

pub returns : goal.returns
returns c =
    let a = c.args in
    let e = (rw take_rest at c.closing_byte.ensures) ∙ first_low (drop a.at a.src.now) c.requires in
    rw (c.unwrap_or-last.ensures, e) (omega arith)
