-- `repair_reading::old::read_padded` meets its contract: the varint's end and what it says, capped, lead to both cases. Assumes nothing.
use Rattle.std.proofs.Common.{◌+◌, length-drop, arith}
use Rattle.repair_spec.proofs.Getting.{other_inside, padded_fits, padded_large}
use Rattle.repair_reading.proofs.old.read_padded.Goals as goal

pub end_of-next-requires : goal.end_of-next-requires
end_of-next-requires c =
    let a = c.args in
    let p = c.requires in
    (other_inside a.src.now a.at p.at_in_bounds p.src_value).1

pub capped_value-count-requires : goal.capped_value-count-requires
capped_value-count-requires c =
    let a = c.args in
    let p = c.requires in
    let i = (other_inside a.src.now a.at p.at_in_bounds p.src_value).1 in
    let l = length-drop (a.at + 2) a.src.now in
    (omega (arith, c.end_of-next.ensures), omega (arith, c.end_of-next.ensures, p.at_in_bounds))

pub returns-then-fits : goal.returns-then-fits
returns-then-fits c =
    let a = c.args in
    let p = c.requires in
    padded_fits a.src.now a.at p.at_in_bounds p.src_value a.epoch c.end_of-next.result c.capped_value-count.result p.epoch_value
    c.end_of-next.ensures c.capped_value-count.ensures (omega (arith, c.if-fits.true))

pub returns-else-fits : goal.returns-else-fits
returns-else-fits c =
    let a = c.args in
    let p = c.requires in
    padded_large a.src.now a.at p.at_in_bounds p.src_value a.epoch c.end_of-next.result c.capped_value-count.result p.epoch_value
    c.end_of-next.ensures c.capped_value-count.ensures (omega (arith, c.if-fits.false))
