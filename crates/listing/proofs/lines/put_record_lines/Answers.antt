-- `listing::lines::put_record_lines` meets its contract. The invariant: the lines of the records left are left to write, at the place reached.
-- Assumes nothing.
use Rattle.std.proofs.Common.{arith}
use Rattle.fields_spec.proofs.Parts.{parts_put, parts_room, parts_done}
use Rattle.listing.proofs.Zipped.{line_turn, length_turn, line_end}
use Rattle.listing.proofs.lines.put_record_lines.Goals as goal

pub put_record_line-i-requires : goal.put_record_line-i-requires
put_record_line-i-requires c =
    let l = c.loop-epoch in
    let line = length_turn l.epoch-iterator c.next.new.self c.next.result c.next.ensures.steps c.in-Some.epoch c.in-Some.count c.in-Some.is in
    omega (arith, parts_room l.invariant c.requires.counts_in_bounds)

pub loop-epoch-preserved : goal.loop-epoch-preserved
loop-epoch-preserved c =
    let l = c.loop-epoch in
    let line = line_turn l.epoch-iterator c.next.new.self c.next.result c.next.ensures.steps c.in-Some.epoch c.in-Some.count c.in-Some.is in
    parts_put l.invariant line c.put_record_line-i.ensures

pub returns : goal.returns
returns c =
    let l = c.loop-epoch in
    parts_done l.invariant (line_end l.epoch-iterator c.next.new.self c.next.result c.next.ensures.steps c.in-None.is)
