-- `listing::lines::records_len` meets its contract. The invariant: the size so far and that of the records left make that of all.
-- Assumes nothing.
use Rattle.std.proofs.Common.{length, ap, arith}
use Rattle.listing.proofs.Zipped.{length_turn, rest_turn, line_end}
use Rattle.listing.proofs.lines.records_len.Goals as goal

pub overflow_add-size : goal.overflow_add-size
overflow_add-size c =
    let l = c.loop-epoch in
    omega (arith, rest_turn l.epoch-iterator c.next.new.self c.next.result c.next.ensures.steps c.in-Some.epoch c.in-Some.count c.in-Some.is)

pub loop-epoch-preserved : goal.loop-epoch-preserved
loop-epoch-preserved c =
    let l = c.loop-epoch in
    let rest = rest_turn l.epoch-iterator c.next.new.self c.next.result c.next.ensures.steps c.in-Some.epoch c.in-Some.count c.in-Some.is in
    let line = length_turn l.epoch-iterator c.next.new.self c.next.result c.next.ensures.steps c.in-Some.epoch c.in-Some.count c.in-Some.is in
    record { bounded = omega arith; counts = omega arith }

pub returns : goal.returns
returns c =
    let l = c.loop-epoch in
    let none = ap length (line_end l.epoch-iterator c.next.new.self c.next.result c.next.ensures.steps c.in-None.is) in
    record { counts = omega arith; bounded = omega arith }
