-- At the start none is passed, and at the end of both tables none is left. Assumes nothing.
use Rattle.std.proofs.Common.{length, ap, arith}
use Rattle.records_spec.specs.Tables.{At}
use Rattle.records_spec.proofs.Unions.{walking_start, walking_done}
use Rattle.records.proofs.table.union_len.Goals as goal

pub loop-a-init : goal.loop-a-init
loop-a-init c =
    let p = c.requires in
    record { walking = walking_start p.table p.table_2 p.i_in_bounds; at_most = omega arith; whole = omega arith }

pub returns : goal.returns
returns c =
    let l = c.loop-a in
    omega (arith, ap (length {A = At}) (walking_done l.invariant.walking c.loop-a-test.false))
