-- `are_proper` keeps: the rows are proper where those from the one before the place on ascend. Assumes nothing.
use Rattle.std.proofs.Common.{◌≡◌, ◌-◌, drop}
use Rattle.rows_spec.specs.Rows.{tables, rows_in, ascends, proper_rows, Room}
use Rattle.rows.proofs.row.are_proper.Given as goal

abbrev pub invariant-loop-i : goal.invariant-loop-i
invariant-loop-i l =
    let t = tables l.ids l.epochs l.bytes in
    record { room : Room l.n t; behind : proper_rows l.n t ≡ ascends (drop (l.i - 1) (rows_in l.n t)) }
