-- The table is filled from its front, a place in a turn. Assumes nothing.
use Rattle.std.proofs.Common.{◌≡◌}
use Rattle.rows_spec.specs.Rows.{tables, rows_in}
use Rattle.totals_index_spec.specs.Structs.{structs}
use Rattle.totals_index_spec.proofs.Filling.{filled}
use Rattle.totals_index_work.proofs.structs.put_together.Given as goal

abbrev pub invariant-loop-i : goal.invariant-loop-i
invariant-loop-i l = l.table ≡ filled l.i (structs (rows_in l.n (tables l.owners l.epochs l.totals))) l.initial.table
