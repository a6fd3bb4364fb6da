-- `add_basic` meets its contract: the number is one row, joined to ours. Assumes nothing.
use Rattle.rows_spec.proofs.Outcomes.{placed_rows}
use Rattle.sums_spec.proofs.Basics.{one_proper, one_joined}
use Rattle.sums.proofs.sum.add_basic.Goals as goal

pub add_rows-requires-clause-proper_2 : goal.add_rows-requires-clause-proper_2
add_rows-requires-clause-proper_2 c = one_proper c.args.removed_bytes

pub returns : goal.returns
returns c = placed_rows _ c.add_rows.ensures (one_joined c.args.removed_bytes c.requires)
