-- `compare_ids` keeps: the bytes before the place are the same on both sides, so what stands behind them decides. Assumes nothing.
use Rattle.std.proofs.Common.{◌≡◌, drop}
use Rattle.rows_spec.specs.Order.{order}
use Rattle.rows.proofs.order.compare_ids.Given as goal

abbrev pub invariant-loop-k : goal.invariant-loop-k
invariant-loop-k l = order l.a l.b ≡ order (drop l.k l.a) (drop l.k l.b)
