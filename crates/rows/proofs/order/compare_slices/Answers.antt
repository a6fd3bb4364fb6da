-- `compare_slices` answers by the order of slices, which is that of the definition. Assumes nothing.
use Rattle.std.proofs.Common.{sym, ◌∙◌}
use Rattle.rows_spec.proofs.Comparing.{order_is}
use Rattle.rows.proofs.order.compare_slices.Goals as goal

pub returns : goal.returns
returns c = c.cmp.ensures ∙ sym (order_is _ _)
