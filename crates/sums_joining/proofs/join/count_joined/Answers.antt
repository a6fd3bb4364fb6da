-- `count_joined` meets its contract: what was counted, and the join of what is left, make the join. Assumes nothing.
use Rattle.rows_spec.proofs.Rows.{proper_first}
use Rattle.sums_spec.proofs.Lasts.{counting_done}
use Rattle.sums_joining.proofs.join.count_joined.Goals as goal

pub last_row-last-requires-clause-proper : goal.last_row-last-requires-clause-proper
last_row-last-requires-clause-proper c = proper_first _ c.loop-j.invariant.ours_left c.requires.proper

pub last_row-last-requires-clause-proper_2 : goal.last_row-last-requires-clause-proper_2
last_row-last-requires-clause-proper_2 c = proper_first _ c.loop-j.invariant.theirs_left c.requires.proper_2

pub returns : goal.returns
returns c = counting_done c.loop-j.invariant c.requires.proper c.loop-j-test.false
