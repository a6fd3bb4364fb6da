-- `join_in_place` meets its contract: each step puts the last row that is left of the join, by the laws of `Walking`. Assumes nothing.
use Rattle.std.proofs.Common.{arith}
use Rattle.sums_spec.proofs.Lasts.{walking_start, walking_ours, walking_theirs, walking_room, walking_step, walking_done}
use Rattle.sums_joining.proofs.join.join_in_place.Goals as goal

pub loop-j-init : goal.loop-j-init
loop-j-init c = walking_start _ _ _ _ _ c.requires.count_value c.requires.room

pub last_row-last-requires-clause-proper : goal.last_row-last-requires-clause-proper
last_row-last-requires-clause-proper c = walking_ours c.requires.proper c.requires.proper_2 c.loop-j.invariant

pub last_row-last-requires-clause-proper_2 : goal.last_row-last-requires-clause-proper_2
last_row-last-requires-clause-proper_2 c = walking_theirs c.requires.proper c.requires.proper_2 c.loop-j.invariant

pub overflow_sub-k : goal.overflow_sub-k
overflow_sub-k c = omega (arith, (walking_room c.requires.proper c.requires.proper_2 c.loop-j.invariant c.last_row-last.ensures).0)

pub loop-j-preserved : goal.loop-j-preserved
loop-j-preserved c = walking_step c.requires.proper c.requires.proper_2 c.loop-j.invariant c.last_row-last.ensures c.put_row.ensures

pub returns : goal.returns
returns c = walking_done c.requires.proper c.requires.proper_2 c.loop-j.invariant c.loop-j-test.false
