-- `change_lines::put_lines` meets its contract. The invariant: the lines up to the next one are put. Assumes nothing.
use Rattle.change_lines_spec.proofs.Chunks.{Putting}
use Rattle.change_lines.proofs.put_lines.Given as goal

abbrev pub invariant-loop-next : goal.invariant-loop-next
invariant-loop-next l = Putting l.offsets l.changes l.from l.initial.out l.size l.next l.out
