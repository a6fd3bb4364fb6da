-- `change_lines::put_lines` meets its contract. The invariant: the lines up to the next one are put. Assumes nothing.
use Rattle.std.proofs.Common.{arith}
use Rattle.change_lines_spec.proofs.Chunks.{putting_start, putting_line}
use Rattle.change_lines.proofs.put_lines.Goals as goal

pub loop-next-init : goal.loop-next-init
loop-next-init c = let p = c.requires.offsets_len in putting_start _ _ _ p.0 p.1 _

pub loop-next-preserved : goal.loop-next-preserved
loop-next-preserved c =
    putting_line c.loop-next.invariant c.requires.offsets_len.0 c.loop-next-test.true (omega arith) c.put_change_line-size.ensures
