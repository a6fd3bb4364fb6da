-- `migrate::write_list` is safe and ends: each chunk has one line at least, and the measure is the number of those left. Assumes nothing.
use Rattle.std.proofs.Common.{◌≡◌, ◌-◌, ◌≤◌, length}
use Rattle.migrate.proofs.write_list.Given as goal

abbrev pub invariant-loop-next : goal.invariant-loop-next
invariant-loop-next l = (l.next ≤ length l.offsets) × (length l.text ≡ 65536)

abbrev pub decreases-loop-next : goal.decreases-loop-next
decreases-loop-next l = length l.offsets - l.next
