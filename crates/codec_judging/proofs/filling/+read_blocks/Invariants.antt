-- The measure is the number of bytes that are left. Assumes nothing.
use Rattle.std.proofs.Common.{◌-◌, length}
use Rattle.codec_judging.proofs.filling.+read_blocks.Given as goal

abbrev pub decreases-read_blocks : goal.decreases-read_blocks
decreases-read_blocks l = length l.src.now - l.at
