-- Limits of flags: how many epochs there are, and the longest flags.
-- Assumes nothing.
use Rattle.std.specs.Prelude.{ℕ, ◌+◌, ◌*◌}
use Rattle.codec_spec.specs.Bytes.{owned_head}
use Rattle.codec_spec.specs.Sizes.{longest_record}

-- the last epoch
abbrev pub last_epoch : ℕ
last_epoch = 65535

-- how many epochs there are
abbrev pub all_epochs : ℕ
all_epochs = last_epoch + 1

-- no flags have more bytes: an owner, and a record at each epoch above the base 0
abbrev pub longest_flags : ℕ
longest_flags = owned_head + last_epoch * longest_record
