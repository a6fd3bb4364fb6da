-- Sizes of flag bytes. Assumes nothing.
use Rattle.std.specs.Prelude.{ℕ, ◌+◌, ◌*◌, Bool, cond, Option, None, Some}
use Rattle.records_spec.specs.Flags.{owner_length}
use Rattle.codec_spec.specs.Bytes.{unowned_head}
use Rattle.codec_spec.specs.declared.sizes.Changes.{Changes}

-- no record is longer: two bytes of epoch and five of count
abbrev pub longest_record : ℕ
longest_record = 7

-- the part of the changes, 0 if they are not given
abbrev pub changes_size : Option Changes → ℕ
changes_size None = 0
changes_size (Some changes) = changes.count * (2 + changes.size)

-- no changes have more bytes: their number has 16 bits, the size of each 8
abbrev pub largest_changes : ℕ
largest_changes = 65535 * (2 + 255)

-- 3, plus 32 if owned, plus, if given, the change count times (2 + the size per change)
abbrev pub approximate : Bool → Option Changes → ℕ
approximate hasOwner changes = unowned_head + cond hasOwner owner_length 0 + changes_size changes
