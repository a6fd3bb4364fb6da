-- What the theorems on a split and its own merge speak of besides: the incoming flags, and the flags that are left.
-- Assumes nothing.
use Rattle.std.specs.Prelude.{ℕ, ◌<◌, ◌≡◌, ◌⊎◌, []}
use Rattle.std.specs.Prelude.{None}
use Rattle.records_spec.specs.Flags.{Flags, flags}
use Rattle.splitting_spec.specs.Sections.{split}
use Rattle.removal_spec.specs.Removing.{minus}

-- flags less the sections of their own split of n bytes
abbrev pub less_own_split : Flags → ℕ → Flags
less_own_split f n = flags f.base f.owner (minus f.records (split f.base f.records n))

-- incoming flags as a removal brings them: no records, a base above ours, no owner or ours
pub record Incoming (f theirs : Flags) : Type 0 where
  pub bare : theirs.records ≡ []
  pub higher : f.base < theirs.base
  pub owner : (theirs.owner ≡ None) ⊎ (theirs.owner ≡ f.owner)
