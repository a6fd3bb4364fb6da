-- What the calls of this crate answer and leave.
-- Assumes nothing.
use Rattle.std.specs.Prelude.{Bool, cond, ◌&&◌}
use Rattle.records_spec.specs.Outcomes.{◌unless◌, ◌>>◌, ◌>>=◌, leaving}
use Rattle.records_spec.specs.Flags.{Lent, Held, blank, flags_of, proper}
use Rattle.records_spec.specs.Answers.{FlagsAfter, placed_flags}
use Rattle.records_spec.specs.declared.refusal.Refusal.TheVariants.{BadTable}
use Rattle.flags_spec.specs.declared.owners.MergingOwnersStrategy.{MergingOwnersStrategy}
use Rattle.rows_spec.specs.Removals.{HeldRemoval, removal_of, proper_removal}
use Rattle.removal_spec.specs.Removing.{removed}

-- `combine_removed_bytes`
unfoldable pub combined_removed : Held → Held → HeldRemoval → MergingOwnersStrategy → Lent → FlagsAfter
combined_removed ours theirs removal s out = leaving (blank out) do
  BadTable unless proper ours && (proper theirs && proper_removal removal)
  f ← removed s (removal_of removal) (flags_of ours) (flags_of theirs)
  placed_flags f out

-- where ours is absent, the incoming flags; the removal is tested all the same
unfoldable pub handed_on_beside : HeldRemoval → Held → Lent → FlagsAfter
handed_on_beside removal f out = leaving (blank out) do
  BadTable unless proper_removal removal && proper f
  placed_flags (flags_of f) out

-- `optional_combine_removed_bytes`: absent ours is not tested
abbrev pub optional_combined_removed : Bool → Held → Held → HeldRemoval → MergingOwnersStrategy → Lent → FlagsAfter
optional_combined_removed present ours theirs removal s out =
    cond present (combined_removed ours theirs removal s out) (handed_on_beside removal theirs out)
