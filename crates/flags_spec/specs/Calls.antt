-- What the calls of this crate answer and leave.
-- Assumes nothing.
use Rattle.std.specs.Prelude.{ℕ, Bool, cond, ◌&&◌, List, Result}
use Rattle.records_spec.specs.Outcomes.{◌unless◌, ◌>>◌, ◌>>=◌, leaving}
use Rattle.records_spec.specs.Flags.{Lent, Held, blank, flags_of, proper}
use Rattle.records_spec.specs.Answers.{FlagsAfter, placed_flags}
use Rattle.records_spec.specs.declared.refusal.Refusal.{Refusal}
use Rattle.records_spec.specs.declared.refusal.Refusal.TheVariants.{BadTable}
use Rattle.codec_spec.specs.Reading.{read}
use Rattle.flags_spec.specs.Owners.{choice_read}
use Rattle.flags_spec.specs.Parts.{Part, handed}
use Rattle.flags_spec.specs.Merging.{added}
use Rattle.flags_spec.specs.declared.owners.MergingOwnersStrategy.{MergingOwnersStrategy}
use Rattle.flags_spec.specs.declared.owners.Choice.{Choice}

-- the companion of `combine_owner_id`
abbrev pub owner_choice : MergingOwnersStrategy → List ℕ → List ℕ → Result Choice Refusal
owner_choice s ours theirs = choice_read s (read ours) (read theirs)

-- `combine_owner_id`
abbrev pub owner_handed : MergingOwnersStrategy → Part → Part → Part
owner_handed s ours theirs = handed (owner_choice s ours.bytes theirs.bytes) ours theirs

-- flags handed on as they are
unfoldable pub handed_on : Held → Lent → FlagsAfter
handed_on f out = leaving (blank out) do
  BadTable unless proper f
  placed_flags (flags_of f) out

-- `combine_added_bytes`
unfoldable pub combined_added : Held → Held → ℕ → MergingOwnersStrategy → Lent → FlagsAfter
combined_added ours theirs amount s out = leaving (blank out) do
  BadTable unless proper ours && proper theirs
  f ← added s amount (flags_of ours) (flags_of theirs)
  placed_flags f out

-- `optional_combine_added_bytes`: where ours is absent, the incoming flags; absent ours is not tested
abbrev pub optional_combined_added : Bool → Held → Held → ℕ → MergingOwnersStrategy → Lent → FlagsAfter
optional_combined_added present ours theirs amount s out = cond present (combined_added ours theirs amount s out) (handed_on theirs out)
