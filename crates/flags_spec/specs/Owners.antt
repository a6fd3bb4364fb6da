-- The owner rule: document 01, "Owners".
-- Assumes nothing.
use Rattle.std.specs.Prelude.{ℕ, true, false, cond, List, [], Result, Ok, Err}
use Rattle.std.specs.Prelude.{Option, None, Some}
use Rattle.records_spec.specs.Refusals.{number}
use Rattle.records_spec.specs.Flags.{same}
use Rattle.records_spec.specs.Outcomes.{Answer, ok, refused}
use Rattle.records_spec.specs.declared.refusal.Refusal.{Refusal}
use Rattle.records_spec.specs.declared.refusal.Refusal.TheVariants.{DifferentOwners}
use Rattle.codec_spec.specs.Reading.{Read, no_flags, some_flags, refused_at}
use Rattle.flags_spec.specs.declared.owners.MergingOwnersStrategy.{MergingOwnersStrategy}
use Rattle.flags_spec.specs.declared.owners.MergingOwnersStrategy.TheVariants.{RaiseIssue, UseOurs, UseTheirs}
use Rattle.flags_spec.specs.declared.owners.Choice.{Choice}
use Rattle.flags_spec.specs.declared.owners.Choice.TheVariants.{Ours, Theirs, Neither}

-- both owned and different: the strategy decides
abbrev pub disputed : MergingOwnersStrategy → Result Choice Refusal
disputed RaiseIssue = Err DifferentOwners
disputed UseOurs = Ok Ours
disputed UseTheirs = Ok Theirs

-- whose owner stands: otherwise whichever exists, or none; ours where both are the same
abbrev pub choice : MergingOwnersStrategy → Option (List ℕ) → Option (List ℕ) → Result Choice Refusal
choice s None None = Ok Neither
choice s None (Some t) = Ok Theirs
choice s (Some o) None = Ok Ours
choice s (Some o) (Some t) = cond (same o t) (Ok Ours) (disputed s)

-- the owner that was chosen of two, or the refusal
abbrev pub chosen : Result Choice Refusal → Option (List ℕ) → Option (List ℕ) → Answer (Option (List ℕ))
chosen (Ok Ours) ours theirs = ok ours
chosen (Ok Theirs) ours theirs = ok theirs
chosen (Ok Neither) ours theirs = ok None
chosen (Err r) ours theirs = refused (number r)

-- the owner of a merge, or the refusal
abbrev pub combined_owner : MergingOwnersStrategy → Option (List ℕ) → Option (List ℕ) → Answer (Option (List ℕ))
combined_owner s ours theirs = chosen (choice s ours theirs) ours theirs

-- ---- of two encodings

-- the owner that was read; no flags are unowned
abbrev pub owner_read : Read → Option (List ℕ)
owner_read no_flags = None
owner_read (some_flags f) = f.owner
owner_read (refused_at r place) = None

-- the refusal of what was read, or the rest
abbrev pub unless_refused : Read → Result Choice Refusal → Result Choice Refusal
unless_refused no_flags rest = rest
unless_refused (some_flags f) rest = rest
unless_refused (refused_at r place) rest = Err r

-- the choice between two: ours read first, then theirs, then the owner rule
abbrev pub choice_read : MergingOwnersStrategy → Read → Read → Result Choice Refusal
choice_read s ours theirs = unless_refused ours (unless_refused theirs (choice s (owner_read ours) (owner_read theirs)))

-- the bytes of the owner that was chosen; none where there is none
abbrev pub chosen_bytes : Answer (Option (List ℕ)) → List ℕ
chosen_bytes (ok None) = []
chosen_bytes (ok (Some owner)) = owner
chosen_bytes (refused n) = []
