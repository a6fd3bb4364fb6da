-- Both sides are proper and merged, or one of them is not. Assumes nothing.
use Rattle.std.proofs.Common.{sym, ◌∙◌}
use Rattle.flags_spec.proofs.Merging.{combined_proper, combined_theirs_bad, combined_ours_bad}
use Rattle.flags.proofs.adding.combine_added_bytes.Goals as goal
use Rattle.flags.proofs.adding.combine_added_bytes.Goals.{else-is_proper-via-then-is_proper+else-is_proper-2, else-is_proper-via-else-is_proper}

pub returns-then-is_proper-2 : goal.returns-then-is_proper-2
returns-then-is_proper-2 c =
    c.combine_added_proper.ensures
    ∙ sym (combined_proper _ _ _ _ _ (sym c.if-is_proper.ensures) (sym c.if-is_proper-2.ensures))

pub returns-else-is_proper : goal.returns-else-is_proper
returns-else-is_proper c =
    elim c.else-is_proper.branch [
      | else-is_proper-via-then-is_proper+else-is_proper-2 w ↦ sym (combined_theirs_bad _ _ _ _ _ (sym w.if-is_proper-2.ensures))
      | else-is_proper-via-else-is_proper w ↦ sym (combined_ours_bad _ _ _ _ _ (sym w.if-is_proper.ensures))
    ]
