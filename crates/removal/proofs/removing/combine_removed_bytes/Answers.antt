-- Both sides and the removal are proper, or one is not. Assumes nothing.
use Rattle.std.proofs.Common.{sym, ◌∙◌}
use Rattle.removal_spec.proofs.Merging.{combined_proper, combined_removal_bad, combined_theirs_bad, combined_ours_bad}
use Rattle.removal.proofs.removing.combine_removed_bytes.Goals as goal
use Rattle.removal.proofs.removing.combine_removed_bytes.Goals.{else-is_proper-via-then-is_proper+then-is_proper-2+else-removal_is_proper}
use Rattle.removal.proofs.removing.combine_removed_bytes.Goals.{else-is_proper-via-then-is_proper+else-is_proper-2, else-is_proper-via-else-is_proper}

pub returns-then-removal_is_proper : goal.returns-then-removal_is_proper
returns-then-removal_is_proper c =
    c.combine_removed_proper.ensures
    ∙ sym (combined_proper _ _ _ _ _ (sym c.is_proper.ensures ∙ c.if-is_proper.true)
    (sym c.is_proper-then-is_proper.ensures ∙ c.if-is_proper-2.true)
    (sym c.removal_is_proper.ensures ∙ c.if-removal_is_proper.true))

pub returns-else-is_proper : goal.returns-else-is_proper
returns-else-is_proper c =
    elim c.else-is_proper.branch [
      | else-is_proper-via-then-is_proper+then-is_proper-2+else-removal_is_proper w ↦
          sym (combined_removal_bad _ _ _ _ _ (sym w.removal_is_proper.ensures ∙ w.if-removal_is_proper.false))
      | else-is_proper-via-then-is_proper+else-is_proper-2 w ↦
          sym (combined_theirs_bad _ _ _ _ _ (sym w.is_proper-then-is_proper.ensures ∙ w.if-is_proper-2.false))
      | else-is_proper-via-else-is_proper w ↦ sym (combined_ours_bad _ _ _ _ _ (sym c.is_proper.ensures ∙ w.if-is_proper.false))
    ]
