-- Ours is absent, and the removal is proper or not. Assumes nothing.
use Rattle.std.proofs.Common.{sym, ◌∙◌}
use Rattle.records_spec.specs.Flags.{holding}
use Rattle.removal_spec.proofs.Merging.{optional_absent, optional_bad}
use Rattle.removal.proofs.removing.optional_combine_removed_bytes.Goals as goal

pub returns-then-removal_is_proper : goal.returns-then-removal_is_proper
returns-then-removal_is_proper c =
    let a = c.args in
    let ours = holding a.ours a.our_epochs.now a.our_counts.now in
    let theirs = holding a.theirs a.their_epochs.now a.their_counts.now in
    c.combine_absent.ensures
    ∙ sym (optional_absent ours theirs _ a.strategy _ _ c.if-present.false (sym c.removal_is_proper.ensures ∙ c.if-removal_is_proper.true))

pub returns-else-removal_is_proper : goal.returns-else-removal_is_proper
returns-else-removal_is_proper c =
    let a = c.args in
    let ours = holding a.ours a.our_epochs.now a.our_counts.now in
    let theirs = holding a.theirs a.their_epochs.now a.their_counts.now in
    sym (optional_bad ours theirs _ a.strategy _ _ c.if-present.false (sym c.removal_is_proper.ensures ∙ c.if-removal_is_proper.false))
