-- Theirs are proper and handed on, or they are refused. Assumes nothing.
use Rattle.std.proofs.Common.{sym, ◌∙◌}
use Rattle.flags_spec.proofs.Merging.{handed_proper, handed_bad}
use Rattle.flags.proofs.adding.combine_absent.Goals as goal

pub returns-then-is_proper : goal.returns-then-is_proper
returns-then-is_proper c = c.hand_on.ensures ∙ sym (handed_proper _ _ (sym c.if-is_proper.ensures))

pub returns-else-is_proper : goal.returns-else-is_proper
returns-else-is_proper c = sym (handed_bad _ _ (sym c.if-is_proper.ensures))
