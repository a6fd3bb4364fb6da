-- The bases decide. Assumes nothing.
use Rattle.std.proofs.Common.{◌≡◌, ◌<◌, refl, sym}
use Rattle.std.proofs.lemmas.Cmp.{ranked}
use Rattle.records_spec.specs.Flags.{lending}
use Rattle.records_spec.specs.Outcomes.{refused}
use Rattle.records_spec.specs.declared.refusal.Refusal.TheVariants.{DifferentBaseEpoch}
use Rattle.records_spec.proofs.Answers.{refused_placing}
use Rattle.removal_spec.proofs.Merging.{removed_lower, removed_beside_lem, removed_above_lem}
use Rattle.removal.proofs.removing.combine_removed_proper.Goals as goal

pub returns-in-Less : goal.returns-in-Less
returns-in-Less c =
    let lower : c.args.theirs.base < c.args.ours.base = ranked c.args.theirs.base c.args.ours.base _ c.in-Less.ensures in
    rw removed_lower (refused_placing _ (lending _ _) (refused _) DifferentBaseEpoch refl refl)

pub returns-in-Equal : goal.returns-in-Equal
returns-in-Equal c =
    let same : c.args.ours.base ≡ c.args.theirs.base = sym (ranked c.args.theirs.base c.args.ours.base _ c.in-Equal.ensures) in
    rw removed_beside_lem c.combine_same_base_epoch.ensures

pub returns-in-Greater : goal.returns-in-Greater
returns-in-Greater c =
    let higher : c.args.ours.base < c.args.theirs.base = ranked c.args.theirs.base c.args.ours.base _ c.in-Greater.ensures in
    rw removed_above_lem c.combine_with_higher_base_epoch_remove_bytes.ensures
