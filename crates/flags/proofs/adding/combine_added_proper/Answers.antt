-- The bases decide, then the owner; then the tables are merged, which are proper ones. Assumes nothing.
use Rattle.std.proofs.Common.{refl, sym, ap, ◌∙◌, arith, Err}
use Rattle.std.proofs.lemmas.List.{length-take}
use Rattle.std.proofs.lemmas.Result.{err_from_is_err_and}
use Rattle.records_spec.specs.Flags.{Flags, flags_of, holding, lending}
use Rattle.records_spec.specs.declared.refusal.Refusal.TheVariants.{DifferentBaseEpoch}
use Rattle.records_spec.proofs.Proper.{IsProper, proper_inv, proper_table_lem, proper_above}
use Rattle.records_spec.proofs.Answers.{refused_placing}
use Rattle.flags_spec.proofs.Merging.{added_lower, added_disputed, added_owned}
use Rattle.flags.proofs.adding.combine_added_proper.Goals as goal
use Rattle.flags.proofs.adding.combine_added_proper.Goals.{Start}

module _ (c : Start) where
  abbrev ours : Flags
  ours = flags_of (holding c.args.ours c.args.our_epochs.now c.args.our_counts.now)

  abbrev theirs : Flags
  theirs = flags_of (holding c.args.theirs c.args.their_epochs.now c.args.their_counts.now)

  our-proper : IsProper c.args.ours c.args.our_epochs.now c.args.our_counts.now
  our-proper = proper_inv c.args.ours c.args.our_epochs.now c.args.our_counts.now c.requires.our_counts_value

  their-proper : IsProper c.args.theirs c.args.their_epochs.now c.args.their_counts.now
  their-proper = proper_inv c.args.theirs c.args.their_epochs.now c.args.their_counts.now c.requires.their_counts_value

pub returns-then-theirs-ours : goal.returns-then-theirs-ours
returns-then-theirs-ours c =
    let a = c.args in
    let s = (goal.at.returns-then-theirs-ours c).Start in
    refused_placing _ (lending _ _) _ DifferentBaseEpoch refl (added_lower a.strategy a.added_bytes (ours s) (theirs s) c.if-theirs-ours.true)

pub returns-in_err-owner : goal.returns-in_err-owner
returns-in_err-owner c =
    let a = c.args in
    let s = (goal.at.returns-in_err-owner c).Start in
    let passed = err_from_is_err_and c.from_residual.result c.from_residual.ensures.1 in
    refused_placing _ (lending _ _) _ _ (passed.1 ∙ ap Err passed.2)
    (added_disputed a.strategy a.added_bytes (ours s) (theirs s) c.if-theirs-ours.false _ (sym c.in_err-owner.ensures))

pub slice_bounds-combine_tables-end : goal.slice_bounds-combine_tables-end
slice_bounds-combine_tables-end c =
    let p = our-proper (goal.at.slice_bounds-combine_tables-end c).Start in
    simp length-take (omega arith)

pub slice_bounds-combine_tables-end-2 : goal.slice_bounds-combine_tables-end-2
slice_bounds-combine_tables-end-2 c =
    let p = our-proper (goal.at.slice_bounds-combine_tables-end-2 c).Start in
    simp length-take (omega arith)

pub slice_bounds-combine_tables-end-3 : goal.slice_bounds-combine_tables-end-3
slice_bounds-combine_tables-end-3 c =
    let p = their-proper (goal.at.slice_bounds-combine_tables-end-3 c).Start in
    simp length-take (omega arith)

pub slice_bounds-combine_tables-end-4 : goal.slice_bounds-combine_tables-end-4
slice_bounds-combine_tables-end-4 c =
    let p = their-proper (goal.at.slice_bounds-combine_tables-end-4 c).Start in
    simp length-take (omega arith)

pub combine_tables-requires-clause-table : goal.combine_tables-requires-clause-table
combine_tables-requires-clause-table c = proper_table_lem (our-proper (goal.at.combine_tables-requires-clause-table c).Start)

pub combine_tables-requires-clause-above : goal.combine_tables-requires-clause-above
combine_tables-requires-clause-above c = proper_above (their-proper (goal.at.combine_tables-requires-clause-above c).Start)

pub returns : goal.returns
returns c =
    let a = c.args in
    let s = (goal.at.returns c).Start in
    rw (added_owned a.strategy a.added_bytes (ours s) (theirs s) c.if-theirs-ours.false _ (sym c.in_ok-owner.ensures)) c.combine_tables.ensures
