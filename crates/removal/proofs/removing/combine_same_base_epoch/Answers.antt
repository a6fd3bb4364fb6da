-- The owner rule refuses, or the union is placed; ours and theirs are proper, so their records stand in the tables. Assumes nothing.
use Rattle.std.proofs.Common.{refl, sym, ap, ◌∙◌, Err}
use Rattle.std.proofs.Math.Seq.{length-take-le}
use Rattle.std.proofs.lemmas.Result.{err_from_is_err_and}
use Rattle.records_spec.specs.Flags.{lending}
use Rattle.records_spec.specs.Outcomes.{refused}
use Rattle.records_spec.proofs.Proper.{proper_inv, proper_table_lem}
use Rattle.records_spec.proofs.Answers.{refused_placing}
use Rattle.removal.proofs.removing.combine_same_base_epoch.Goals as goal

pub slice_bounds-place_union-end : goal.slice_bounds-place_union-end
slice_bounds-place_union-end c = sym (length-take-le _ _ (proper_inv _ _ _ c.requires.our_counts_value).epochs_long)

pub slice_bounds-place_union-end-2 : goal.slice_bounds-place_union-end-2
slice_bounds-place_union-end-2 c = sym (length-take-le _ _ (proper_inv _ _ _ c.requires.our_counts_value).counts_long)

pub slice_bounds-place_union-end-3 : goal.slice_bounds-place_union-end-3
slice_bounds-place_union-end-3 c = sym (length-take-le _ _ (proper_inv _ _ _ c.requires.their_counts_value).epochs_long)

pub slice_bounds-place_union-end-4 : goal.slice_bounds-place_union-end-4
slice_bounds-place_union-end-4 c = sym (length-take-le _ _ (proper_inv _ _ _ c.requires.their_counts_value).counts_long)

pub place_union-requires-clause-table : goal.place_union-requires-clause-table
place_union-requires-clause-table c = proper_table_lem (proper_inv _ _ _ c.requires.our_counts_value)

pub place_union-requires-clause-table_2 : goal.place_union-requires-clause-table_2
place_union-requires-clause-table_2 c = proper_table_lem (proper_inv _ _ _ c.requires.their_counts_value)

pub returns-in_err-owner : goal.returns-in_err-owner
returns-in_err-owner c =
    let passed = err_from_is_err_and c.from_residual.result c.from_residual.ensures.1 in
    rw (← c.in_err-owner.ensures) (refused_placing _ (lending _ _) (refused _) _ (passed.1 ∙ ap Err passed.2) refl)

pub returns : goal.returns
returns c = rw (← c.in_ok-owner.ensures) c.place_union.ensures
