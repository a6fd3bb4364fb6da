-- Ours without records comes back; else the owner rule refuses, or the removal is taken under our owner. Ours and theirs are proper, so their
-- records stand in the tables. Assumes nothing.
use Rattle.std.proofs.Common.{◌≡◌, ◌<◌, length, take, refl, sym, ap, ◌∙◌, arith, Err}
use Rattle.std.proofs.Math.Seq.{length-take-le}
use Rattle.std.proofs.lemmas.Result.{err_from_is_err_and}
use Rattle.records_spec.specs.Flags.{lending}
use Rattle.records_spec.specs.Tables.{records_of}
use Rattle.records_spec.specs.Outcomes.{refused}
use Rattle.records_spec.proofs.Proper.{proper_inv, proper_table_lem, proper_long}
use Rattle.records_spec.proofs.Answers.{refused_placing}
use Rattle.removal_spec.proofs.Merging.{above_single, above_some}
use Rattle.removal.proofs.removing.combine_with_higher_base_epoch_remove_bytes.Goals as goal

pub slice_bounds-remove_bytes-end : goal.slice_bounds-remove_bytes-end
slice_bounds-remove_bytes-end c = sym (length-take-le _ _ (proper_inv _ _ _ c.requires.our_counts_value).epochs_long)

pub slice_bounds-remove_bytes-end-2 : goal.slice_bounds-remove_bytes-end-2
slice_bounds-remove_bytes-end-2 c = sym (length-take-le _ _ (proper_inv _ _ _ c.requires.our_counts_value).counts_long)

pub slice_bounds-remove_bytes-end-3 : goal.slice_bounds-remove_bytes-end-3
slice_bounds-remove_bytes-end-3 c = sym (length-take-le _ _ (proper_inv _ _ _ c.requires.their_counts_value).epochs_long)

pub slice_bounds-remove_bytes-end-4 : goal.slice_bounds-remove_bytes-end-4
slice_bounds-remove_bytes-end-4 c = sym (length-take-le _ _ (proper_inv _ _ _ c.requires.their_counts_value).counts_long)

pub remove_bytes-requires-clause-table : goal.remove_bytes-requires-clause-table
remove_bytes-requires-clause-table c = proper_table_lem (proper_inv _ _ _ c.requires.our_counts_value)

pub remove_bytes-requires-clause-table_2 : goal.remove_bytes-requires-clause-table_2
remove_bytes-requires-clause-table_2 c = proper_table_lem (proper_inv _ _ _ c.requires.their_counts_value)

pub returns-then-ours-eq0 : goal.returns-then-ours-eq0
returns-then-ours-eq0 c =
    let a = c.args in
    let records = records_of (take a.ours.records a.our_epochs.now) (take a.ours.records a.our_counts.now) in
    let none : length records ≡ 0 = proper_long (proper_inv _ _ _ c.requires.our_counts_value) ∙ c.if-ours-eq0.true in
    rw above_single c.hand_on.ensures

pub returns-in_err-owner : goal.returns-in_err-owner
returns-in_err-owner c =
    let a = c.args in
    let records = records_of (take a.ours.records a.our_epochs.now) (take a.ours.records a.our_counts.now) in
    let some : 0 < length records = omega (arith, proper_long (proper_inv _ _ _ c.requires.our_counts_value), c.if-ours-eq0.false) in
    let passed = err_from_is_err_and c.from_residual.result c.from_residual.ensures.1 in
    rw (above_some, ← c.in_err-owner.ensures) (refused_placing _ (lending _ _) (refused _) _ (passed.1 ∙ ap Err passed.2) refl)

pub returns : goal.returns
returns c =
    let a = c.args in
    let records = records_of (take a.ours.records a.our_epochs.now) (take a.ours.records a.our_counts.now) in
    let some : 0 < length records = omega (arith, proper_long (proper_inv _ _ _ c.requires.our_counts_value), c.if-ours-eq0.false) in
    rw (above_some, ← c.in_ok-owner.ensures, ← c.id_of.ensures) c.remove_bytes.ensures
