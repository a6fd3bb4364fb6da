-- The union was placed from the start on, or it has no room. Assumes nothing.
use Rattle.std.proofs.Common.{refl, length, sym, ap, ◌∙◌, zero-add}
use Rattle.records_spec.specs.Tables.{records_of, union}
use Rattle.records_spec.specs.Flags.{head_for, lending}
use Rattle.records_spec.proofs.Answers.{room_both_lem, placing_short, placed_left}
use Rattle.flags.proofs.placing.place_union.Goals as goal

pub returns-then-not-union_fits : goal.returns-then-not-union_fits
returns-then-not-union_fits c =
    sym (placing_short _ _ (rw zero-add at (sym c.if-not-union_fits.ensures)))

pub returns : goal.returns
returns c =
    let a = c.args in
    let n = length (union (records_of a.our_epochs.now a.our_counts.now) (records_of a.their_epochs.now a.their_counts.now)) in
    let q = c.union_into-n.ensures in
    let room = room_both_lem n _ _ (rw zero-add at (sym c.if-not-union_fits.ensures)) in
    let head = c.new_head.ensures ∙ ap (head_for a.base a.owner) (q.behind ∙ zero-add n) in
    placed_left _ (lending _ _) _ _ _ _ _ refl head q room.0 room.1
