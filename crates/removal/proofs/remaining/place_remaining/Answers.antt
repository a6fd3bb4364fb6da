-- What remains was placed from the start on, or has no room. Assumes nothing.
use Rattle.std.proofs.Common.{length, refl, sym, ap, ◌∙◌, zero-add}
use Rattle.records_spec.specs.Tables.{records_of, union}
use Rattle.records_spec.specs.Flags.{flags, head_for, lending}
use Rattle.records_spec.proofs.Answers.{room_both_lem, placing_short, placed_left}
use Rattle.removal_spec.specs.Removing.{minus}
use Rattle.removal.proofs.remaining.place_remaining.Goals as goal

pub returns-then-remaining_fits : goal.returns-then-remaining_fits
returns-then-remaining_fits c =
    let a = c.args in
    let records = union (records_of a.our_epochs.now a.our_counts.now) (records_of a.their_epochs.now a.their_counts.now) in
    let left = minus records (records_of a.removed_epochs.now a.removed_bytes.now) in
    let placed = c.remaining_into-n.ensures in
    let room = room_both_lem (length left) (length a.epochs.now) (length a.counts.now) (sym c.remaining_fits.ensures ∙ c.if-remaining_fits.true) in
    let head = c.new_head.ensures ∙ ap (head_for a.base a.owner) (placed.behind ∙ zero-add (length left)) in
    placed_left _ (lending _ _) (flags a.base a.owner left) _ _ _ _ refl head placed room.0 room.1

pub returns-else-remaining_fits : goal.returns-else-remaining_fits
returns-else-remaining_fits c =
    let a = c.args in
    let records = union (records_of a.our_epochs.now a.our_counts.now) (records_of a.their_epochs.now a.their_counts.now) in
    let left = minus records (records_of a.removed_epochs.now a.removed_bytes.now) in
    sym (placing_short (flags a.base a.owner left) (lending _ _) (sym c.remaining_fits.ensures ∙ c.if-remaining_fits.false))
