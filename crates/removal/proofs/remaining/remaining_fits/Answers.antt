-- No more remains than both sides have, and where these have room, what remains has. Assumes nothing.
use Rattle.std.proofs.Common.{◌+◌, ◌≤◌, length, sym, ◌∙◌, arith}
use Rattle.records_spec.specs.Tables.{records_of, union}
use Rattle.records_spec.proofs.Answers.{room_less}
use Rattle.flags_spec.proofs.Joining.{union_most}
use Rattle.removal_spec.specs.Removing.{minus}
use Rattle.removal_spec.proofs.Lessening.{minus_long}
use Rattle.removal.proofs.remaining.remaining_fits.Goals as goal

pub returns-then-fit : goal.returns-then-fit
returns-then-fit c =
    let a = c.args in
    let records = union (records_of a.our_epochs.now a.our_counts.now) (records_of a.their_epochs.now a.their_counts.now) in
    let sections = records_of a.removed_epochs.now a.removed_bytes.now in
    let most = union_most c.requires.table c.requires.table_2 0 (omega arith) in
    let fewer : length (minus records sections) ≤ length a.our_epochs.now + length a.their_epochs.now =
    omega (arith, most, minus_long records sections) in
    c.if-fit.true
    ∙ sym (room_less _ a.epochs_len a.counts_len (length (minus records sections)) fewer (sym c.fit.ensures ∙ c.if-fit.true))
