-- A union is not longer than both sides together, so that it has room where these have; and else it is counted. Assumes nothing.
use Rattle.std.proofs.Common.{◌+◌, ◌-◌, ◌≤◌, length, drop, sym, ◌∙◌, arith}
use Rattle.records_spec.specs.Tables.{records_of, union}
use Rattle.records_spec.proofs.Answers.{room_less}
use Rattle.flags_spec.proofs.Joining.{union_most}
use Rattle.flags.proofs.placing.union_fits.Goals as goal
use Rattle.flags.proofs.placing.union_fits.Goals.{After-fit}

longest : (c : After-fit) → let a = c.args in
    length (union (drop a.i (records_of a.our_epochs.now a.our_counts.now)) (records_of a.their_epochs.now a.their_counts.now))
    ≤ (length a.our_epochs.now - a.i) + length a.their_epochs.now
longest c = union_most c.requires.table c.requires.table_2 c.args.i c.requires.before_bound.1

pub overflow_add-before : goal.overflow_add-before
overflow_add-before c = omega (arith, c.union_len.ensures, longest (goal.at.overflow_add-before c).After-fit)

pub returns-then-fit : goal.returns-then-fit
returns-then-fit c =
    let a = c.args in
    let most = a.before + (length a.our_epochs.now - a.i) + length a.their_epochs.now in
    let long = longest (goal.at.returns-then-fit c).After-fit in
    c.if-fit.true ∙ sym (room_less most a.epochs_len a.counts_len _ (omega arith) (sym c.if-fit.ensures))
