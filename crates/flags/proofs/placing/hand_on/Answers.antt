-- The first records were copied, and their head is that of the flags; or they have no room. Assumes nothing.
use Rattle.std.proofs.Common.{refl, sym, ap, ◌∙◌, arith}
use Rattle.records_spec.specs.Flags.{owner_of, head_for, lending}
use Rattle.records_spec.proofs.Tables.{take_records}
use Rattle.records_spec.proofs.Proper.{IsProper, proper_inv, proper_long}
use Rattle.records_spec.proofs.Answers.{room_both_lem, placing_short, placed_left}
use Rattle.flags.proofs.placing.hand_on.Goals as goal
use Rattle.flags.proofs.placing.hand_on.Goals.{After-fit}

is_proper : (c : After-fit) → IsProper c.args.flags c.args.from_epochs.now c.args.from_counts.now
is_proper c = proper_inv c.args.flags c.args.from_epochs.now c.args.from_counts.now c.requires

pub returns-then-not-fit : goal.returns-then-not-fit
returns-then-not-fit c =
    let p = is_proper (goal.at.returns-then-not-fit c).After-fit in
    sym (placing_short _ _ (rw (proper_long p) (sym c.if-not-fit.ensures)))

pub copy_records-requires-clause-n_in_bounds : goal.copy_records-requires-clause-n_in_bounds
copy_records-requires-clause-n_in_bounds c =
    let p = is_proper (goal.at.copy_records-requires-clause-n_in_bounds c).After-fit in
    (p.epochs_long, p.counts_long)

pub returns : goal.returns
returns c =
    let f = c.args.flags in
    let n = proper_long (is_proper (goal.at.returns c).After-fit) in
    let room = room_both_lem f.records _ _ (sym c.if-not-fit.ensures) in
    let owner = ap (λ o. head_for f.base o f.records) c.owner_id.ensures in
    let head = c.new_head.ensures ∙ owner ∙ ap (head_for f.base (owner_of f)) (sym n) in
    let placed = rw take_records at c.copy_records.ensures in
    placed_left _ (lending _ _) _ _ f.records _ _ refl head placed (omega (arith, n, room.0)) (omega (arith, n, room.1))
