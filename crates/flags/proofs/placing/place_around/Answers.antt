-- Ours below the epoch, the record and the union of the rest were placed one after another, which is the union; or it has no room. Assumes nothing.
use Rattle.std.proofs.Common.{refl, ◌∷◌, length, sym, ap, ◌∙◌, zero-add, arith}
use Rattle.records_spec.specs.Tables.{◌⦂◌, records_of, union}
use Rattle.records_spec.specs.Flags.{head_for, lending}
use Rattle.records_spec.proofs.Unions.{above_table}
use Rattle.records_spec.proofs.Answers.{room_both_lem, placing_short, placed_left}
use Rattle.flags_spec.proofs.Joining.{spot_order, around_long, around_placed}
use Rattle.flags.proofs.placing.place_around.Goals as goal

pub overflow_add-below : goal.overflow_add-below
overflow_add-below c =
    let o = spot_order c.requires.table c.requires.above c.requires.spot_value in
    omega arith

pub union_fits-requires-clause-table_2 : goal.union_fits-requires-clause-table_2
union_fits-requires-clause-table_2 c = above_table c.requires.above

pub union_fits-requires-clause-before_bound : goal.union_fits-requires-clause-before_bound
union_fits-requires-clause-before_bound c =
    let o = spot_order c.requires.table c.requires.above c.requires.spot_value in
    (omega arith, o.1)

pub returns-then-not-union_fits : goal.returns-then-not-union_fits
returns-then-not-union_fits c =
    let r = c.requires in
    let long = around_long r.table r.above r.spot_value c.args.count in
    sym (placing_short _ (lending _ _) (rw long (sym c.if-not-union_fits.ensures)))

pub copy_records-requires-clause-n_in_bounds : goal.copy_records-requires-clause-n_in_bounds
copy_records-requires-clause-n_in_bounds c =
    let o = spot_order c.requires.table c.requires.above c.requires.spot_value in
    (omega arith, omega arith)

pub union_into-n-requires-clause-table_2 : goal.union_into-n-requires-clause-table_2
union_into-n-requires-clause-table_2 c = above_table c.requires.above

pub union_into-n-requires-clause-i_in_bounds : goal.union_into-n-requires-clause-i_in_bounds
union_into-n-requires-clause-i_in_bounds c =
    let o = spot_order c.requires.table c.requires.above c.requires.spot_value in
    (o.1, omega arith)

pub returns : goal.returns
returns c =
    let a = c.args in
    let r = c.requires in
    let n = length (union (records_of a.our_epochs.now a.our_counts.now) (a.epoch ⦂ a.count ∷ records_of a.their_epochs.now a.their_counts.now)) in
    let long = around_long r.table r.above r.spot_value a.count in
    let room = room_both_lem n _ _ (rw (← long) at (sym c.if-not-union_fits.ensures)) in
    let q = around_placed r.table r.above r.spot_value a.count c.copy_records.ensures c.union_into-n.ensures in
    let head = c.new_head.ensures ∙ ap (head_for a.base a.owner) (q.behind ∙ zero-add n) in
    placed_left _ (lending _ _) _ _ _ _ _ refl head q room.0 room.1
