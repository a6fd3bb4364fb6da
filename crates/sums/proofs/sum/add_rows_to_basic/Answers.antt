-- `add_rows_to_basic` meets its contract: the rows are put into our tables, and the number's row is joined to them. Assumes nothing.
use Rattle.std.proofs.Common.{length, sym, ap, ◌∙◌}
use Rattle.records_spec.specs.Outcomes.{Answer, after}
use Rattle.rows_spec.specs.Rows.{Row, tables, rows_in}
use Rattle.rows_spec.specs.declared.removed.Removed.{Removed}
use Rattle.rows_spec.proofs.Outcomes.{placing_fits, placing_short}
use Rattle.rows_spec.proofs.Rows.{length_rows, room_in_lem, proper_none}
use Rattle.sums_spec.specs.Joins.{add_row}
use Rattle.sums_spec.specs.Sums.{unknown}
use Rattle.sums_spec.proofs.Joining.{joined_nothing}
use Rattle.sums_spec.proofs.Basics.{one_proper, one_joined, first_room, then_proper, then_counted, then_over}
use Rattle.sums.proofs.sum.add_rows_to_basic.Goals as goal

pub count_joined-count-requires-clause-proper_2 : goal.count_joined-count-requires-clause-proper_2
count_joined-count-requires-clause-proper_2 c = one_proper c.args.removed_bytes

pub returns-then-not-rows_fit : goal.returns-then-not-rows_fit
returns-then-not-rows_fit c =
    let a = c.args in
    let rows = rows_in a.m (tables a.rhs_ids.now a.rhs_epochs.now a.rhs_bytes.now) in
    placing_short (add_row (unknown a.removed_bytes) rows) _ (tables a.ids.now a.epochs.now a.bytes.now)
    (c.count_joined-count.ensures ∙ ap (length {A = Row}) (one_joined a.removed_bytes c.requires))
    (sym c.rows_fit.ensures ∙ c.if-not-rows_fit.true)

pub join_in_place-requires-clause-proper : goal.join_in_place-requires-clause-proper
join_in_place-requires-clause-proper c = proper_none _

pub join_in_place-requires-clause-count_value : goal.join_in_place-requires-clause-count_value
join_in_place-requires-clause-count_value c = sym (ap (length {A = Row}) (joined_nothing _) ∙ length_rows c.requires.room)

pub join_in_place-requires-clause-room : goal.join_in_place-requires-clause-room
join_in_place-requires-clause-room c =
    let a = c.args in
    let room = room_in_lem _ (tables a.ids.now a.epochs.now a.bytes.now) (sym c.rows_fit.ensures ∙ c.if-not-rows_fit.false) in
    first_room a.removed_bytes c.requires c.count_joined-count.ensures room

pub join_in_place-requires-2-clause-proper : goal.join_in_place-requires-2-clause-proper
join_in_place-requires-2-clause-proper c =
    let a = c.args in
    let room = room_in_lem _ (tables a.ids.now a.epochs.now a.bytes.now) (sym c.rows_fit.ensures ∙ c.if-not-rows_fit.false) in
    then_proper a.removed_bytes c.requires c.count_joined-count.ensures room c.join_in_place.ensures

pub join_in_place-requires-2-clause-proper_2 : goal.join_in_place-requires-2-clause-proper_2
join_in_place-requires-2-clause-proper_2 c = one_proper c.args.removed_bytes

pub join_in_place-requires-2-clause-count_value : goal.join_in_place-requires-2-clause-count_value
join_in_place-requires-2-clause-count_value c =
    let a = c.args in
    let room = room_in_lem _ (tables a.ids.now a.epochs.now a.bytes.now) (sym c.rows_fit.ensures ∙ c.if-not-rows_fit.false) in
    then_counted a.removed_bytes c.requires c.count_joined-count.ensures room c.join_in_place.ensures

pub returns : goal.returns
returns c =
    let a = c.args in
    let ours = tables a.ids.now a.epochs.now a.bytes.now in
    let rows = rows_in a.m (tables a.rhs_ids.now a.rhs_epochs.now a.rhs_bytes.now) in
    let count = c.count_joined-count.ensures in
    let fits = sym c.rows_fit.ensures ∙ c.if-not-rows_fit.false in
    let left = c.join_in_place-2.new in
    ap (λ (x : Answer Removed). after x (tables left.ids left.epochs left.bytes)) c.done.ensures
    ∙ placing_fits (add_row (unknown a.removed_bytes) rows) _ ours (count ∙ ap (length {A = Row}) (one_joined a.removed_bytes c.requires)) _ fits
    (then_over a.removed_bytes c.requires count (room_in_lem _ ours fits) c.join_in_place.ensures c.join_in_place-2.ensures)
