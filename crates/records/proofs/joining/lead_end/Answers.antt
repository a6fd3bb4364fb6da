-- The place of their first epoch is looked up among ours; where there is none, all of ours lead. Assumes nothing.
use Rattle.std.proofs.Common.{◌≡◌, ◌<◌, ◌≤◌, length, get_or, arith, rules}
use Rattle.records_spec.proofs.Runs.{part_rises, lead_place, lead_all, lead_within}
use Rattle.records.proofs.joining.lead_end.Goals as goal

pub find-requires : goal.find-requires
find-requires c = part_rises c.args.i c.args.our_epochs.now c.requires.our_epochs_value

pub returns-in-Some : goal.returns-in-Some
returns-in-Some c =
    let a = c.args in
    let within : a.j < length a.their_epochs.now = search rules in
    let first : c.in-Some.first.now ≡ get_or a.their_epochs.now a.j 0 = search rules in
    lead_place a.our_epochs.now a.their_epochs.now a.i a.j within (rw first at c.find.ensures)

pub overflow_add-result : goal.overflow_add-result
overflow_add-result c =
    let a = c.args in
    omega (arith, returns-in-Some c, lead_within a.our_epochs.now a.their_epochs.now a.i a.j c.requires.i_in_bounds)

pub returns-in-None : goal.returns-in-None
returns-in-None c =
    let a = c.args in
    let behind : length a.their_epochs.now ≤ a.j = search rules in
    lead_all a.our_epochs.now a.their_epochs.now a.i a.j c.requires.i_in_bounds behind
