-- What our record holds decides on the limit, and the record that is placed is the one put in. Assumes nothing.
use Rattle.std.proofs.Common.{refl, ◌≡◌, ◌+◌, ◌<◌, ◌≤◌, true, List, ap, arith}
use Rattle.fields_spec.specs.Varint.{largest}
use Rattle.records_spec.specs.Tables.{At, records_of, epochs_of, ascending, held}
use Rattle.records_spec.specs.Flags.{lending}
use Rattle.records_spec.specs.declared.refusal.Refusal.TheVariants.{Overflow}
use Rattle.records_spec.specs.declared.table.Spot.{Spot}
use Rattle.records_spec.proofs.Tables.{epochs_records}
use Rattle.records_spec.proofs.Answers.{refused_placing}
use Rattle.flags_spec.proofs.Merging.{raised_over, raised_made}
use Rattle.flags.proofs.adding.combine_with_higher_base_epoch.Goals as goal
use Rattle.flags.proofs.adding.combine_with_higher_base_epoch.Goals.{After-look_up-spot}

module _ (c : After-look_up-spot) where
  abbrev ours : List At
  ours = records_of c.args.our_epochs.now c.args.our_counts.now

  abbrev theirs : List At
  theirs = records_of c.args.their_epochs.now c.args.their_counts.now

  above : ascending c.args.epoch (epochs_of theirs) ≡ true
  above = rw (epochs_records c.args.their_epochs.now c.args.their_counts.now c.requires.above.even) c.requires.above.ascends

  count : c.look_up-spot.result.count ≡ held c.args.epoch ours
  count = ap (λ (s : Spot). s.count) c.look_up-spot.ensures

pub returns-in_default : goal.returns-in_default
returns-in_default c =
    let a = c.args in
    let s = (goal.at.returns-in_default c).After-look_up-spot in
    let over : largest < held a.epoch (ours s) + a.added_bytes = omega (arith, count s, c.in_default.ensures) in
    refused_placing _ (lending _ _) _ Overflow refl (raised_over a.epoch a.added_bytes a.base a.owner (ours s) (theirs s) (above s) over)

pub returns : goal.returns
returns c =
    let a = c.args in
    let s = (goal.at.returns c).After-look_up-spot in
    let sum : c.in-Some.count ≡ held a.epoch (ours s) + a.added_bytes = omega (arith, count s, c.in-Some.ensures.1) in
    let fits : held a.epoch (ours s) + a.added_bytes ≤ largest = omega (arith, count s, c.in-Some.ensures.0) in
    rw (raised_made a.epoch a.added_bytes a.base a.owner (ours s) (theirs s) (above s) fits)
    (rw sum at c.place_around.ensures)
