-- `repair_listing::listing::list_records` meets its contract. The loop's invariant: `Going`, with the lines from the place at on left, and no
-- more lines than bytes. Assumes nothing.
use Rattle.std.proofs.Common.{◌-◌, ◌≤◌, length}
use Rattle.repair_spec.specs.Inner.Steps.{lines_from}
use Rattle.repair_spec.proofs.Columns.{Going}
use Rattle.repair_listing.proofs.listing.list_records.Given as goal

abbrev pub invariant-loop-at : goal.invariant-loop-at
invariant-loop-at l = record {
  few : l.k ≤ l.at;
  inside : l.at ≤ length l.src;
  going : Going (lines_from l.base l.places 0 l.start l.src) l.from l.initial.offsets l.initial.changes
      (lines_from l.base l.places l.highest l.at l.src) l.k l.offsets l.changes;
}

abbrev pub decreases-loop-at : goal.decreases-loop-at
decreases-loop-at l = length l.src - l.at
