-- A row that is below stands before the place, and the place is at most that of a row that is not: so a look at the middle keeps it between
-- the bounds, and the last look tells it. Assumes nothing.
use Rattle.std.proofs.Common.{◌+◌, ◌/◌, sym, ◌∙◌, arith}
use Rattle.rows_spec.specs.Rows.{row}
use Rattle.records_spec.proofs.Halving.{between_start, middle_in, between_up, between_down, done_behind, done_here, done_end}
use Rattle.totals_spec.proofs.Places.{found_within, found_past, found_upto}
use Rattle.totals_rows.proofs.finding.find_row.Goals as goal
use Rattle.totals_rows.proofs.finding.find_row.Goals.{else-at-upto-via-then-at-upto+else-is_below-2, else-at-upto-via-else-at-upto}

pub loop-left-init : goal.loop-left-init
loop-left-init c =
    let s = c.requires in record {
      between = between_start c.args.from _ (omega arith) (omega arith) (found_within s _);
      behind = omega arith;
    }

pub loop-left-preserved-then-is_below : goal.loop-left-preserved-then-is_below
loop-left-preserved-then-is_below c =
    let l = c.loop-left in
    let middle = middle_in l.invariant.between c.loop-left-test.true in
    let below = sym c.is_below.ensures ∙ c.if-is_below.true in
    let past = found_past c.requires (row c.args.owner c.args.epoch 0) (l.at + l.left / 2) (omega arith) middle below in
    record {
      between = between_up l.invariant.between c.loop-left-test.true past;
      behind = omega arith;
    }

pub loop-left-preserved : goal.loop-left-preserved
loop-left-preserved c =
    let l = c.loop-left in
    let middle = middle_in l.invariant.between c.loop-left-test.true in
    let not_below = sym c.is_below.ensures ∙ c.if-is_below.false in
    let upto = found_upto c.requires (row c.args.owner c.args.epoch 0) (l.at + l.left / 2) (omega arith) middle not_below in
    record {
      between = between_down l.invariant.between c.loop-left-test.true upto;
      behind = l.invariant.behind;
    }

pub returns-then-is_below-2 : goal.returns-then-is_below-2
returns-then-is_below-2 c =
    let l = c.loop-left in
    let below = sym c.is_below-then-at-upto.ensures ∙ c.if-is_below-2.true in
    let past = found_past c.requires _ l.at l.invariant.behind c.if-at-upto.true below in
    done_behind l.invariant.between c.loop-left-test.false past

pub returns-else-at-upto : goal.returns-else-at-upto
returns-else-at-upto c =
    let l = c.loop-left in
    elim c.else-at-upto.branch [
      | else-at-upto-via-then-at-upto+else-is_below-2 w ↦
          let not_below = sym w.is_below-then-at-upto.ensures ∙ w.if-is_below-2.false in
          let upto = found_upto c.requires _ l.at l.invariant.behind w.if-at-upto.true not_below in
          done_here l.invariant.between c.loop-left-test.false upto
      | else-at-upto-via-else-at-upto w ↦ done_end l.invariant.between c.loop-left-test.false w.if-at-upto.false
    ]
