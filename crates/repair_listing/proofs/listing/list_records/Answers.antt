-- `repair_listing::listing::list_records` meets its contract. The loop's invariant: `Going`, with the lines from the place at on left, and no
-- more lines than bytes. Assumes nothing.
use Rattle.std.proofs.Common.{ℕ, ◌++◌, get_or, drop, not, ltb, eqb, sym, ap, ◌∙◌, arith}
use Rattle.repair_spec.specs.Olds.{old_at}
use Rattle.repair_spec.specs.Changes.{dropped, record_lines}
use Rattle.repair_spec.specs.Inner.Steps.{old_of, lines_from}
use Rattle.repair_spec.proofs.Getting.{is_cut, is_large, large_turn, is_fitting, fitting_turn}
use Rattle.repair_spec.proofs.Columns.{going_more, going_last, going_done}
use Rattle.repair_spec.proofs.KeptLines.{record_few}
use Rattle.repair_spec.proofs.Lines.{lines_end, lines_cut, lines_large, lines_fitting}
use Rattle.repair_listing.proofs.listing.list_records.Goals as goal

pub returns-in-Cut : goal.returns-in-Cut
returns-in-Cut c =
    let a = c.args in
    let l = c.loop-at in
    let cut = is_cut (old_at l.at (drop l.at a.src.now)) c.in-Cut.ensures in
    going_last l.invariant.going _ _ _ _ (lines_cut a.base a.places.now l.highest a.src.now l.at c.loop-at-test.true cut) c.list_line.ensures

pub loop-at-smaller-in-TooLarge : goal.loop-at-smaller-in-TooLarge
loop-at-smaller-in-TooLarge c =
    let src = c.args.src.now in
    let at = c.loop-at.at in
    let v = c.in-TooLarge in
    let turn = large_turn src at c.loop-at-test.true v.next (is_large (old_at at (drop at src)) v.next v.ensures) in
    omega (arith, turn.0.inside, turn.0.some_bytes, turn.1)

pub loop-at-preserved-in-TooLarge : goal.loop-at-preserved-in-TooLarge
loop-at-preserved-in-TooLarge c =
    let a = c.args in
    let l = c.loop-at in
    let v = c.in-TooLarge in
    let more = c.loop-at-test.true in
    let large = is_large (old_at l.at (drop l.at a.src.now)) v.next v.ensures in
    let turn = large_turn a.src.now l.at more v.next large in
    let line = lines_large a.base a.places.now l.highest a.src.now l.at more v.next large in
    record {
      few = omega (arith, c.list_line-k.ensures.behind, turn.0.some_bytes, turn.1);
      inside = omega (arith, turn.0.inside, turn.1);
      going = going_more l.invariant.going _ _ _ _ _ line c.list_line-k.ensures;
    }

pub list_fitting-behind-requires : goal.list_fitting-behind-requires
list_fitting-behind-requires c =
    let src = c.args.src.now in
    let at = c.loop-at.at in
    let v = c.in-Fits in
    let turn = fitting_turn src at c.loop-at-test.true v.epoch v.count v.next (is_fitting (old_at at (drop at src)) _ _ _ v.ensures) in
    (omega (arith, turn.1), omega (arith, turn.0.inside, turn.0.some_bytes, turn.1, c.well_formed))

pub loop-at-smaller : goal.loop-at-smaller
loop-at-smaller c =
    let src = c.args.src.now in
    let at = c.loop-at.at in
    let v = c.in-Fits in
    let turn = fitting_turn src at c.loop-at-test.true v.epoch v.count v.next (is_fitting (old_at at (drop at src)) _ _ _ v.ensures) in
    omega (arith, turn.0.inside, turn.0.some_bytes, turn.1)

pub loop-at-preserved : goal.loop-at-preserved
loop-at-preserved c =
    let a = c.args in
    let l = c.loop-at in
    let v = c.in-Fits in
    let more = c.loop-at-test.true in
    let listed = c.list_fitting-behind.ensures in
    let fitting = is_fitting (old_at l.at (drop l.at a.src.now)) v.epoch v.count v.next v.ensures in
    let turn = fitting_turn a.src.now l.at more v.epoch v.count v.next fitting in
    let old = old_of l.at v.epoch v.count v.next in
    let drops = dropped a.base (not (eqb (get_or a.places.now v.epoch 0) l.at)) old in
    let moved = ltb v.epoch l.highest in
    let lines = lines_fitting a.base a.places.now l.highest a.src.now l.at more v.next v.epoch v.count fitting
    ∙ ap (λ (h : ℕ). record_lines drops moved old ++ lines_from a.base a.places.now h v.next a.src.now) (sym listed.highest_value) in
    record {
      few = omega (arith, listed.fact.behind, record_few drops moved old turn.0.some_bytes, turn.0.some_bytes, turn.1);
      inside = omega (arith, turn.0.inside, turn.1);
      going = going_more l.invariant.going _ _ _ _ _ lines listed.fact;
    }

pub returns : goal.returns
returns c =
    let a = c.args in
    let l = c.loop-at in
    going_done l.invariant.going (lines_end a.base a.places.now l.highest a.src.now l.at c.loop-at-test.false)
