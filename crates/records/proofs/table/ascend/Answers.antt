-- The epoch that is passed is tested against the one before it; behind the last one nothing is left. Assumes nothing.
use Rattle.std.proofs.Common.{sym, ◌∙◌}
use mathlib.Core.Bool.{and_assoc, and-true}
use Rattle.records_spec.proofs.Rising.{asc_on, asc_end}
use Rattle.records.proofs.table.ascend.Goals as goal

pub loop-epoch-preserved : goal.loop-epoch-preserved
loop-epoch-preserved c =
    let l = c.loop-epoch in
    l.invariant ∙ rw (asc_on c.args.epochs.now l.epoch-index l.prev c.loop-epoch-test.true) (sym (and_assoc l.good _ _))

pub returns : goal.returns
returns c =
    let l = c.loop-epoch in
    sym (l.invariant ∙ rw (asc_end c.args.epochs.now l.epoch-index l.prev c.loop-epoch-test.false) (and-true l.good))
