-- The total at hand is the row's, and behind the last one no row is left. Assumes nothing.
use Rattle.std.proofs.Common.{◌<◌, sym, ◌∙◌, arith, length-take-le}
use mathlib.Core.Bool.{and_assoc, and-true}
use Rattle.std.proofs.Common.{get_or-take}
use Rattle.totals_spec.proofs.Tabled.{above_next, above_end}
use Rattle.totals_rows.proofs.table.none_is_zero.Goals as goal

pub loop-total-preserved : goal.loop-total-preserved
loop-total-preserved c =
    let l = c.loop-total in
    let long = length-take-le c.args.n c.args.totals.now c.requires.bytes_long in
    let h : l.total-index < c.args.n = omega arith in
    l.invariant ∙ rw (above_next c.requires l.total-index h, get_or-take) (sym (and_assoc l.good _ _))

pub returns : goal.returns
returns c =
    let l = c.loop-total in
    let long = length-take-le c.args.n c.args.totals.now c.requires.bytes_long in
    sym (l.invariant ∙ rw (above_end c.requires l.total-index (omega arith)) (and-true l.good))
