-- A place more of each column is filled. Assumes nothing.
use Rattle.std.proofs.Common.{◌≡◌, ◌<◌, length, take, get_or, arith, add-one, length-take-le}
use Rattle.std.proofs.lemmas.List.{get_or-take}
use Rattle.rows_spec.specs.Rows.{tables}
use Rattle.totals_index_spec.proofs.Columns.{no_total, owner_next, epoch_next, total_next, all_taken}
use Rattle.totals_index_work.proofs.structs.take_apart.Goals as goal

pub loop-i-preserved : goal.loop-i-preserved
loop-i-preserved c =
    let a = c.args in
    let l = c.loop-i in
    let room = c.requires.1 in
    let long = length-take-le a.n a.table.now c.requires.0 in
    let h : l.i < length a.table.now = omega arith in
    let row : get_or (take a.n a.table.now) l.i no_total ≡ get_or a.table.now l.i no_total = get_or-take a.n a.table.now l.i no_total (omega arith) in
    record {
      owners_filled = rw (add-one, row, l.invariant.owners_filled) (owner_next a.table.now l.i h a.owners.now (omega (arith, room.ids_long)));
      epochs_filled = rw (add-one, row, l.invariant.epochs_filled) (epoch_next a.table.now l.i h a.epochs.now (omega (arith, room.epochs_long)));
      totals_filled = rw (add-one, row, l.invariant.totals_filled) (total_next a.table.now l.i h a.totals.now (omega (arith, room.bytes_long)));
    }

pub returns : goal.returns
returns c =
    let a = c.args in
    let l = c.loop-i in
    let long = length-take-le a.n a.table.now c.requires.0 in
    let e : l.i ≡ a.n = omega arith in
    rw (l.invariant.owners_filled, l.invariant.epochs_filled, l.invariant.totals_filled, e)
    (all_taken a.n a.table.now c.requires.0 (tables a.owners.now a.epochs.now a.totals.now))
