-- A place more of the table is filled. Assumes nothing.
use Rattle.std.proofs.Common.{◌≡◌, arith, add-one}
use Rattle.totals_index_spec.proofs.Columns.{struct_next, all_put}
use Rattle.totals_index_work.proofs.structs.put_together.Goals as goal

pub loop-i-preserved : goal.loop-i-preserved
loop-i-preserved c =
    let l = c.loop-i in
    rw (add-one, l.invariant) (struct_next c.requires.1 c.args.table.now l.i (omega arith) (omega arith))

pub returns : goal.returns
returns c =
    let e : c.loop-i.i ≡ c.args.n = omega arith in
    rw (c.loop-i.invariant, e) (all_put c.requires.1 c.args.table.now)
