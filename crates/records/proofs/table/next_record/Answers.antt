-- Where one side is passed the other has the next record, and else the selects give it. Assumes nothing.
use Rattle.std.proofs.Common.{arith}
use Rattle.records_spec.proofs.Rising.{asc_end}
use Rattle.records_spec.proofs.Unions.{some_ours, step_ours, step_theirs, step_selected}
use Rattle.records.proofs.table.next_record.Goals as goal

pub returns-then-their_epochs-j : goal.returns-then-their_epochs-j
returns-then-their_epochs-j c =
    let p = c.requires in
    let i = some_ours p.table p.table_2 p.in_both c.if-their_epochs-j.true in
    step_ours p.table p.table_2 p.in_both i (asc_end _ c.args.j _ c.if-their_epochs-j.true)

pub returns-then-our_epochs-i : goal.returns-then-our_epochs-i
returns-then-our_epochs-i c =
    let p = c.requires in
    step_theirs p.table p.table_2 p.in_both c.if-their_epochs-j.false (asc_end _ c.args.i _ c.if-our_epochs-i.true)

pub returns-else-our_epochs-i : goal.returns-else-our_epochs-i
returns-else-our_epochs-i c =
    let p = c.requires in
    step_selected p.table p.table_2 p.in_both c.if-their_epochs-j.false c.if-our_epochs-i.false
    (record { below = λ h. omega arith; from = λ h. omega arith }) c.standing.ensures c.upto.ensures c.upto-else-our_epochs-i.ensures
