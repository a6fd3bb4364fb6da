-- `last_row` meets its contract, by how the last rows of both sides stand. Assumes nothing.
use Rattle.std.proofs.Common.{sym, ◌∙◌, arith}
use Rattle.sums_spec.proofs.Lasts.{step_none, step_theirs, step_both, step_ours}
use Rattle.sums_joining.proofs.join.last_row.Goals as goal

pub returns-then-i-eq0 : goal.returns-then-i-eq0
returns-then-i-eq0 c = let p = c.requires in step_none p.proper p.proper_2 p.j_nonzero c.if-i-eq0.true

pub returns-in-Less : goal.returns-in-Less
returns-in-Less c = let p = c.requires in step_theirs p.proper p.proper_2 p.j_nonzero (omega arith) (sym c.compare_rows.ensures ∙ c.in-Less.is)

pub returns-in-Equal : goal.returns-in-Equal
returns-in-Equal c =
    let p = c.requires in
    step_both p.proper p.proper_2 p.j_nonzero (omega arith) _ c.saturating_add.ensures (sym c.compare_rows.ensures ∙ c.in-Equal.is)

pub returns-in-Greater : goal.returns-in-Greater
returns-in-Greater c =
    let p = c.requires in step_ours p.proper p.proper_2 p.j_nonzero (omega arith) (sym c.compare_rows.ensures ∙ c.in-Greater.is)
