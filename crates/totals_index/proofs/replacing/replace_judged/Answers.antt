-- What was taken apart and changed can be put together, and is what the statement says. Assumes nothing.
use Rattle.std.proofs.Common.{ap, ◌∙◌, ℕ, List, length}
use Rattle.std.specs.Prelude.{◌&&◌}
use Rattle.records_spec.specs.Flags.{holding}
use Rattle.records_spec.specs.Tables.{over}
use Rattle.records_spec.specs.Outcomes.{after, answered}
use Rattle.rows_spec.specs.Rows.{Tables, tables, rows_in, over_rows}
use Rattle.totals_spec.specs.Calls.{given, proper_given}
use Rattle.totals_index_spec.specs.Structs.{columns, structs}
use Rattle.totals_index_spec.specs.Calls.{beside}
use Rattle.totals_index_spec.specs.Inner.Steps.{replacing_in}
use Rattle.totals_index_spec.specs.declared.structs.Total.{Total}
use Rattle.totals_index_spec.proofs.Indexing.{can_take, can_put, Put}
use Rattle.totals_index.proofs.replacing.replace_judged.Goals as goal
use Rattle.totals_index.proofs.replacing.replace_judged.Goals.{After-replace_in-answer}

pub take_apart-requires : goal.take_apart-requires
take_apart-requires c =
    let a = c.args in
    let old = holding a.old_flags a.old_epochs.now a.old_counts.now in
    let new = holding a.new_flags a.new_epochs.now a.new_counts.now in
    let work = tables a.owners.now a.epochs.now a.totals.now in
    let good = proper_given a.old_present old && proper_given a.new_present new in
    rw c.rows_to_take-taken.ensures
    (can_take a.judged a.table.now work good (given a.old_present old) (given a.new_present new) c.requires)

put : (c : After-replace_in-answer) →
    let a = c.args in
    let old = holding a.old_flags a.old_epochs.now a.old_counts.now in
    let new = holding a.new_flags a.new_epochs.now a.new_counts.now in
    let work = tables a.owners.now a.epochs.now a.totals.now in
    let good = proper_given a.old_present old && proper_given a.new_present new in
    let left = c.replace_in-answer.new in
    Put a.judged a.table.now work good (given a.old_present old) (given a.new_present new) c.requires c.replace_in-answer.result
    (tables left.owners left.epochs left.totals)
put c =
    let a = c.args in
    let old = holding a.old_flags a.old_epochs.now a.old_counts.now in
    let new = holding a.new_flags a.new_epochs.now a.new_counts.now in
    let work = tables a.owners.now a.epochs.now a.totals.now in
    let good = proper_given a.old_present old && proper_given a.new_present new in
    let left = c.replace_in-answer.new in
    let apart = c.take_apart.ensures ∙ ap (λ (m : ℕ). over_rows (rows_in m (columns a.table.now)) work) c.rows_to_take-taken.ensures in
    let changed = c.replace_in-answer.ensures
    ∙ ap (λ (x : Tables). replacing_in (length a.table.now) a.judged x good (given a.old_present old) (given a.new_present new)) apart in
    can_put a.judged a.table.now work good (given a.old_present old) (given a.new_present new) c.requires c.replace_in-answer.result
    (tables left.owners left.epochs left.totals) changed

pub put_together-requires : goal.put_together-requires
put_together-requires c =
    let p = put (goal.at.put_together-requires c).After-replace_in-answer in
    rw c.rows_to_put.ensures (p.count_fits, p.rows_there)

pub returns : goal.returns
returns c =
    let left = c.replace_in-answer.new in
    let then = tables left.owners left.epochs left.totals in
    let table = c.put_together.ensures ∙ ap (λ (m : ℕ). over (structs (rows_in m then)) c.args.table.now) c.rows_to_put.ensures in
    ap (λ (z : List Total). after (answered c.replace_in-answer.result) (beside z then)) table
    ∙ (put (goal.at.returns c).After-replace_in-answer).all_left
