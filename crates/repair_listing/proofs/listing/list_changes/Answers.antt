-- `repair_listing::listing::list_changes` meets its contract: kind changed stands before the lines of the records. Assumes nothing.
use Rattle.std.proofs.Common.{sym, ◌∙◌}
use Rattle.repair_spec.proofs.AllLines.{multi_listed, single_listed}
use Rattle.repair_listing.proofs.listing.list_changes.Goals as goal

pub returns-then-is_multi : goal.returns-then-is_multi
returns-then-is_multi c =
    let a = c.args in
    multi_listed a.kind a.src.now a.places.now a.records c.requires (sym c.is_multi.ensures ∙ c.if-is_multi.true)
    _ _ _ _ c.base_in-base.ensures c.head_size-start.ensures c.list_line_if-from.ensures c.list_records.ensures

pub returns-else-is_multi : goal.returns-else-is_multi
returns-else-is_multi c =
    let a = c.args in
    single_listed a.kind a.src.now a.places.now a.records c.requires (sym c.is_multi.ensures ∙ c.if-is_multi.false)
    _ _ c.head_size-start.ensures c.list_line_if.ensures
