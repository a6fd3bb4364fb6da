-- `repair_listing::listing::list_line` meets its contract: both columns have the line at its place. Assumes nothing.
use Rattle.std.proofs.Common.{set, ap, ◌∙◌}
use Rattle.repair_spec.proofs.Columns.{listed_one}
use Rattle.repair_listing.proofs.listing.list_line.Goals as goal

pub returns : goal.returns
returns c =
    let a = c.args in
    let change = c.put-2.ensures ∙ ap (set a.changes.now a.k) c.change_number.ensures in
    listed_one a.at a.change a.k a.offsets.now a.changes.now _ _ c.put.ensures change
