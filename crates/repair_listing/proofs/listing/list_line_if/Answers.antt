-- `repair_listing::listing::list_line_if` meets its contract: a line, or none. Assumes nothing.
use Rattle.repair_spec.proofs.Columns.{listed_none}
use Rattle.repair_listing.proofs.listing.list_line_if.Goals as goal

pub returns-else-there : goal.returns-else-there
returns-else-there c = rw c.if-there.false (listed_none _ _ _)
