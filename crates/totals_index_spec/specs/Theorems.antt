-- What the theorem on the table and its columns speaks of besides: what `totals::replace` leaves.
-- Assumes nothing.
use Rattle.records_spec.specs.Outcomes.{after}
use Rattle.totals_spec.specs.Calls.{RowsAfter}
use Rattle.totals_index_spec.specs.Structs.{columns}
use Rattle.totals_index_spec.specs.Calls.{StructsAfter}

-- what `totals::replace` leaves, read off the structs
abbrev pub columns_after : StructsAfter → RowsAfter
columns_after a = after a.answer (columns a.lent.table)
