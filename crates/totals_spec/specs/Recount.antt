-- The recount of a list of elements' flags: for each owner and epoch the sum of the record counts, with a row exactly where it is above 0.
-- Assumes nothing.
use Rattle.std.specs.Prelude.{ℕ, ◌+◌, cond, List, [], ◌∷◌}
use Rattle.std.specs.Prelude.{Option, None, Some}
use Rattle.records_spec.specs.Flags.{Flags, id_of}
use Rattle.rows_spec.specs.Rows.{Row, compared, rows_under}
use Rattle.rows_spec.specs.Order.{is_equal}
use Rattle.totals_spec.specs.Table.{add_counts}

-- the rows that flags name: their records under their owner, unowned under 32 zero bytes; none where flags are absent
abbrev pub named : Option Flags → List Row
named None = []
named (Some f) = rows_under (id_of f.owner) f.records

-- the table of a list of elements
unfoldable pub recount : List (Option Flags) → List Row
recount [] = []
recount (e ∷ es) = add_counts (named e) (recount es)

-- ---- what its rows are, without a table

-- the sum of counts at a row's owner and epoch
unfoldable pub count_at : Row → List Row → ℕ
count_at k [] = 0
count_at k (r ∷ rs) = cond (is_equal (compared k r)) r.part.bytes 0 + count_at k rs

-- the same over all elements
unfoldable pub count_over : Row → List (Option Flags) → ℕ
count_over k [] = 0
count_over k (e ∷ es) = count_at k (named e) + count_over k es
