-- What replacing one element's flags does to the table: the old counts are taken, then the new ones added.
-- Assumes nothing.
use Rattle.std.specs.Prelude.{ℕ, ◌+◌, ◌-◌, Bool, true, ◌&&◌, List, [], ◌∷◌, leb}
use Rattle.std.specs.Prelude.{Option}
use Rattle.records_spec.specs.Flags.{Flags}
use Rattle.rows_spec.specs.Rows.{Row}
use Rattle.records_spec.specs.Outcomes.{Answer, ok, ◌unless◌, ◌>>◌}
use Rattle.records_spec.specs.declared.refusal.Refusal.TheVariants.{Overflow, IndexMismatch}
use Rattle.totals_spec.specs.Table.{total_at, add_counts, take_counts}
use Rattle.totals_spec.specs.Recount.{named}

-- 2⁶⁴ − 1
abbrev pub largest_total : ℕ
largest_total = 18446744073709551615

-- no total is less than the old flags' count
unfoldable pub covered : List Row → List Row → Bool
covered [] t = true
covered (o ∷ os) t = leb o.part.bytes (total_at o t) && covered os t

-- no total less the old count plus the new passes 64 bits
unfoldable pub all_fit : List Row → List Row → List Row → Bool
all_fit os [] t = true
all_fit os (n ∷ ns) t = leb (total_at n t - total_at n os + n.part.bytes) largest_total && all_fit os ns t

-- the table afterwards
abbrev pub replaced_rows : List Row → List Row → List Row → List Row
replaced_rows os ns t = add_counts ns (take_counts os t)

-- the same, where the old counts are held and the new ones fit
abbrev pub changed : List Row → List Row → List Row → Answer (List Row)
changed os ns t = do
  IndexMismatch unless covered os t
  Overflow unless all_fit os ns t
  ok (replaced_rows os ns t)

-- one element's old flags replaced by new ones, either of which may be absent
abbrev pub replaced : Option Flags → Option Flags → List Row → Answer (List Row)
replaced old new t = changed (named old) (named new) t
