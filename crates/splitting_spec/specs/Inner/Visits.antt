-- What the visit of the records answers.
-- Assumes nothing.
use Rattle.std.specs.Prelude.{ℕ, zero, suc, List, length}
use Rattle.records_spec.specs.Tables.{At}
use Rattle.splitting_spec.specs.Sections.{asked, sections}
use Rattle.splitting_spec.specs.declared.giving.Visited.{Visited}

-- how many records have a section of n bytes, and what the base is asked
abbrev pub visits : List At → ℕ → Visited
visits rs n = record { records = length (sections rs n); left = asked n rs }

-- one row where there are bytes
abbrev pub rows_at_base : ℕ → ℕ
rows_at_base zero = 0
rows_at_base (suc n) = 1
