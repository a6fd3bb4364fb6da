-- What the functions inside the crate promise.
-- Assumes nothing.
use Rattle.std.specs.Prelude.{ℕ, Bool, cond, length}
use Rattle.std.specs.Prelude.{Option}
use Rattle.records_spec.specs.Flags.{Flags}
use Rattle.rows_spec.specs.Rows.{Tables}
use Rattle.totals_spec.specs.Calls.{RowsAfter, replacing}
use Rattle.records_spec.specs.Outcomes.{refused, Answer, ok, refusing}
use Rattle.totals_index_spec.specs.Inner.Judging.{fitted, refusal_for}
use Rattle.totals_index_spec.specs.declared.judging.Judging.{Judging}

-- how many rows an answer tells of; none where it is a refusal
abbrev pub rows_told : Answer ℕ → ℕ
rows_told (ok k) = k
rows_told (refused n) = 0

-- `fitted` by the columns of the work area
abbrev pub fitted_in : Judging → ℕ → Tables → Bool
fitted_in j size w = fitted j size (length w.ids) (length w.epochs) (length w.bytes)

-- `totals::replace` in the work area where a change is accepted and has room, else its refusal
abbrev pub replacing_in : ℕ → Judging → Tables → Bool → Option Flags → Option Flags → RowsAfter
replacing_in size j w good old new = cond (fitted_in j size w) (replacing j.rows w good old new) (refusing (refusal_for j) w)
