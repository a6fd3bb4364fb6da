-- A removal whose rows stand at the start of tables: its state beside them stands for it, and it is proper where its rows ascend.
-- Assumes nothing.
use mathlib.Core.Path.{◌≡◌, refl, ap, ◌∙◌}
use mathlib.Core.Bool.{true}
use Rattle.rows_spec.specs.Rows.{ascends, Tables, over_rows}
use Rattle.rows_spec.specs.Removals.{Removal, nothing, basic, sectioned, removal_in, proper_in, rows_of_removal, state_of}
use Rattle.rows_spec.proofs.Columns.{over_rows_lem, rows_back}
use Rattle.rows_spec.proofs.Rows.{proper_room}

pub removal_over : (r : Removal) (t : Tables) → removal_in (state_of r) (over_rows (rows_of_removal r) t) ≡ r
removal_over nothing t = refl
removal_over (basic n) t = refl
removal_over (sectioned rs) t = ap sectioned (rows_back rs t)

pub proper_over : (r : Removal) (t : Tables) → ascends (rows_of_removal r) ≡ true → proper_in (state_of r) (over_rows (rows_of_removal r) t) ≡ true
proper_over nothing t h = refl
proper_over (basic n) t h = refl
proper_over (sectioned rs) t h = proper_room (over_rows_lem rs t) ∙ ap ascends (rows_back rs t) ∙ h
