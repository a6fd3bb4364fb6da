-- What the code finds: what stands at an epoch, a section at fault, and what stays of a record.
-- Assumes nothing.
use Rattle.std.specs.Prelude.{ℕ, cond, List, [], ◌∷◌, Option, Some, None, Result, Ok, Err}
use Rattle.records_spec.specs.Refusals.{number}
use Rattle.records_spec.specs.Outcomes.{Answer, ok, refused}
use Rattle.records_spec.specs.Tables.{At, ◌⦂◌, has, held}
use Rattle.records_spec.specs.declared.refusal.Refusal.{Refusal}

-- the count of the record at an epoch, or none
abbrev pub standing_at : ℕ → List At → Option ℕ
standing_at e rs = cond (has e rs) (Some (held e rs)) None

-- no fault, or a refusal, as the code told it
abbrev pub faulted : Result (Unit {0}) Refusal → Answer (Unit {0})
faulted (Ok done) = ok tt
faulted (Err r) = refused (number r)

-- what stays of a record at an epoch, as the code told it
abbrev pub rested : ℕ → Option ℕ → List At
rested e None = []
rested e (Some n) = e ⦂ n ∷ []
