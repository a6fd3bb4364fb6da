-- What is told of a removal that a call gives tells it: there is a way back.
-- Assumes nothing.
use mathlib.Core.Path.{◌≡◌, refl, ap}
use Rattle.std.specs.Prelude.{Result, Ok, Err}
use Rattle.records_spec.specs.Refusals.{refusal_of}
use Rattle.records_spec.proofs.Only.{named_back}
use Rattle.records_spec.specs.Outcomes.{refused, Answer, ok}
use Rattle.rows_spec.specs.Calls.{told_removal}
use Rattle.rows_spec.specs.declared.removed.Removed.{Removed}
use Rattle.rows_spec.specs.declared.removed.StorageRemovedBytes.{StorageRemovedBytes}
use Rattle.records_spec.specs.declared.refusal.Refusal.{Refusal}

-- the answer that a state or a refusal's number tells
abbrev pub removal_as : Answer Removed → Result StorageRemovedBytes Refusal
removal_as (ok s) = Ok (record { removed = s })
removal_as (refused n) = Err (refusal_of n)

pub removal_back : (a : Result StorageRemovedBytes Refusal) → removal_as (told_removal a) ≡ a
removal_back (Ok s) = refl
removal_back (Err r) = ap Err (named_back r)
