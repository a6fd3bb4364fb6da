-- What is told of the value's answer tells it: there is a way back.
-- Assumes nothing.
use mathlib.Core.Path.{◌≡◌, refl, ap}
use Rattle.records_spec.specs.Refusals.{refusal_of}
use Rattle.records_spec.proofs.Only.{named_back}
use Rattle.records_spec.specs.Outcomes.{refused, Answer, ok}
use Rattle.splitting_spec.specs.Calls.{Told, told_split}
use Rattle.splitting_spec.specs.declared.split.ValueSplit.{ValueSplit}
use Rattle.records_spec.specs.declared.refusal.Refusal.{Refusal}
use Rattle.std.specs.Prelude.{Result, Ok, Err}

-- the answer that a state and a number, or a refusal's number, tell
abbrev pub split_as : Answer Told → Result ValueSplit Refusal
split_as (ok t) = Ok (record { removal = record { removed = t.removal }; visited = t.visited })
split_as (refused n) = Err (refusal_of n)

pub split_back : (s : Result ValueSplit Refusal) → split_as (told_split s) ≡ s
split_back (Ok s) = refl
split_back (Err r) = ap Err (named_back r)
