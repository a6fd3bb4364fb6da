-- The length of a run of records. Assumes nothing.
use Rattle.std.proofs.Common.{◌≡◌, ℕ, ◌-◌, ◌≤◌, List, length, ◌∙◌}
use Rattle.std.proofs.lemmas.List.{length-drop}
use Rattle.records_spec.specs.Tables.{records_of}
use Rattle.records_spec.specs.Inner.Runs.{stretch}
use Rattle.records_spec.proofs.Tables.{first_long}

pub run_long : (es cs : List ℕ) (i n : ℕ) → n ≤ length es → n ≤ length cs → length (stretch i n (records_of es cs)) ≡ n - i
run_long es cs i n p q = length-drop i _ ∙ rw (first_long es cs n p q)
