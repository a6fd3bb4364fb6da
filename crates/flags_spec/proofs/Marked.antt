-- P13 of document 01, as one table under one statement: {7:300} with an amount at an incoming base, and what the call answers and leaves of
-- lent tables with more room than needed, with exact room, and with one record less. By computation.
-- Assumes nothing.
use Prim.Native.Nat.{ℕ}
use mathlib.Core.Path.{◌≡◌, refl}
use Rattle.std.specs.Prelude.{None}
use mathlib.Core.List.{List, [], ◌∷◌, map}
use Rattle.records_spec.specs.Tables.{◌⦂◌, records_of, epochs_of, counts_of, ascending, held, put, union}
use Rattle.records_spec.specs.Flags.{flags, head_for, proper, lending, holding, Lent}
use Rattle.records_spec.specs.Answers.{FlagsAfter}
use Rattle.records_spec.proofs.Expected.{refuses, gives}
use Rattle.records_spec.specs.Outcomes.{leaving}
use Rattle.flags_spec.specs.Merging.{added}
use Rattle.flags_spec.specs.Calls.{combined_added}
use Rattle.flags_spec.specs.declared.owners.MergingOwnersStrategy.TheVariants.{RaiseIssue}

-- an incoming base, an amount, two lent tables, and what is left
pub record Example : Type 0 where
  pub base : ℕ
  pub amount : ℕ
  pub out : Lent
  pub left : FlagsAfter

-- what the call leaves
abbrev combined : Example → FlagsAfter
combined e =
    combined_added (holding (head_for 5 None 1) (7 ∷ []) (300 ∷ [])) (holding (head_for e.base None 0) [] []) e.amount RaiseIssue e.out

-- an example by its parts, with flags or a refusal as the answer
abbrev example : ℕ → ℕ → List ℕ → List ℕ → (Lent → FlagsAfter) → Example
example base amount es cs expected = record { base = base; amount = amount; out = lending es cs; left = expected (lending es cs) }

pub examples : List Example
examples =
    example 7 50 (1 ∷ 2 ∷ []) (3 ∷ 4 ∷ []) (gives (flags 5 None (7 ⦂ 350 ∷ [])))
    ∷ example 7 50 (1 ∷ []) (3 ∷ []) (gives (flags 5 None (7 ⦂ 350 ∷ [])))
    ∷ example 7 50 (1 ∷ []) [] (refuses 10)
    ∷ example 8 0 (1 ∷ 2 ∷ 3 ∷ []) (4 ∷ 5 ∷ 6 ∷ []) (gives (flags 5 None (7 ⦂ 300 ∷ 8 ⦂ 0 ∷ [])))
    ∷ example 8 0 (1 ∷ 2 ∷ []) (4 ∷ 5 ∷ []) (gives (flags 5 None (7 ⦂ 300 ∷ 8 ⦂ 0 ∷ [])))
    ∷ example 8 0 (1 ∷ []) (4 ∷ 5 ∷ []) (refuses 10)
    ∷ example 7 4294966995 (1 ∷ []) (3 ∷ []) (gives (flags 5 None (7 ⦂ 4294967295 ∷ [])))
    ∷ example 7 4294966996 (1 ∷ []) (3 ∷ []) (refuses 6)
    ∷ example 4 0 (1 ∷ []) (3 ∷ []) (refuses 4)
    ∷ []

pub marked : map combined examples ≡ map (λ (e : Example). e.left) examples
unfolding examples combined_added added proper leaving records_of epochs_of counts_of ascending held put union
marked = refl
