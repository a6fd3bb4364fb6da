-- The merges of P10, P11 and P12 of document 01, its boundaries, and a merge for each refusal and each case of the paper, as one table under
-- one statement: what the call answers and leaves of lent tables with more room than needed, with exact room, and with one record less.
-- By computation.
-- Assumes nothing.
use Prim.Native.Nat.{ℕ}
use mathlib.Core.Path.{◌≡◌, refl}
use Rattle.std.specs.Prelude.{None, Some}
use mathlib.Core.List.{List, [], ◌∷◌, map}
use lib.ListN.{replicate}
use Rattle.records_spec.specs.Tables.{At, ◌⦂◌, records_of, epochs_of, counts_of, ascending, has, held, put, union}
use Rattle.records_spec.specs.Flags.{Flags, flags, zeros, same, head_of, proper, lending, holding, Held, Lent}
use Rattle.records_spec.specs.Answers.{FlagsAfter}
use Rattle.records_spec.proofs.Expected.{refuses, gives}
use Rattle.records_spec.specs.Outcomes.{leaving}
use Rattle.flags_spec.specs.declared.owners.MergingOwnersStrategy.{MergingOwnersStrategy}
use Rattle.flags_spec.specs.declared.owners.MergingOwnersStrategy.TheVariants.{RaiseIssue, UseOurs, UseTheirs}
use Rattle.rows_spec.specs.Order.{order}
use Rattle.rows_spec.specs.Rows.{Row, row, ascends, ids_of, parts_of, rows_under, Tables, tables, rows_of, proper_rows}
use Rattle.rows_spec.specs.Removals.{Removal, nothing, basic, sectioned, rows_of_removal, state_of, holding_rows}
use Rattle.splitting_spec.specs.Sections.{spare, section, sections, split}
use Rattle.splitting_spec.specs.Calls.{value_removal}
use Rattle.removal_spec.specs.Removing.{all_under, all_fine, minus, removed}
use Rattle.removal_spec.specs.Calls.{combined_removed}

-- both flags, the removal, the strategy, two lent tables, and what is left
pub record Example : Type 0 where
  pub ours : Flags
  pub theirs : Flags
  pub removal : Removal
  pub strategy : MergingOwnersStrategy
  pub out : Lent
  pub left : FlagsAfter

-- the tables that hold a removal's rows
abbrev lent : List Row → Tables
lent rs = tables (ids_of rs) (epochs_of (parts_of rs)) (counts_of (parts_of rs))

-- flags in tables of their own
abbrev alone : Flags → Held
alone f = holding (head_of f) (epochs_of f.records) (counts_of f.records)

-- what the call leaves
abbrev combined : Example → FlagsAfter
combined e =
    combined_removed (alone e.ours) (alone e.theirs) (holding_rows (state_of e.removal) (lent (rows_of_removal e.removal))) e.strategy
    e.out

-- an example by its parts, with flags or a refusal as the answer
abbrev example : Flags → Flags → Removal → MergingOwnersStrategy → List ℕ → List ℕ → (Lent → FlagsAfter) → Example
example ours theirs x s es cs expected =
    record { ours = ours; theirs = theirs; removal = x; strategy = s; out = lending es cs; left = expected (lending es cs) }

-- two owners
abbrev a : List ℕ
a = replicate 32 1

abbrev b : List ℕ
b = replicate 32 2

-- unowned records above base 5, incoming kind 0 at 9, and the removal that the split of some bytes makes; room for two records
abbrev own : List At → ℕ → (Lent → FlagsAfter) → Example
own rs n answer =
    example (flags 5 None rs) (flags 9 None []) (value_removal (flags 5 None rs) n) RaiseIssue (1 ∷ 2 ∷ []) (3 ∷ 4 ∷ []) answer

-- unowned {7:10} above base 5, incoming kind 0 at 9, and a removal; room for one record
abbrev ten : Removal → (Lent → FlagsAfter) → Example
ten x answer = example (flags 5 None (7 ⦂ 10 ∷ [])) (flags 9 None []) x RaiseIssue (1 ∷ []) (3 ∷ []) answer

pub examples : List Example
examples =
    -- P10, P11, P12, and the boundaries
    own (7 ⦂ 10 ∷ 9 ⦂ 5 ∷ []) 6 (gives (flags 5 None (7 ⦂ 6 ∷ [])))
    ∷ own (7 ⦂ 10 ∷ 9 ⦂ 5 ∷ []) 20 (gives (flags 5 None []))
    ∷ own (7 ⦂ 10 ∷ 9 ⦂ 3 ∷ []) 1 (gives (flags 5 None (7 ⦂ 9 ∷ [])))
    ∷ own (7 ⦂ 4 ∷ []) 1 (gives (flags 5 None []))
    ∷ own (7 ⦂ 5 ∷ []) 1 (gives (flags 5 None (7 ⦂ 4 ∷ [])))
    ∷ own (7 ⦂ 10 ∷ 9 ⦂ 5 ∷ []) 0 (gives (flags 5 None (7 ⦂ 10 ∷ 9 ⦂ 5 ∷ [])))
    ∷ own (7 ⦂ 1 ∷ []) 4294967293 (gives (flags 5 None []))
    ∷ own (7 ⦂ 10 ∷ 9 ⦂ 4294967295 ∷ []) 4294967294 (gives (flags 5 None (7 ⦂ 8 ∷ [])))
    ∷ own (7 ⦂ 10 ∷ 9 ⦂ 4294967295 ∷ []) 4294967295 (gives (flags 5 None (7 ⦂ 7 ∷ [])))
    -- exact room, and one record less
    ∷ ten (sectioned (row zeros 7 2 ∷ [])) (gives (flags 5 None (7 ⦂ 8 ∷ [])))
    ∷ example (flags 5 None (7 ⦂ 10 ∷ [])) (flags 9 None []) (sectioned (row zeros 7 2 ∷ [])) RaiseIssue (1 ∷ []) [] (refuses 10)
    ∷ example (flags 5 None (7 ⦂ 10 ∷ [])) (flags 9 None []) (sectioned (row zeros 7 7 ∷ [])) RaiseIssue [] [] (gives (flags 5 None []))
    -- none and basic are not read; the base is skipped; 0 leaves more than 3 as it is
    ∷ ten nothing (gives (flags 5 None (7 ⦂ 10 ∷ [])))
    ∷ ten (basic 10) (gives (flags 5 None (7 ⦂ 10 ∷ [])))
    ∷ ten (sectioned (row zeros 5 99 ∷ row zeros 7 1 ∷ [])) (gives (flags 5 None (7 ⦂ 9 ∷ [])))
    ∷ ten (sectioned (row zeros 7 0 ∷ [])) (gives (flags 5 None (7 ⦂ 10 ∷ [])))
    -- 7, 6, and of both the first
    ∷ ten (sectioned (row zeros 8 0 ∷ [])) (refuses 7)
    ∷ ten (sectioned (row zeros 7 11 ∷ [])) (refuses 6)
    ∷ ten (sectioned (row zeros 7 11 ∷ row zeros 8 0 ∷ [])) (refuses 6)
    ∷ ten (sectioned (row zeros 6 0 ∷ row zeros 7 11 ∷ [])) (refuses 7)
    -- 5: no rows, another identifier, more than one
    ∷ ten (sectioned []) (refuses 5)
    ∷ ten (sectioned (row a 7 1 ∷ [])) (refuses 5)
    ∷ ten (sectioned (row zeros 7 1 ∷ row a 7 1 ∷ [])) (refuses 5)
    -- the incoming count stands
    ∷ example (flags 5 None (7 ⦂ 10 ∷ 10 ⦂ 20 ∷ [])) (flags 9 None (10 ⦂ 8 ∷ [])) (sectioned (row zeros 10 2 ∷ [])) RaiseIssue (1 ∷ 2 ∷ [])
    (3 ∷ 4 ∷ [])
    (gives (flags 5 None (7 ⦂ 10 ∷ 10 ⦂ 6 ∷ [])))
    ∷ example (flags 5 None (7 ⦂ 10 ∷ 10 ⦂ 20 ∷ [])) (flags 9 None (10 ⦂ 8 ∷ [])) (sectioned (row zeros 10 9 ∷ [])) RaiseIssue (1 ∷ 2 ∷ [])
    (3 ∷ 4 ∷ []) (refuses 6)
    -- owners that differ: 5; ours finds the sections, the merged one is the answer's; not looked at where ours has no records
    ∷ example (flags 5 (Some a) (7 ⦂ 10 ∷ [])) (flags 9 (Some b) []) (sectioned (row a 7 1 ∷ [])) RaiseIssue (1 ∷ []) (3 ∷ []) (refuses 5)
    ∷ example (flags 5 (Some a) (7 ⦂ 10 ∷ [])) (flags 9 (Some b) []) (sectioned (row a 7 1 ∷ [])) UseOurs (1 ∷ []) (3 ∷ [])
    (gives (flags 5 (Some a) (7 ⦂ 9 ∷ [])))
    ∷ example (flags 5 (Some a) (7 ⦂ 10 ∷ [])) (flags 9 (Some b) []) (sectioned (row a 7 1 ∷ [])) UseTheirs (1 ∷ []) (3 ∷ [])
    (gives (flags 5 (Some b) (7 ⦂ 9 ∷ [])))
    ∷ example (flags 5 (Some a) (7 ⦂ 10 ∷ [])) (flags 9 (Some b) []) (sectioned (row b 7 1 ∷ [])) UseTheirs (1 ∷ []) (3 ∷ []) (refuses 5)
    ∷ example (flags 5 (Some a) []) (flags 9 (Some b) (10 ⦂ 8 ∷ [])) (sectioned (row b 7 1 ∷ [])) RaiseIssue (1 ∷ []) (3 ∷ [])
    (gives (flags 5 (Some a) []))
    -- equal bases: the removal is not read, but tested
    ∷ example (flags 5 None (7 ⦂ 10 ∷ [])) (flags 5 None (8 ⦂ 2 ∷ [])) (sectioned (row a 7 11 ∷ [])) RaiseIssue (1 ∷ 2 ∷ []) (3 ∷ 4 ∷ [])
    (gives (flags 5 None (7 ⦂ 10 ∷ 8 ⦂ 2 ∷ [])))
    ∷ example (flags 5 (Some a) []) (flags 5 (Some b) []) nothing RaiseIssue [] [] (refuses 5)
    ∷ example (flags 5 None (7 ⦂ 10 ∷ [])) (flags 5 None []) (sectioned (row zeros 7 1 ∷ row zeros 7 1 ∷ [])) RaiseIssue (1 ∷ []) (3 ∷ [])
    (refuses 11)
    -- incoming base below ours, before owners are looked at
    ∷ example (flags 5 (Some a) (7 ⦂ 10 ∷ [])) (flags 4 (Some b) []) nothing RaiseIssue (1 ∷ []) (3 ∷ []) (refuses 4)
    ∷ []

pub marked : map combined examples ≡ map (λ (e : Example). e.left) examples
unfolding examples combined_removed removed all_under all_fine minus proper_rows ascends order rows_of ids_of parts_of rows_under split
    sections section spare same proper leaving records_of epochs_of counts_of ascending has held put union
marked = refl
