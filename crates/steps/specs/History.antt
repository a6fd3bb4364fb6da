-- Editing in small steps: histories of additions and removals, each step made of the calls' own definitions. Document 00, demand 3.
-- Assumes nothing.
use Rattle.std.specs.Prelude.{ℕ, ◌+◌, cond, ◌&&◌, List, [], ◌∷◌, ◌++◌, eqb}
use Rattle.records_spec.specs.Flags.{same, Held, Lent}
use Rattle.records_spec.specs.Answers.{FlagsAfter}
use Rattle.records_spec.specs.Outcomes.{Answer, ok, ◌>>=◌}
use Rattle.flags_spec.specs.Calls.{combined_added}
use Rattle.removal_spec.specs.Calls.{combined_removed}
use Rattle.flags_spec.specs.declared.owners.MergingOwnersStrategy.{MergingOwnersStrategy}
use Rattle.rows_spec.specs.Rows.{Row, Tables}
use Rattle.rows_spec.specs.Removals.{removal_in, rows_of_removal, holding_rows}
use Rattle.splitting_spec.specs.Calls.{Told, split_value}

-- ---- steps

-- what an edit brings: incoming flags, how owners are merged, the bytes added or removed, and lent tables for the flags and for the rows
pub record Edit : Type 0 where
  pub incoming : Held
  pub strategy : MergingOwnersStrategy
  pub amount : ℕ
  pub out : Lent
  pub row_tables : Tables

-- an addition, or a removal
pub data Step : Type 0 where
  add remove : Edit → Step

-- the flags, and the rows of all removals so far
pub record State : Type 0 where
  pub flags : Held
  pub rows : List Row

-- a state of these two
abbrev pub state : Held → List Row → State
state f rows = record { flags = f; rows = rows }

-- the flags that a merge left, beside these rows; or its refusal. A merge always answers flags where it is not refused
abbrev pub left_by : FlagsAfter → List Row → Answer State
left_by a rows = do
  present ← a.answer
  ok (state a.lent rows)

-- an addition is an adding merge
abbrev pub addition : State → Edit → Answer State
addition st x = left_by (combined_added st.flags x.incoming x.amount x.strategy x.out) st.rows

-- the merge of what a value split left; its rows come to those of the earlier removals
abbrev pub split_merged : State → Edit → Told → Tables → Answer State
split_merged st x u t =
    left_by (combined_removed st.flags x.incoming (holding_rows u.removal t) x.strategy x.out)
    (st.rows ++ rows_of_removal (removal_in u.removal t))

-- a removal is a value split, then its merge
abbrev pub removal : State → Edit → Answer State
removal st x =
    let a = split_value st.flags x.amount x.row_tables in
    do
      u ← a.answer
      split_merged st x u a.lent

-- a step
unfoldable pub step : State → Step → Answer State
step st (add x) = addition st x
step st (remove x) = removal st x

-- steps one after another; the first refusal ends them
unfoldable pub run : State → List Step → Answer State
run st [] = ok st
run st (x ∷ xs) = do
  then ← step st x
  run then xs

-- ---- what was added, removed and refunded

-- all that was added
unfoldable pub all_added : List Step → ℕ
all_added [] = 0
all_added (add x ∷ xs) = x.amount + all_added xs
all_added (remove x ∷ xs) = all_added xs

-- all that was removed
unfoldable pub all_removed : List Step → ℕ
all_removed [] = 0
all_removed (add x ∷ xs) = all_removed xs
all_removed (remove x ∷ xs) = x.amount + all_removed xs

-- what the rows of some removals come to at an identifier and an epoch
unfoldable pub refund_at : List ℕ → ℕ → List Row → ℕ
refund_at i e [] = 0
refund_at i e (r ∷ rs) = cond (same r.identifier i && eqb r.part.epoch e) r.part.bytes 0 + refund_at i e rs
