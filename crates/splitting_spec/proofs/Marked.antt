-- Examples of the two calls as a table for each, document 01's and its boundaries in the value's: flags at base 5, bytes, and what the call answers
-- and leaves of lent tables. By computation.
-- Assumes nothing.
use Prim.Native.Nat.{ℕ}
use mathlib.Core.Path.{◌≡◌, refl}
use Rattle.std.specs.Prelude.{Option, None, Some}
use mathlib.Core.List.{List, [], ◌∷◌, map}
use lib.ListN.{length, replicate}
use Rattle.records_spec.specs.Tables.{At, ◌⦂◌, records_of, epochs_of, counts_of, ascending}
use Rattle.records_spec.specs.Flags.{id_of, head_for, proper, Held, holding}
use Rattle.rows_spec.specs.Calls.{RemovalAfter}
use Rattle.records_spec.specs.Outcomes.{kept, ok, leaving, after}
use Rattle.rows_spec.specs.Rows.{Tables, tables, ids_of, parts_of, rows_under, over_rows}
use Rattle.rows_spec.specs.declared.removed.Removed.{Removed}
use Rattle.rows_spec.specs.declared.removed.Removed.TheVariants.{None as NoneRemoved, Sectioned}
use Rattle.splitting_spec.specs.Sections.{spare, section, sections, split, from_latest}
use Rattle.splitting_spec.specs.Calls.{SplitAfter, split_key, split_value}

-- an owner or none, records, bytes, lent tables, and what is left
pub record Example (Left : Type 0) : Type 0 where
  pub owner : Option (List ℕ)
  pub records : List At
  pub amount : ℕ
  pub lent : Tables
  pub left : Left

-- what a call leaves
abbrev made : {Left : Type 0} → (Held → ℕ → Tables → Left) → Example Left → Left
made call e = call (holding (head_for 5 e.owner (length e.records)) (epochs_of e.records) (counts_of e.records)) e.amount e.lent

-- an example by its parts
abbrev example : {Left : Type 0} → Option (List ℕ) → List At → ℕ → Tables → (Tables → Left) → Example Left
example o rs n t left = record { owner = o; records = rs; amount = n; lent = t; left = left t }

-- n places
abbrev lent : ℕ → Tables
lent n = tables (replicate n (1 ∷ 2 ∷ [])) (replicate n 3) (replicate n 4)

-- no removal for no sections, else their rows
abbrev state : List At → Removed
state [] = NoneRemoved
state (s ∷ ss) = Sectioned (length (s ∷ ss))

-- the answer of the key's call: sections
abbrev sections_told : Option (List ℕ) → List At → Tables → RemovalAfter
sections_told o ss t = after (ok (state ss)) (over_rows (rows_under (id_of o) ss) t)

-- the answer of the value's call: sections, and the number visited
abbrev sections_visited : Option (List ℕ) → List At → ℕ → Tables → SplitAfter
sections_visited o ss v t = after (ok (record { removal = state ss; visited = v })) (over_rows (rows_under (id_of o) ss) t)

-- an owner
abbrev someone : Option (List ℕ)
someone = Some (replicate 32 7)

pub key_examples : List (Example RemovalAfter)
key_examples =
    example None (7 ⦂ 10 ∷ 9 ⦂ 5 ∷ []) 8 (lent 2) (sections_told None (5 ⦂ 8 ∷ []))
    ∷ example None (7 ⦂ 10 ∷ 9 ⦂ 5 ∷ []) 0 (lent 0) (sections_told None [])
    ∷ example someone (7 ⦂ 10 ∷ []) 2 (lent 1) (sections_told someone (5 ⦂ 2 ∷ []))
    ∷ example someone [] 2 (lent 1) (sections_told someone (5 ⦂ 2 ∷ []))
    ∷ example None [] 0 (lent 0) (sections_told None [])
    ∷ example None (7 ⦂ 1 ∷ []) 4294967292 (lent 1) (sections_told None (5 ⦂ 4294967292 ∷ []))
    ∷ example None (7 ⦂ 1 ∷ []) 4294967293 (lent 1) (sections_told None (5 ⦂ 4294967293 ∷ []))
    ∷ example someone (7 ⦂ 1 ∷ []) 4294967295 (lent 1) (sections_told someone (5 ⦂ 4294967295 ∷ []))
    ∷ example None (7 ⦂ 10 ∷ 9 ⦂ 5 ∷ []) 8 (lent 0) (kept 10)
    ∷ example None (9 ⦂ 5 ∷ 7 ⦂ 10 ∷ []) 8 (lent 1) (kept 11)
    ∷ example None (9 ⦂ 5 ∷ 7 ⦂ 10 ∷ []) 0 (lent 0) (kept 11)
    ∷ []

pub value_examples : List (Example SplitAfter)
value_examples =
    example None (7 ⦂ 10 ∷ 9 ⦂ 5 ∷ []) 6 (lent 2) (sections_visited None (7 ⦂ 4 ∷ 9 ⦂ 2 ∷ []) 2)
    ∷ example None (7 ⦂ 10 ∷ 9 ⦂ 5 ∷ []) 20 (lent 4) (sections_visited None (5 ⦂ 11 ∷ 7 ⦂ 7 ∷ 9 ⦂ 2 ∷ []) 2)
    ∷ example None (7 ⦂ 10 ∷ 9 ⦂ 3 ∷ []) 1 (lent 3) (sections_visited None (7 ⦂ 1 ∷ 9 ⦂ 0 ∷ []) 2)
    ∷ example None (7 ⦂ 4 ∷ []) 1 (lent 1) (sections_visited None (7 ⦂ 1 ∷ []) 1)
    ∷ example None (7 ⦂ 5 ∷ []) 1 (lent 1) (sections_visited None (7 ⦂ 1 ∷ []) 1)
    ∷ example None (7 ⦂ 10 ∷ 9 ⦂ 5 ∷ []) 0 (lent 0) (sections_visited None [] 0)
    ∷ example None [] 6 (lent 1) (sections_visited None (5 ⦂ 6 ∷ []) 0)
    ∷ example someone (7 ⦂ 10 ∷ []) 9 (lent 2) (sections_visited someone (5 ⦂ 2 ∷ 7 ⦂ 7 ∷ []) 1)
    ∷ example someone [] 9 (lent 1) (sections_visited someone (5 ⦂ 9 ∷ []) 0)
    ∷ example None (7 ⦂ 4 ∷ []) 4294967292 (lent 2) (sections_visited None (5 ⦂ 4294967291 ∷ 7 ⦂ 1 ∷ []) 1)
    ∷ example None (7 ⦂ 1 ∷ []) 4294967293 (lent 2) (sections_visited None (5 ⦂ 4294967293 ∷ 7 ⦂ 0 ∷ []) 1)
    ∷ example None (7 ⦂ 1 ∷ []) 4294967294 (lent 2) (sections_visited None (5 ⦂ 4294967294 ∷ 7 ⦂ 0 ∷ []) 1)
    ∷ example None (7 ⦂ 1 ∷ []) 4294967295 (lent 2) (sections_visited None (5 ⦂ 4294967295 ∷ 7 ⦂ 0 ∷ []) 1)
    ∷ example someone (7 ⦂ 4 ∷ []) 4294967293 (lent 2) (sections_visited someone (5 ⦂ 4294967292 ∷ 7 ⦂ 1 ∷ []) 1)
    ∷ example None (7 ⦂ 10 ∷ 9 ⦂ 4294967295 ∷ []) 4294967294 (lent 2) (sections_visited None (7 ⦂ 2 ∷ 9 ⦂ 4294967292 ∷ []) 2)
    ∷ example None (7 ⦂ 4294967295 ∷ []) 4294967295 (lent 2) (sections_visited None (5 ⦂ 3 ∷ 7 ⦂ 4294967292 ∷ []) 1)
    ∷ example None [] 4294967293 (lent 1) (sections_visited None (5 ⦂ 4294967293 ∷ []) 0)
    ∷ example None (7 ⦂ 1 ∷ []) 4294967295 (lent 1) (kept 10)
    ∷ example None (7 ⦂ 10 ∷ 9 ⦂ 5 ∷ []) 20 (lent 2) (kept 10)
    ∷ example None (9 ⦂ 5 ∷ 7 ⦂ 10 ∷ []) 20 (lent 3) (kept 11)
    ∷ example None (9 ⦂ 5 ∷ 7 ⦂ 10 ∷ []) 0 (lent 0) (kept 11)
    ∷ []

pub key_marked : map (made split_key) key_examples ≡ map (λ (e : Example RemovalAfter). e.left) key_examples
unfolding key_examples split_key leaving proper ascending records_of epochs_of counts_of ids_of parts_of rows_under
key_marked = refl

pub value_marked : map (made split_value) value_examples ≡ map (λ (e : Example SplitAfter). e.left) value_examples
unfolding value_examples split_value leaving proper ascending records_of epochs_of counts_of spare section sections split ids_of parts_of rows_under
value_marked = refl

-- the loop of the Rust over whole numbers, at the smallest inputs where its own sum of 32 bits overflows
pub loop_marked : map (λ (x : At × ℕ). from_latest 5 (x.0 ∷ []) x.1) ((7 ⦂ 1, 4294967293) ∷ (7 ⦂ 2, 4294967294) ∷ (7 ⦂ 3, 4294967295) ∷ [])
    ≡ (7 ⦂ 0 ∷ 5 ⦂ 4294967293 ∷ []) ∷ (7 ⦂ 0 ∷ 5 ⦂ 4294967294 ∷ []) ∷ (7 ⦂ 0 ∷ 5 ⦂ 4294967295 ∷ []) ∷ []
unfolding from_latest
loop_marked = refl
