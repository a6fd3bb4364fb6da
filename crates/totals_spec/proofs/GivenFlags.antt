-- Flags that may be absent, as a call is given them: what they name stands in the first places of their tables, none where they are absent. And
-- what a call is on proper flags and a proper table.
-- Assumes nothing.
use mathlib.Core.Path.{◌≡◌, refl, sym}
use mathlib.Core.Bool.{Bool, true, false, ◌&&◌, and-false, and-eq-true_iff}
use Rattle.std.specs.Prelude.{Option}
use mathlib.Core.List.{List}
use Prim.Native.Nat.{ℕ, ◌≤◌}
use native.Mathlib.Omega.{arith}
use lib.ListN.{length, take}
use lib.Seq.{length-take-le}
use Rattle.records_spec.specs.Tables.{records_of, rising}
use Rattle.records_spec.specs.Inner.Tables.{Table}
use Rattle.records_spec.specs.Flags.{Flags, holding}
use Rattle.records_spec.specs.Outcomes.{refusing, leaving}
use Rattle.records_spec.specs.declared.refusal.Refusal.TheVariants.{BadTable}
use Rattle.records_spec.specs.declared.head.Head.{Head}
use Rattle.records_spec.proofs.Proper.{proper_inv, proper_table_lem}
use Rattle.rows_spec.specs.Rows.{Tables, rows_in, proper_rows, rows_under}
use Rattle.rows_spec.proofs.Rows.{proper_rows_lem}
use Rattle.totals_spec.specs.Table.{all_positive}
use Rattle.totals_spec.specs.Recount.{named}
use Rattle.totals_spec.specs.Replacing.{changed}
use Rattle.totals_spec.specs.Calls.{proper_table, given, proper_given, replacing}
use Rattle.totals_spec.specs.Inner.Steps.{placing_rows, under, named_by, Standing}
use Rattle.totals_spec.specs.declared.replacing.Named.{Named}

-- what is named stands in the first places of two tables
module _ (h : Head) (es cs : List ℕ) where
  names : (here : Bool) → named (given here (holding h es cs))
      ≡ under (named_by here h).owner (take (named_by here h).records es) (take (named_by here h).records cs)
  unfolding rows_under records_of
  names true = refl
  names false = refl

  cut_rises : (here : Bool) → proper_given here (holding h es cs) ≡ true
      → Table (take (named_by here h).records es) (take (named_by here h).records cs)
  unfolding rising
  cut_rises true p = proper_table_lem (proper_inv h es cs p)
  cut_rises false p = record { even = refl; rises = refl }

  long : (here : Bool) → proper_given here (holding h es cs) ≡ true → ((named_by here h).records ≤ length es) × ((named_by here h).records ≤ length cs)
  long true p = let q = proper_inv h es cs p in (q.epochs_long, q.counts_long)
  long false p = (omega arith, omega arith)

  -- the same where the code found what is named
  module _ (here : Bool) (r : Named) (e : r ≡ named_by here h) where
    pub given_names : named (given here (holding h es cs)) ≡ under r.owner (take r.records es) (take r.records cs)
    given_names = rw e (names here)

    module _ (p : proper_given here (holding h es cs) ≡ true) where
      pub given_table : Table (take r.records es) (take r.records cs)
      given_table = rw e (cut_rises here p)

      pub given_even : (r.records ≡ length (take r.records es)) × (r.records ≡ length (take r.records cs))
      given_even =
          let l = long here p in
          rw e (sym (length-take-le (named_by here h).records es l.0), sym (length-take-le (named_by here h).records cs l.1))

-- ---- the call

pub table_standing : (n : ℕ) (t : Tables) → proper_table n t ≡ true → Standing 0 n t
unfolding proper_table
table_standing n t h =
    let p = (and-eq-true_iff (proper_rows n t) (all_positive (rows_in n t))).0 h in
    let q = proper_rows_lem n t p.0 in
    record { within = omega arith; room = q.room; rises = q.rises; full = p.1 }

module _ (n : ℕ) (t : Tables) (old new : Option Flags) where
  pub replacing_proper : proper_table n t ≡ true → (a b : Bool) → a ≡ true → b ≡ true
      → placing_rows (changed (named old) (named new) (rows_in n t)) t ≡ replacing n t (a && b) old new
  unfolding replacing placing_rows
  replacing_proper p a b q r = rw (p, q, r)

  pub table_bad : (good : Bool) → proper_table n t ≡ false → refusing BadTable t ≡ replacing n t good old new
  unfolding replacing leaving
  table_bad good p = rw p

  pub old_bad : (a b : Bool) → a ≡ false → refusing BadTable t ≡ replacing n t (a && b) old new
  unfolding replacing leaving
  old_bad a b q = rw (q, and-false (proper_table n t))

  pub new_bad : (a b : Bool) → b ≡ false → refusing BadTable t ≡ replacing n t (a && b) old new
  unfolding replacing leaving
  new_bad a b r = rw (r, and-false a, and-false (proper_table n t))
