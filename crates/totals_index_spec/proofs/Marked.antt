-- The call over a table of structs by examples: each refusal in its place, also without a work area, rows that just have room, and what is left. By
-- computation.
-- Assumes nothing.
use Prim.Native.Nat.{ℕ}
use mathlib.Core.Path.{◌≡◌, refl}
use mathlib.Core.Bool.{Bool, true, false}
use Rattle.std.specs.Prelude.{Option, None, Some}
use mathlib.Core.List.{List, [], ◌∷◌, map}
use Rattle.records_spec.specs.Tables.{At, ◌⦂◌, records_of, counts_of, epochs_of}
use Rattle.records_spec.specs.Flags.{Flags}
use Rattle.rows_spec.specs.Order.{order}
use Rattle.rows_spec.specs.Rows.{ascends, ids_of, parts_of, rows_under, Tables, tables, rows_of, proper_rows}
use Rattle.totals_spec.specs.Table.{all_positive, total_at, put_total, add_counts, take_counts}
use Rattle.totals_spec.specs.Replacing.{largest_total, covered, all_fit}
use Rattle.totals_spec.specs.Calls.{proper_table}
use Rattle.records_spec.specs.Outcomes.{ok, leaving, after, kept}
use Rattle.totals_index_spec.specs.Structs.{owners_of, total_epochs_of, totals_of, structs}
use Rattle.totals_index_spec.specs.Calls.{beside, StructsAfter, verdict, placing_structs, replacing_structs}
use Rattle.totals_index_spec.specs.declared.structs.Total.{Total}

-- a struct under an owner of one byte
abbrev total : ℕ → ℕ → ℕ → Total
total o e n = record { owner = o ∷ []; epoch = e; total = n }

-- flags with base 5 under an owner of one byte
abbrev under : ℕ → List At → Option Flags
under o rs = Some (record { base = 5; owner = Some (o ∷ []); records = rs })

-- a work area without a place, and one of two
abbrev nothing : Tables
nothing = tables [] [] []

abbrev two : Tables
two = tables ((8 ∷ []) ∷ (9 ∷ []) ∷ []) (8 ∷ 9 ∷ []) (8 ∷ 9 ∷ [])

-- a number of rows, the table, the work area, whether the flags are proper, the flags, and what is left
pub record Example : Type 0 where
  pub number : ℕ
  pub table : List Total
  pub work : Tables
  pub good : Bool
  pub old : Option Flags
  pub new : Option Flags
  pub left : StructsAfter

abbrev made : Example → StructsAfter
made e = replacing_structs e.number e.table e.work e.good e.old e.new

-- a refusal leaves the table and the work area
abbrev keeping : ℕ → ℕ → List Total → Tables → Bool → Option Flags → Option Flags → Example
keeping k n ts w g old new = record { number = n; table = ts; work = w; good = g; old = old; new = new; left = kept k (beside ts w) }

-- what an accepted change leaves
abbrev giving : ℕ → List Total → Tables → StructsAfter
giving k ts w = after (ok k) (beside ts w)

abbrev one : List Total
one = total 1 7 10 ∷ []

-- one row, and a free place behind it
abbrev free : List Total
free = total 1 7 10 ∷ total 9 9 9 ∷ []

abbrev examples : List Example
examples =
    -- no rows, a table of one place, no work area, both flags absent
    record { number = 0; table = one; work = nothing; good = true; old = None; new = None; left = giving 0 one nothing }
    -- more rows than places, a total of 0, and flags that are not proper, without a work area
    ∷ keeping 11 2 one nothing true None None
    ∷ keeping 11 1 (total 1 7 0 ∷ []) nothing true None None
    ∷ keeping 11 1 one nothing false (under 1 (7 ⦂ 11 ∷ [])) None
    -- then 14, then 6, without a work area
    ∷ keeping 14 1 one nothing true (under 1 (7 ⦂ 11 ∷ [])) None
    ∷ keeping 14 1 one nothing true (under 1 (8 ⦂ 1 ∷ [])) None
    ∷ keeping 6 1 (total 1 7 largest_total ∷ []) nothing true None (under 1 (7 ⦂ 1 ∷ []))
    -- then 10: no work area, none for the rows after, and no place in the table
    ∷ keeping 10 1 one nothing true None None
    ∷ keeping 10 1 free (tables ((8 ∷ []) ∷ []) (8 ∷ []) (8 ∷ [])) true None (under 1 (8 ⦂ 1 ∷ []))
    ∷ keeping 10 1 free (tables ((8 ∷ []) ∷ (9 ∷ []) ∷ []) (8 ∷ 9 ∷ []) (8 ∷ [])) true None (under 1 (8 ⦂ 1 ∷ []))
    ∷ keeping 10 1 one two true None (under 1 (8 ⦂ 1 ∷ []))
    -- a row made where the work area just has room, a total changed, and a row lost
    ∷ record {
      number = 1;
      table = free;
      work = two;
      good = true;
      old = None;
      new = under 1 (8 ⦂ 1 ∷ []);
      left = giving 2 (total 1 7 10 ∷ total 1 8 1 ∷ []) (tables ((1 ∷ []) ∷ (1 ∷ []) ∷ []) (7 ∷ 8 ∷ []) (10 ∷ 1 ∷ []));
    }
    ∷ record {
      number = 1;
      table = free;
      work = two;
      good = true;
      old = under 1 (7 ⦂ 4 ∷ []);
      new = None;
      left = giving 1 (total 1 7 6 ∷ total 9 9 9 ∷ []) (tables ((1 ∷ []) ∷ (9 ∷ []) ∷ []) (7 ∷ 9 ∷ []) (6 ∷ 9 ∷ []));
    }
    ∷ record {
      number = 1;
      table = free;
      work = two;
      good = true;
      old = under 1 (7 ⦂ 10 ∷ []);
      new = None;
      left = giving 0 free (tables ((1 ∷ []) ∷ (9 ∷ []) ∷ []) (7 ∷ 9 ∷ []) (10 ∷ 9 ∷ []));
    }
    ∷ []

-- THE EXAMPLES HOLD
pub marked : map made examples ≡ map (λ (e : Example). e.left) examples
unfolding replacing_structs verdict placing_structs leaving proper_table proper_rows ascends all_positive order rows_of records_of owners_of total_epochs_of
    totals_of structs covered all_fit total_at put_total add_counts take_counts rows_under ids_of parts_of epochs_of counts_of
marked = refl
