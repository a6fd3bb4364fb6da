-- What the premises of demand 3 shut out, as one table: histories that break one premise each, and what they end in. Without the premise the
-- demand would be false. By computation.
-- Assumes nothing.
use mathlib.Core.Path.{◌≡◌, refl}
use Rattle.std.specs.Prelude.{None}
use mathlib.Core.List.{List, [], ◌∷◌, map}
use Rattle.records_spec.specs.Tables.{At, ◌⦂◌, records_of, epochs_of, counts_of, ascending, has, held, put, union}
use Rattle.records_spec.specs.Flags.{flags, zeros, same, proper}
use Rattle.flags_spec.specs.Merging.{added}
use Rattle.flags_spec.specs.Calls.{combined_added}
use Rattle.rows_spec.specs.Order.{order}
use Rattle.rows_spec.specs.Rows.{ascends, ids_of, parts_of, rows_under, tables, rows_of, proper_rows}
use Rattle.splitting_spec.specs.Sections.{spare, section, sections, split}
use Rattle.splitting_spec.specs.Calls.{split_value}
use Rattle.removal_spec.specs.Removing.{all_under, all_fine, minus, removed}
use Rattle.removal_spec.specs.Calls.{combined_removed}
use Rattle.records_spec.specs.Outcomes.{leaving}
use Rattle.steps.specs.History.{Edit, Step, add, remove, state, step, run}
use Rattle.steps.specs.Marked.{Reply, some_flags, refusal, unowned, edit, told_of_step}

-- records of unowned flags above base 5, steps, and what the run tells
abbrev Example : Type 0
Example = List At × List Step × Reply

-- an edit with room for two rows
abbrev narrow : Edit → Edit
narrow x =
    record {
      incoming = x.incoming;
      strategy = x.strategy;
      amount = x.amount;
      out = x.out;
      row_tables = tables (zeros ∷ zeros ∷ []) (0 ∷ 0 ∷ []) (0 ∷ 0 ∷ []);
    }

pub examples : List Example
examples =
    -- a latest record of 3 bytes: 1 added and 1 removed drop it, a removal of 0 does not
    (9 ⦂ 3 ∷ [], add (edit 9 1) ∷ remove (edit 9 1) ∷ [], some_flags (flags 5 None []))
    ∷ (9 ⦂ 3 ∷ [], remove (edit 9 0) ∷ [], some_flags (flags 5 None (9 ⦂ 3 ∷ [])))
    -- more removed than added so far: 1 removed drops the record of 4, and 1 added makes one of 1
    ∷ (9 ⦂ 4 ∷ [], remove (edit 9 1) ∷ add (edit 9 1) ∷ [], some_flags (flags 5 None (9 ⦂ 1 ∷ [])))
    ∷ (9 ⦂ 4 ∷ [], remove (edit 9 0) ∷ [], some_flags (flags 5 None (9 ⦂ 4 ∷ [])))
    -- a count past the limit
    ∷ (9 ⦂ 4294967295 ∷ [], add (edit 9 1) ∷ [], refusal 6)
    -- rows for no more than the records
    ∷ (7 ⦂ 10 ∷ 9 ⦂ 5 ∷ [], remove (narrow (edit 9 20)) ∷ [], refusal 10)
    ∷ []

pub needed : map (λ (x : Example). told_of_step (run (state (unowned 5 x.0) []) x.1)) examples ≡ map (λ (x : Example). x.2) examples
unfolding examples run step records_of epochs_of counts_of ascending has held put union same proper leaving added combined_added order ascends ids_of
    parts_of rows_under rows_of proper_rows spare section sections split split_value all_under all_fine minus removed combined_removed
needed = refl
