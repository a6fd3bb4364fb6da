-- Of proper flags the rows are counted as the split has them; then they are placed, or have no room. Assumes nothing.
use Rattle.std.proofs.Common.{◌≡◌, ℕ, zero, suc, ◌+◌, List, length, take, refl, sym, ap, ◌∙◌, arith, lt-ltb, nat_lt}
use Rattle.std.specs.Int.{from_bool}
use Rattle.std.proofs.lemmas.List.{length-take}
use Rattle.records_spec.specs.Tables.{At, records_of}
use Rattle.records_spec.specs.Flags.{id_of, owner_of}
use Rattle.records_spec.proofs.Proper.{IsProper, proper_inv, proper_above, proper_long}
use Rattle.splitting_spec.specs.Sections.{sections, split}
use Rattle.splitting_spec.specs.Inner.Visits.{rows_at_base}
use Rattle.splitting_spec.specs.declared.giving.Visited.{Visited}
use Rattle.splitting_spec.proofs.Counting.{sections_short, base_short}
use Rattle.splitting_spec.proofs.Calls.{rows_told_lem, value_placed, value_short, value_bad, value_proper}
use Rattle.splitting.proofs.value.split_value_removed_bytes.Goals as goal
use Rattle.splitting.proofs.value.split_value_removed_bytes.Goals.{Else-not-is_proper, After-from}

pub returns-then-not-is_proper : goal.returns-then-not-is_proper
returns-then-not-is_proper c = value_bad _ _ _ (sym c.if-not-is_proper.ensures)

good : (c : Else-not-is_proper) → IsProper c.args.flags c.args.epochs.now c.args.counts.now
good c = proper_inv c.args.flags c.args.epochs.now c.args.counts.now (sym c.if-not-is_proper.ensures)

pub slice_bounds-epochs-end : goal.slice_bounds-epochs-end
slice_bounds-epochs-end c =
    let p = good (goal.at.slice_bounds-epochs-end c).Else-not-is_proper in
    simp length-take (omega arith)

pub slice_bounds-counts-end : goal.slice_bounds-counts-end
slice_bounds-counts-end c =
    let p = good (goal.at.slice_bounds-counts-end c).Else-not-is_proper in
    simp length-take (omega arith)

pub visit-visited-requires : goal.visit-visited-requires
visit-visited-requires c = (proper_above (good (goal.at.visit-visited-requires c).Else-not-is_proper)).even

-- the base's row, where something is left for it
base_row : (left : ℕ) → from_bool (nat_lt 0 left) ≡ rows_at_base left
base_row zero = refl
base_row (suc left) = rw (lt-ltb 0 (suc left) (omega arith))

-- the records that are given, the sections visited, and all rows
abbrev records : After-from → List At
records c = records_of (take c.args.flags.records c.args.epochs.now) (take c.args.flags.records c.args.counts.now)

visited : (c : After-from) → c.visit-visited.result.records ≡ length (sections (records c) c.args.removed_value_bytes)
visited c = ap (λ (v : Visited). v.records) c.visit-visited.ensures

rows : (c : After-from) → c.visit-visited.result.records + c.from.result ≡ length (split c.args.flags.base (records c) c.args.removed_value_bytes)
rows c = rows_told_lem _ _ _ _ c.visit-visited.result c.visit-visited.ensures (c.from.ensures ∙ base_row c.visit-visited.result.left)

pub overflow_add-rows : goal.overflow_add-rows
overflow_add-rows c =
    let d = (goal.at.overflow_add-rows c).After-from in
    let p = good (goal.at.overflow_add-rows c).Else-not-is_proper in
    omega (
      arith,
      visited d,
      sections_short (records d) c.args.removed_value_bytes,
      proper_long p,
      c.from.ensures ∙ base_row c.visit-visited.result.left,
      base_short c.visit-visited.result.left,
    )

pub returns-then-not-rows_fit : goal.returns-then-not-rows_fit
returns-then-not-rows_fit c =
    let d = (goal.at.returns-then-not-rows_fit c).After-from in
    value_short _ c.args.flags.base (records d) _ _ _ _ (rows d) (visited d) (sym c.if-not-rows_fit.ensures)
    ∙ value_proper _ _ _ (id_of (owner_of c.args.flags)) refl (sym c.if-not-is_proper.ensures)

pub sectioned_storage_removal-removal-requires-clause-epochs_len :
    goal.sectioned_storage_removal-removal-requires-clause-epochs_len
sectioned_storage_removal-removal-requires-clause-epochs_len c =
    (proper_above (good (goal.at.sectioned_storage_removal-removal-requires-clause-epochs_len c).Else-not-is_proper)).even

pub sectioned_storage_removal-removal-requires-clause-rows_value :
    goal.sectioned_storage_removal-removal-requires-clause-rows_value
sectioned_storage_removal-removal-requires-clause-rows_value c =
    rows (goal.at.sectioned_storage_removal-removal-requires-clause-rows_value c).After-from

pub returns : goal.returns
returns c =
    let d = (goal.at.returns c).After-from in
    let id = c.id_of.result in
    value_placed id c.args.flags.base (records d) _ _ _ _ (rows d) (visited d) (sym c.if-not-rows_fit.ensures)
    c.sectioned_storage_removal-removal.ensures
    ∙ value_proper _ _ _ id c.id_of.ensures (sym c.if-not-is_proper.ensures)
