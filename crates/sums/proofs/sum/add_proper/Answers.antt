-- `add_proper` meets its contract, by the nine cases of both states. Assumes nothing.
use Rattle.std.proofs.Common.{◌≡◌, ℕ, sym, ap, ◌∙◌}
use mathlib.Core.Path.{ap₂}
use Rattle.records_spec.specs.Outcomes.{Answer, after}
use Rattle.rows_spec.specs.Rows.{Tables, tables}
use Rattle.rows_spec.specs.Removals.{removal_in}
use Rattle.rows_spec.specs.Calls.{RemovalAfter, placing_removal}
use Rattle.rows_spec.specs.Theorems.{done}
use Rattle.rows_spec.specs.declared.removed.Removed.{Removed}
use Rattle.rows_spec.specs.declared.removed.Removed.TheVariants.{Basic}
use Rattle.rows_spec.proofs.Rows.{proper_none}
use Rattle.rows_spec.proofs.Removals.{proper_sectioned}
use Rattle.rows_spec.proofs.Outcomes.{placed_rows, placing_nothing, placing_basic, placing_stays}
use Rattle.sums_spec.specs.Sums.{sum}
use Rattle.sums_spec.proofs.Joining.{joined_nothing}
use Rattle.sums.proofs.sum.add_proper.Goals as goal

-- what the sum of two states leaves in our tables t
abbrev left : ℕ → Tables → Tables → Removed → Removed → RemovalAfter
left v t u x y = placing_removal (sum v (removal_in x t) (removal_in y u)) t

-- by what the states are
at_states : (v : ℕ) (t u : Tables) {x y p q : Removed} {r : RemovalAfter} → x ≡ p → y ≡ q → r ≡ left v t u p q → r ≡ left v t u x y
at_states v t u e f g = g ∙ sym (ap₂ (left v t u) e f)

-- an answer that is a state
told : (t : Tables) {a b : Answer Removed} → a ≡ b → after a t ≡ after b t
told t e = ap (λ (a : Answer Removed). after a t) e

pub add_rows-requires-clause-proper : goal.add_rows-requires-clause-proper
add_rows-requires-clause-proper c = proper_none _

pub add_rows-requires-clause-proper_2 : goal.add_rows-requires-clause-proper_2
add_rows-requires-clause-proper_2 c =
    let a = c.args in
    let u = tables a.rhs_ids.now a.rhs_epochs.now a.rhs_bytes.now in
    proper_sectioned a.rhs _ u c.requires.rhs_bytes_value c.in-None-Sectioned.is-1

pub add_rows_to_basic_for_version-requires : goal.add_rows_to_basic_for_version-requires
add_rows_to_basic_for_version-requires c =
    let a = c.args in
    let u = tables a.rhs_ids.now a.rhs_epochs.now a.rhs_bytes.now in
    proper_sectioned a.rhs _ u c.requires.rhs_bytes_value c.in-Basic-Sectioned.is-1

pub add_basic-requires : goal.add_basic-requires
add_basic-requires c =
    let a = c.args in
    proper_sectioned a.lhs _ (tables a.ids.now a.epochs.now a.bytes.now) c.requires.bytes_value c.in-Sectioned-Basic.is-0

pub add_rows-requires-in-Sectioned-Sectioned-clause-proper : goal.add_rows-requires-in-Sectioned-Sectioned-clause-proper
add_rows-requires-in-Sectioned-Sectioned-clause-proper c =
    let a = c.args in
    proper_sectioned a.lhs _ (tables a.ids.now a.epochs.now a.bytes.now) c.requires.bytes_value c.in-Sectioned-Sectioned.is-0

pub add_rows-requires-in-Sectioned-Sectioned-clause-proper_2 : goal.add_rows-requires-in-Sectioned-Sectioned-clause-proper_2
add_rows-requires-in-Sectioned-Sectioned-clause-proper_2 c =
    let a = c.args in
    let u = tables a.rhs_ids.now a.rhs_epochs.now a.rhs_bytes.now in
    proper_sectioned a.rhs _ u c.requires.rhs_bytes_value c.in-Sectioned-Sectioned.is-1

pub returns-in-None-None : goal.returns-in-None-None
returns-in-None-None c =
    let a = c.args in
    let t = tables a.ids.now a.epochs.now a.bytes.now in
    at_states a.version t _ c.in-None-None.is-0 c.in-None-None.is-1 (told t c.done.ensures ∙ placing_nothing t)

pub returns-in-None-Basic : goal.returns-in-None-Basic
returns-in-None-Basic c =
    let a = c.args in
    let t = tables a.ids.now a.epochs.now a.bytes.now in
    at_states a.version t _ c.in-None-Basic.is-0 c.in-None-Basic.is-1 (told t c.done-in-None-Basic.ensures ∙ placing_basic t _)

pub returns-in-None-Sectioned : goal.returns-in-None-Sectioned
returns-in-None-Sectioned c =
    let a = c.args in
    let t = tables a.ids.now a.epochs.now a.bytes.now in
    let u = tables a.rhs_ids.now a.rhs_epochs.now a.rhs_bytes.now in
    at_states a.version t u c.in-None-Sectioned.is-0 c.in-None-Sectioned.is-1
    (placed_rows _ c.add_rows.ensures (joined_nothing _))

pub returns-in-Basic-None : goal.returns-in-Basic-None
returns-in-Basic-None c =
    let a = c.args in
    let t = tables a.ids.now a.epochs.now a.bytes.now in
    at_states a.version t _ c.in-Basic-None.is-0 c.in-Basic-None.is-1 (told t c.done-in-Basic-None.ensures ∙ placing_basic t _)

pub returns-in-Basic-Basic : goal.returns-in-Basic-Basic
returns-in-Basic-Basic c =
    let a = c.args in
    let t = tables a.ids.now a.epochs.now a.bytes.now in
    at_states a.version t _ c.in-Basic-Basic.is-0 c.in-Basic-Basic.is-1
    (told t c.done-in-Basic-Basic.ensures ∙ ap (λ (n : ℕ). done (Basic n) t) c.saturating_add.ensures ∙ placing_basic t _)

pub returns-in-Sectioned-None : goal.returns-in-Sectioned-None
returns-in-Sectioned-None c =
    let a = c.args in
    let t = tables a.ids.now a.epochs.now a.bytes.now in
    let rows = proper_sectioned a.lhs _ t c.requires.bytes_value c.in-Sectioned-None.is-0 in
    at_states a.version t _ c.in-Sectioned-None.is-0 c.in-Sectioned-None.is-1 (told t c.done-in-Sectioned-None.ensures ∙ placing_stays rows.room)
