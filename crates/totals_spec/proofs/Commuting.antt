-- Changes to two different elements give the same table in either order wherever both orders are accepted.
-- Assumes nothing.
use mathlib.Core.Path.{◌≡◌}
use mathlib.Core.Bool.{true}
use Rattle.std.specs.Prelude.{Option}
use mathlib.Core.List.{List}
use native.Mathlib.Omega.{arith}
use Rattle.records_spec.specs.Flags.{Flags}
use Rattle.rows_spec.specs.Rows.{Row, ascends}
use Rattle.records_spec.specs.Outcomes.{ok}
use Rattle.totals_spec.specs.Table.{proper_totals}
use Rattle.totals_spec.specs.Recount.{named}
use Rattle.totals_spec.specs.Replacing.{changed, replaced}
use Rattle.totals_spec.specs.Theorems.{rises}
use Rattle.totals_spec.proofs.Totals.{same_totals}
use Rattle.totals_spec.proofs.Counts.{given_ascends}
use Rattle.totals_spec.proofs.Accepted.{accepted, is_proper, accepted_proper, accepted_total}

-- IN EITHER ORDER
pub changes_commute : (os₁ ns₁ os₂ ns₂ t u v u' v' : List Row) → ascends os₁ ≡ true → ascends os₂ ≡ true → proper_totals t ≡ true
    → changed os₁ ns₁ t ≡ ok u → changed os₂ ns₂ u ≡ ok v → changed os₂ ns₂ t ≡ ok u' → changed os₁ ns₁ u' ≡ ok v' → v ≡ v'
changes_commute os₁ ns₁ os₂ ns₂ t u v u' v' s₁ s₂ p a b c d =
    let t-is = is_proper t p in
    let a-is = accepted os₁ ns₁ t u a in
    let b-is = accepted os₂ ns₂ u v b in
    let c-is = accepted os₂ ns₂ t u' c in
    let d-is = accepted os₁ ns₁ u' v' d in
    let u-is = accepted_proper a-is t-is in
    let v-is = accepted_proper b-is u-is in
    let u'-is = accepted_proper c-is t-is in
    let v'-is = accepted_proper d-is u'-is in
    same_totals v v' v-is.rises v-is.full v'-is.rises v'-is.full
    (λ k. omega (
      arith,
      accepted_total a-is s₁ t-is k,
      accepted_total b-is s₂ u-is k,
      accepted_total c-is s₂ t-is k,
      accepted_total d-is s₁ u'-is k,
    ))

-- CHANGES TO TWO ELEMENTS IN EITHER ORDER GIVE THE SAME TABLE
pub replaced_commute : (old₁ new₁ old₂ new₂ : Option Flags) (t u v u' v' : List Row) → rises old₁ ≡ true → rises old₂ ≡ true → proper_totals t ≡ true
    → replaced old₁ new₁ t ≡ ok u → replaced old₂ new₂ u ≡ ok v → replaced old₂ new₂ t ≡ ok u' → replaced old₁ new₁ u' ≡ ok v' → v ≡ v'
replaced_commute old₁ new₁ old₂ new₂ t u v u' v' s₁ s₂ =
    changes_commute (named old₁) (named new₁) (named old₂) (named new₂) t u v u' v' (given_ascends old₁ s₁) (given_ascends old₂ s₂)
