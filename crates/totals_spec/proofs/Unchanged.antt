-- Flags replaced by equal ones change nothing.
-- Assumes nothing.
use mathlib.Core.Path.{◌≡◌, refl}
use mathlib.Core.Bool.{true}
use Rattle.std.specs.Prelude.{Option, None}
use mathlib.Core.List.{List, []}
use native.Mathlib.Omega.{arith}
use Rattle.records_spec.specs.Flags.{Flags}
use Rattle.rows_spec.specs.Rows.{Row, ascends}
use Rattle.records_spec.specs.Outcomes.{ok}
use Rattle.totals_spec.specs.Table.{proper_totals, add_counts, take_counts}
use Rattle.totals_spec.specs.Recount.{named}
use Rattle.totals_spec.specs.Replacing.{covered, all_fit, replaced_rows, changed, replaced}
use Rattle.totals_spec.specs.Theorems.{rises, In64Bits}
use Rattle.totals_spec.proofs.Totals.{same_totals}
use Rattle.totals_spec.proofs.Counts.{covered_at, given_ascends}
use Rattle.totals_spec.proofs.Accepted.{IsProper, is_proper, replaced_proper, replaced_total}
use Rattle.totals_spec.proofs.Fitting.{small_fits}

-- counts taken and added again
pub taken_added : (os t : List Row) → ascends os ≡ true → IsProper t → covered os t ≡ true → replaced_rows os os t ≡ t
taken_added os t s p c =
    let q = replaced_proper os os t p in
    same_totals (replaced_rows os os t) t q.rises q.full p.rises p.full
    (λ k. omega (arith, replaced_total os os t p.rises k, covered_at t os s c k))

-- EQUAL FLAGS CHANGE NOTHING
pub replaced_equal : (f : Option Flags) (t : List Row) → rises f ≡ true → proper_totals t ≡ true → In64Bits t → covered (named f) t ≡ true
    → replaced f f t ≡ ok t
replaced_equal f t r h m c =
    let s = given_ascends f r in
    let p = is_proper t h in
    let e = taken_added (named f) t s p c in
    let l : all_fit (named f) (named f) t ≡ true = small_fits (named f) (named f) t s p.rises (rw e m) in
    rw (c, l, e)

-- NOR DO ABSENT ONES
pub nothing_changed : (t : List Row) → changed [] [] t ≡ ok t
unfolding covered all_fit add_counts take_counts
nothing_changed t = refl

pub replaced_absent : (t : List Row) → replaced None None t ≡ ok t
replaced_absent t = nothing_changed t
