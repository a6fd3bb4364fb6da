-- A change touches only rows that the old or the new flags name.
-- Assumes nothing.
use mathlib.Core.Path.{◌≡◌, refl, sym, ap, ◌∙◌}
use mathlib.Core.Bool.{Bool, true, false, cond}
use Rattle.std.specs.Prelude.{Option}
use mathlib.Core.List.{List, ◌++◌}
use native.Mathlib.Omega.{arith}
use Rattle.records_spec.specs.Flags.{Flags}
use Rattle.rows_spec.specs.Rows.{Row, ascends}
use Rattle.records_spec.specs.Outcomes.{ok}
use Rattle.totals_spec.specs.Table.{proper_totals, total_at}
use Rattle.totals_spec.specs.Recount.{named}
use Rattle.totals_spec.specs.Replacing.{replaced_rows, replaced}
use Rattle.totals_spec.specs.Theorems.{names, not_named}
use Rattle.totals_spec.proofs.Totals.{same_totals}
use Rattle.totals_spec.proofs.NamedTotals.{names_append, not_counted, not_ascends, not_above, not_total}
use Rattle.totals_spec.proofs.Accepted.{accepted, IsProper, is_proper, replaced_proper, replaced_total}

module _ (os ns t : List Row) where
  -- A TOTAL THAT NEITHER NAMES IS THE SAME
  pub total_unnamed : ascends t ≡ true → (k : Row) → names k os ≡ false → names k ns ≡ false → total_at k (replaced_rows os ns t) ≡ total_at k t
  total_unnamed s k p q = omega (arith, replaced_total os ns t s k, not_counted k os p, not_counted k ns q)

  -- AND SO ARE, AS A LIST, THE ROWS THAT NEITHER NAMES
  pub rows_unnamed : IsProper t → not_named (os ++ ns) (replaced_rows os ns t) ≡ not_named (os ++ ns) t
  rows_unnamed p =
      let both = os ++ ns in
      let q = replaced_proper os ns t p in
      same_totals (not_named both (replaced_rows os ns t)) (not_named both t)
      (not_ascends both (replaced_rows os ns t) q.rises)
      (not_above both (replaced_rows os ns t) q.full)
      (not_ascends both t p.rises)
      (not_above both t p.full)
      (λ k. not_total both k (replaced_rows os ns t) ∙ go k (names k os) refl (names k ns) refl ∙ sym (not_total both k t))
    where
      go : (k : Row) (x : Bool) → names k os ≡ x → (y : Bool) → names k ns ≡ y
          → cond (names k (os ++ ns)) 0 (total_at k (replaced_rows os ns t)) ≡ cond (names k (os ++ ns)) 0 (total_at k t)
      go k true e y f = rw (names_append k os ns, e)
      go k false e true f = rw (names_append k os ns, e, f)
      go k false e false f = ap (cond (names k (os ++ ns)) 0) (total_unnamed p.rises k e f)

-- ONLY ROWS NAMED BY EITHER CHANGE
pub only_named : (old new : Option Flags) (t u : List Row) → proper_totals t ≡ true → replaced old new t ≡ ok u
    → not_named (named old ++ named new) u ≡ not_named (named old ++ named new) t
only_named old new t u p h =
    ap (not_named (named old ++ named new)) (accepted (named old) (named new) t u h).is ∙ rows_unnamed (named old) (named new) t (is_proper t p)
