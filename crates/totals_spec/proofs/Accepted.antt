-- A change that is accepted: what it asked, that the table is proper again, and what its totals are.
-- Assumes nothing.
use mathlib.Core.Path.{◌≡◌, refl, sym, ap, ◌∙◌}
use mathlib.Core.Bool.{Bool, true, false, cond, and-eq-true_iff}
use mathlib.Core.List.{List}
use Prim.Native.Nat.{ℕ, ◌+◌, ◌-◌}
use native.Mathlib.Omega.{arith}
use Rattle.records_spec.proofs.Answers.{refused_not_ok}
use Rattle.rows_spec.specs.Rows.{Row, ascends}
use Rattle.records_spec.specs.Outcomes.{refused, Answer, ok}
use Rattle.records_spec.specs.Refusals.{number}
use Rattle.records_spec.specs.declared.refusal.Refusal.TheVariants.{Overflow, IndexMismatch}
use Rattle.totals_spec.specs.Table.{all_positive, proper_totals, total_at}
use Rattle.totals_spec.specs.Recount.{count_at}
use Rattle.totals_spec.specs.Replacing.{covered, all_fit, replaced_rows, changed}
use Rattle.totals_spec.proofs.Counts.{add_ascends, take_ascends, add_above, take_above, total_added, total_taken, covered_at}

-- ---- proper tables

pub record IsProper (t : List Row) : Type 0 where
  pub rises : ascends t ≡ true
  pub full : all_positive t ≡ true

pub is_proper : (t : List Row) → proper_totals t ≡ true → IsProper t
is_proper t p = let q = (and-eq-true_iff (ascends t) (all_positive t)).0 p in record { rises = q.0; full = q.1 }

pub proper_is : (t : List Row) → IsProper t → proper_totals t ≡ true
proper_is t p = rw (p.rises, p.full)

-- ---- old counts taken and new ones added

module _ (os ns t : List Row) where
  pub replaced_proper : IsProper t → IsProper (replaced_rows os ns t)
  replaced_proper p =
      record {
        rises = add_ascends _ ns (take_ascends t os p.rises);
        full = add_above _ ns (take_above t os p.full);
      }

  -- each total less the old count plus the new
  pub replaced_total : ascends t ≡ true → (k : Row) → total_at k (replaced_rows os ns t) ≡ total_at k t - count_at k os + count_at k ns
  replaced_total s k = total_added k _ (take_ascends t os s) ns ∙ ap (λ (n : ℕ). n + count_at k ns) (total_taken k t s os)

-- ---- accepted changes

pub record Accepted (os ns t u : List Row) : Type 0 where
  pub covers : covered os t ≡ true
  pub room : all_fit os ns t ≡ true
  pub is : u ≡ replaced_rows os ns t

ok_same : (x y : List Row) → ◌≡◌ {A = Answer (List Row)} (ok x) (ok y) → x ≡ y
ok_same x y e = cc

pub accepted : (os ns t u : List Row) → changed os ns t ≡ ok u → Accepted os ns t u
accepted os ns t u h = go (covered os t) refl (all_fit os ns t) refl h
  where
    go : (c : Bool) → covered os t ≡ c → (f : Bool) → all_fit os ns t ≡ f
        → cond c (cond f (ok (replaced_rows os ns t)) (refused (number Overflow))) (refused (number IndexMismatch)) ≡ ok u → Accepted os ns t u
    go true c true f e = record { covers = c; room = f; is = sym (ok_same (replaced_rows os ns t) u e) }
    go true c false f e = absurd (refused_not_ok (number Overflow) u e)
    go false c f g e = absurd (refused_not_ok (number IndexMismatch) u e)

module _ {os ns t u : List Row} (a : Accepted os ns t u) where
  pub accepted_proper : IsProper t → IsProper u
  accepted_proper p = rw a.is (replaced_proper os ns t p)

  -- nothing is cut off where the old counts are taken
  pub accepted_total : ascends os ≡ true → IsProper t → (k : Row) → total_at k u + count_at k os ≡ total_at k t + count_at k ns
  accepted_total s p k =
      let e = ap (total_at k) a.is ∙ replaced_total os ns t p.rises k in
      let c = covered_at t os s a.covers k in
      omega arith

-- THE TABLE AFTER A CHANGE IS PROPER
pub changed_proper : (os ns t u : List Row) → changed os ns t ≡ ok u → proper_totals t ≡ true → proper_totals u ≡ true
changed_proper os ns t u h p = proper_is u (accepted_proper (accepted os ns t u h) (is_proper t p))
