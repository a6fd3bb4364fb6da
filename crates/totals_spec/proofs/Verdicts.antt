-- What the two judgements of a change tell together: 14, then 6, then how many rows there are afterwards.
-- Assumes nothing.
use mathlib.Core.Path.{◌≡◌, refl, sym}
use mathlib.Core.Bool.{Bool, true, false, cond, ◌&&◌}
use mathlib.Core.List.{List, [], ◌∷◌}
use Prim.Native.Nat.{ℕ, ◌+◌, ◌-◌, ◌≤◌}
use native.Mathlib.Omega.{arith}
use lib.Dec.{ltb, eqb}
use lib.ListN.{length}
use Rattle.records_spec.proofs.Answers.{refused_not_ok}
use Rattle.rows_spec.specs.Rows.{Row, ascends}
use Rattle.records_spec.specs.Outcomes.{refused, ok}
use Rattle.records_spec.specs.Refusals.{number}
use Rattle.records_spec.specs.declared.refusal.Refusal.TheVariants.{Overflow, IndexMismatch}
use Rattle.totals_spec.specs.Table.{all_positive, total_at}
use Rattle.totals_spec.specs.Replacing.{covered, all_fit, replaced_rows, changed}
use Rattle.totals_spec.specs.Inner.Steps.{gone, made, judged_old, judged_new, counted_rows}
use Rattle.totals_spec.proofs.Lengths.{one_most, length_taken, length_replaced}

-- ---- a number or a refusal

told_ok : (b : Bool) (k n m : ℕ) → ok k ≡ cond b (ok n) (refused m) → (b ≡ true) × (k ≡ n)
told_ok true k n m e = (refl, cc)
told_ok false k n m e = absurd (refused_not_ok m k (sym e))

told_refused : (b : Bool) (k n m : ℕ) → refused k ≡ cond b (ok n) (refused m) → (b ≡ false) × (k ≡ m)
told_refused true k n m e = absurd (refused_not_ok k n e)
told_refused false k n m e = (refl, cc)

made_most : (os ns t : List Row) → made os ns t ≤ length ns
unfolding made
made_most os [] t = omega arith
made_most os (n ∷ ns) t = omega (arith, one_most (ltb 0 n.part.bytes && eqb (total_at n t - total_at n os) 0), made_most os ns t)

-- ---- the verdict

module _ (os ns t : List Row) where
  -- the old counts are not held
  pub verdict_old : (k : ℕ) → refused k ≡ judged_old os t → refused k ≡ counted_rows (changed os ns t)
  verdict_old k h =
      let r = told_refused (covered os t) k (gone os t) (number IndexMismatch) h in
      rw (r.0, r.1)

  module _ {g : ℕ} (old : ok g ≡ judged_old os t) where
    pub verdict_covered : covered os t ≡ true
    verdict_covered = (told_ok (covered os t) g (gone os t) (number IndexMismatch) old).0

    -- the new ones do not fit
    pub verdict_new : (k : ℕ) → refused k ≡ judged_new os ns t → refused k ≡ counted_rows (changed os ns t)
    verdict_new k h =
        let r = told_refused (all_fit os ns t) k (made os ns t) (number Overflow) h in
        rw (verdict_covered, r.0, r.1)

    module _ (s : ascends t ≡ true) (a : all_positive t ≡ true) (p : ascends os ≡ true) (q : ascends ns ≡ true) where
      -- no more rows go than there are
      pub gone_most : g ≤ length t
      gone_most = omega (arith, (told_ok (covered os t) g (gone os t) (number IndexMismatch) old).1, length_taken t s a os p verdict_covered)

      pub verdict_rows : {m : ℕ} → ok m ≡ judged_new os ns t → ok (length t - g + m) ≡ counted_rows (changed os ns t)
      verdict_rows {m} h =
          let n : length t - g + m ≡ length (replaced_rows os ns t) =
          omega (
            arith,
            gone_most,
            (told_ok (covered os t) g (gone os t) (number IndexMismatch) old).1,
            (told_ok (all_fit os ns t) m (made os ns t) (number Overflow) h).1,
            length_replaced t s a os ns p q verdict_covered,
          ) in
          rw (verdict_covered, (told_ok (all_fit os ns t) m (made os ns t) (number Overflow) h).0, n)

  pub made_within : {m : ℕ} → ok m ≡ judged_new os ns t → m ≤ length ns
  made_within {m} h = omega (arith, (told_ok (all_fit os ns t) m (made os ns t) (number Overflow) h).1, made_most os ns t)
