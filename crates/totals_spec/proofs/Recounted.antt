-- The recount is proper, has a row exactly where the counts come to more than 0, and does not depend on the order of the elements. Replacing
-- an element's flags in a recount gives the recount with the new ones.
-- Assumes nothing.
use mathlib.Core.Path.{◌≡◌, refl, sym, ap, ◌∙◌}
use mathlib.Core.Bool.{true, cond}
use Rattle.std.specs.Prelude.{Option}
use mathlib.Core.List.{List, [], ◌∷◌, ◌++◌, Permᴰ}
use Prim.Native.Nat.{◌+◌}
use native.Mathlib.Omega.{arith}
use lib.Dec.{ltb}
use Rattle.records_spec.specs.Flags.{Flags}
use Rattle.rows_spec.specs.Rows.{Row, ascends}
use Rattle.rows_spec.proofs.Rows.{asc_none}
use Rattle.records_spec.specs.Outcomes.{refused, ok}
use Rattle.records_spec.specs.Refusals.{number}
use Rattle.records_spec.specs.declared.refusal.Refusal.TheVariants.{Overflow}
use Rattle.totals_spec.specs.Table.{all_positive, proper_totals, total_at}
use Rattle.totals_spec.specs.Recount.{named, recount, count_at, count_over}
use Rattle.totals_spec.specs.Replacing.{covered, all_fit, replaced_rows, replaced}
use Rattle.totals_spec.specs.Theorems.{names}
use Rattle.totals_spec.proofs.Totals.{total_none, above_none, same_totals}
use Rattle.totals_spec.proofs.Counts.{add_ascends, add_above, total_added, covers}
use Rattle.totals_spec.proofs.Accepted.{accepted, is_proper, proper_is, replaced_proper, replaced_total}
use Rattle.totals_spec.proofs.NamedTotals.{names_total}

-- ---- a proper table

pub recount_ascends : (es : List (Option Flags)) → ascends (recount es) ≡ true
unfolding recount
recount_ascends [] = asc_none
recount_ascends (e ∷ es) = add_ascends (recount es) (named e) (recount_ascends es)

pub recount_above : (es : List (Option Flags)) → all_positive (recount es) ≡ true
unfolding recount
recount_above [] = above_none
recount_above (e ∷ es) = add_above (recount es) (named e) (recount_above es)

-- A RECOUNT IS PROPER
pub recount_proper : (es : List (Option Flags)) → proper_totals (recount es) ≡ true
recount_proper es = rw (recount_ascends es, recount_above es)

-- ITS TOTALS ARE THE SUMS OF THE COUNTS OVER ALL ELEMENTS
pub recount_total : (k : Row) (es : List (Option Flags)) → total_at k (recount es) ≡ count_over k es
unfolding recount count_over
recount_total k [] = total_none k
recount_total k (e ∷ es) = omega (arith, total_added k (recount es) (recount_ascends es) (named e), recount_total k es)

-- WITH A ROW EXACTLY WHERE THE SUM IS ABOVE 0
pub recount_rows : (k : Row) (es : List (Option Flags)) → names k (recount es) ≡ ltb 0 (count_over k es)
recount_rows k es = names_total k (recount es) (recount_above es) ∙ ap (ltb 0) (recount_total k es)

-- NO OTHER PROPER TABLE HAS THESE TOTALS
pub recount_only : (es : List (Option Flags)) (t : List Row) → proper_totals t ≡ true → ((k : Row) → total_at k t ≡ count_over k es) → t ≡ recount es
recount_only es t p h =
    let q = is_proper t p in
    same_totals t (recount es) q.rises q.full (recount_ascends es) (recount_above es) (λ k. h k ∙ sym (recount_total k es))

-- ---- elements in any order

over_perm : (k : Row) {xs ys : List (Option Flags)} → Permᴰ xs ys → count_over k xs ≡ count_over k ys
unfolding count_over
over_perm k Permᴰ.nil = refl
over_perm k (Permᴰ.cons e d) = let c = ap (λ (f : Option Flags). count_at k (named f)) e in omega (arith, over_perm k d)
over_perm k (Permᴰ.swap e f) =
    let c = ap (λ (f : Option Flags). count_at k (named f)) e in
    let d = ap (λ (f : Option Flags). count_at k (named f)) f in
    omega arith
over_perm k (Permᴰ.trans d e) = over_perm k d ∙ over_perm k e

-- THE ORDER OF THE ELEMENTS DOES NOT SHOW
pub recount_perm : {xs ys : List (Option Flags)} → Permᴰ xs ys → recount xs ≡ recount ys
recount_perm {xs} {ys} d = recount_only ys (recount xs) (recount_proper xs) (λ k. recount_total k xs ∙ over_perm k d)

-- ---- one element's flags replaced

over_middle : (k : Row) (xs ys : List (Option Flags)) (e : Option Flags) → count_over k (xs ++ (e ∷ ys)) ≡ count_over k (xs ++ ys) + count_at k (named e)
unfolding count_over
over_middle k [] ys e = omega arith
over_middle k (x ∷ xs) ys e = omega (arith, over_middle k xs ys e)

module _ (xs ys : List (Option Flags)) (old new : Option Flags) where
  total_old : (k : Row) → total_at k (recount (xs ++ (old ∷ ys))) ≡ count_over k (xs ++ ys) + count_at k (named old)
  total_old k = recount_total k (xs ++ (old ∷ ys)) ∙ over_middle k xs ys old

  -- no total of a recount is less than the count of one of its elements
  pub recount_covers : covered (named old) (recount (xs ++ (old ∷ ys))) ≡ true
  recount_covers = covers (recount (xs ++ (old ∷ ys))) (named old) (λ k. omega (arith, total_old k))

  pub recount_replaced : replaced_rows (named old) (named new) (recount (xs ++ (old ∷ ys))) ≡ recount (xs ++ (new ∷ ys))
  recount_replaced =
      let before = recount (xs ++ (old ∷ ys)) in
      recount_only (xs ++ (new ∷ ys)) (replaced_rows (named old) (named new) before)
      (proper_is _ (replaced_proper (named old) (named new) before (is_proper before (recount_proper (xs ++ (old ∷ ys))))))
      (λ k. omega (arith, replaced_total (named old) (named new) before (recount_ascends (xs ++ (old ∷ ys))) k, total_old k, over_middle k xs ys new))

  -- THE RECOUNT WITH THE OLD FLAGS BECOMES THE RECOUNT WITH THE NEW; 14 never happens, and 6 only where a total would pass 64 bits
  pub replaced_recount :
      replaced old new (recount (xs ++ (old ∷ ys)))
      ≡ cond (all_fit (named old) (named new) (recount (xs ++ (old ∷ ys)))) (ok (recount (xs ++ (new ∷ ys)))) (refused (number Overflow))
  replaced_recount = rw (recount_covers, recount_replaced)

  -- the same of a table that was the recount
  pub stays_recount : (t u : List Row) → t ≡ recount (xs ++ (old ∷ ys)) → replaced old new t ≡ ok u → u ≡ recount (xs ++ (new ∷ ys))
  stays_recount t u e h = (accepted (named old) (named new) t u h).is ∙ ap (replaced_rows (named old) (named new)) e ∙ recount_replaced
