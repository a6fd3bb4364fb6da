-- A change judged record by record: what was judged so far and what is still to judge make the whole judgement, and what goes and is made
-- are the rows that the change loses and gains.
-- Assumes nothing.
use mathlib.Core.Path.{◌≡◌, refl, ◌∙◌, subst}
use mathlib.Core.Bool.{cond, ◌&&◌}
use mathlib.Core.List.{List, [], ◌∷◌}
use Prim.Native.Nat.{ℕ, ◌+◌, ◌-◌, ◌≤◌, ◌<◌}
use native.Mathlib.Nat.{add-zero}
use native.Mathlib.Omega.{arith}
use lib.Dec.{ltb, eqb}
use borrow.Author.Tests.{le-leb, lt-leb}
use Rattle.rows_spec.specs.Rows.{Row}
use Rattle.records_spec.specs.Outcomes.{refused, ok}
use Rattle.records_spec.specs.Refusals.{number}
use Rattle.records_spec.specs.declared.refusal.Refusal.TheVariants.{Overflow, IndexMismatch}
use Rattle.totals_spec.specs.Table.{total_at}
use Rattle.totals_spec.specs.Replacing.{largest_total, covered, all_fit}
use Rattle.totals_spec.specs.Inner.Steps.{gone, made, judged_old, judged_new}

-- ---- the old counts

-- of all old counts, those that are left and the rows that go with those before
pub record OldsJudged (all left t : List Row) (n : ℕ) : Type 0 where
  pub so_far : covered all t ≡ covered left t
  pub going : gone all t ≡ n + gone left t

pub olds_start : (all t : List Row) → OldsJudged all all t 0
olds_start all t = record { so_far = refl; going = omega arith }

module _ {all t : List Row} {n : ℕ} where
  pub olds_end : {left : List Row} → left ≡ [] → OldsJudged all left t n → ok n ≡ judged_old all t
  unfolding covered gone
  olds_end e j = rw (j.so_far, j.going, e, add-zero n)

  module _ {left : List Row} (o : Row) (rest : List Row) (e : left ≡ o ∷ rest) (j : OldsJudged all left t n) where
    old_next : OldsJudged all (o ∷ rest) t n
    old_next = subst (λ (l : List Row). OldsJudged all l t n) e j

    pub olds_short : total_at o t < o.part.bytes → refused (number IndexMismatch) ≡ judged_old all t
    unfolding covered
    olds_short h = rw (old_next.so_far, lt-leb o.part.bytes (total_at o t) h)

    pub olds_step : {k : ℕ} → o.part.bytes ≤ total_at o t → k ≡ cond (ltb 0 o.part.bytes && eqb (total_at o t) o.part.bytes) 1 0
        → OldsJudged all rest t (n + k)
    unfolding covered gone
    olds_step h q = record { so_far = old_next.so_far ∙ rw (le-leb o.part.bytes (total_at o t) h); going = old_next.going ∙ omega (arith, q) }

-- ---- the new counts

-- of all new counts, those that are left and the rows that are made for those before
pub record NewsJudged (os all left t : List Row) (n : ℕ) : Type 0 where
  pub so_far : all_fit os all t ≡ all_fit os left t
  pub making : made os all t ≡ n + made os left t

pub news_start : (os all t : List Row) → NewsJudged os all all t 0
news_start os all t = record { so_far = refl; making = omega arith }

module _ {os all t : List Row} {n : ℕ} where
  pub news_end : {left : List Row} → left ≡ [] → NewsJudged os all left t n → ok n ≡ judged_new os all t
  unfolding all_fit made
  news_end e j = rw (j.so_far, j.making, e, add-zero n)

  module _ {left : List Row} (o : Row) (rest : List Row) (e : left ≡ o ∷ rest) (j : NewsJudged os all left t n) where
    new_next : NewsJudged os all (o ∷ rest) t n
    new_next = subst (λ (l : List Row). NewsJudged os all l t n) e j

    pub news_over : largest_total < total_at o t - total_at o os + o.part.bytes → refused (number Overflow) ≡ judged_new os all t
    unfolding all_fit
    news_over h = rw (new_next.so_far, lt-leb (total_at o t - total_at o os + o.part.bytes) largest_total h)

    pub news_step : {k : ℕ} → total_at o t - total_at o os + o.part.bytes ≤ largest_total
        → k ≡ cond (ltb 0 o.part.bytes && eqb (total_at o t - total_at o os) 0) 1 0 → NewsJudged os all rest t (n + k)
    unfolding all_fit made
    news_step h q = record {
      so_far = new_next.so_far
          ∙ rw (le-leb (total_at o t - total_at o os + o.part.bytes) largest_total h);
      making = new_next.making ∙ omega (arith, q);
    }
