-- What the counts of rows tell: how many old counts a table holds, how many rows go, and how many new counts meet a row. Row by row, by
-- cases on each test.
-- Assumes nothing.
use mathlib.Core.Path.{◌≡◌, refl, ap}
use mathlib.Core.Bool.{Bool, true, false, ◌&&◌, and-true, and-false, and-eq-true_iff}
use mathlib.Core.List.{List, [], ◌∷◌}
use Prim.Native.Nat.{ℕ, ◌+◌, ◌-◌, ◌≤◌, ◌<◌}
use native.Mathlib.Decide.{dec_lt}
use native.Mathlib.Omega.{arith}
use lib.Dec.{leb, ltb, eqb}
use lib.ListN.{length}
use borrow.Author.Tests.{leb-false, lt-ltb, le-ltb, lt-leb, eq-eqb, ne_eqb}
use Rattle.records_spec.specs.Tables.{records_of}
use Rattle.rows_spec.specs.Rows.{Row, rows_under}
use Rattle.totals_spec.specs.Table.{total_at}
use Rattle.totals_spec.specs.Replacing.{covered}
use Rattle.totals_spec.specs.Inner.Steps.{under, gone, made}
use Rattle.totals_spec.proofs.Totals.{total_same}
use Rattle.totals_index_spec.specs.Inner.Judging.{one, positives, holds, goes, meets}
use Rattle.totals_index_spec.proofs.Exchange.{Test, count_by, Fair}

-- ---- counts above 0

-- how many counts of rows are above 0
unfoldable pub positives_in : List Row → ℕ
positives_in [] = 0
positives_in (r ∷ rs) = one (ltb 0 r.part.bytes) + positives_in rs

-- of records under an owner, those of their counts
pub positives_under : (o es cs : List ℕ) → length es ≡ length cs → positives_in (under o es cs) ≡ positives cs
unfolding positives_in positives rows_under records_of
positives_under o [] [] h = refl
positives_under o [] (c ∷ cs) h = absurd (omega arith)
positives_under o (e ∷ es) [] h = absurd (omega arith)
positives_under o (e ∷ es) (c ∷ cs) h = ap (λ (n : ℕ). one (ltb 0 c) + n) (positives_under o es cs (omega arith))

-- ---- the tests

abbrev pub held : Test
held a = holds

abbrev pub going : Test
going a = goes

abbrev pub meeting : List Row → Test
meeting os a = meets (total_at a os)

pub held_fair : Fair held
held_fair =
    record {
      same = λ a b c v e. refl;
      no_count = λ a v. refl;
      no_total = λ a c. elim (dec_lt 0 c) [
        | yes p ↦ rw (lt-leb c 0 p) (and-false (ltb 0 c))
        | no p ↦ rw (le-ltb 0 c (omega arith))
      ];
    }

pub going_fair : Fair going
going_fair =
    record {
      same = λ a b c v e. refl;
      no_count = λ a v. refl;
      no_total = λ a c. elim (dec_lt 0 c) [
        | yes p ↦ rw (ne_eqb 0 c (λ e. omega arith)) (and-false (ltb 0 c))
        | no p ↦ rw (le-ltb 0 c (omega arith))
      ];
    }

pub meeting_fair : (os : List Row) → Fair (meeting os)
meeting_fair os =
    record {
      same = λ a b c v e. ap (λ (n : ℕ). meets n c v) (total_same a b os e);
      no_count = λ a v. refl;
      no_total = λ a c. rw (le-ltb 0 (0 - total_at a os) (omega arith)) (and-false (ltb 0 c));
    }

-- ---- the old counts that are held

one_both : (a b : Bool) → one (a && b) ≤ one a
one_both true true = omega arith
one_both true false = omega arith
one_both false b = omega arith

module _ (t : List Row) where
  -- never more than there are
  held_most : (os : List Row) → count_by held os t ≤ positives_in os
  unfolding count_by positives_in
  held_most [] = omega arith
  held_most (o ∷ os) = omega (arith, one_both (ltb 0 o.part.bytes) (leb o.part.bytes (total_at o t)), held_most os)

  held_all : (os : List Row) → covered os t ≡ true → count_by held os t ≡ positives_in os
  unfolding count_by positives_in covered
  held_all [] h = refl
  held_all (o ∷ os) h =
      let p = (and-eq-true_iff (leb o.part.bytes (total_at o t)) (covered os t)).0 h in
      rw (p.0, and-true (ltb 0 o.part.bytes), held_all os p.1)

  held_short : (os : List Row) → covered os t ≡ false → count_by held os t < positives_in os
  unfolding count_by positives_in covered
  held_short [] h = let z : ◌≡◌ {A = ℕ} 0 1 = cc in absurd (omega arith)
  held_short (o ∷ os) h = go (leb o.part.bytes (total_at o t)) refl h (held_short os)
    where
      go : (b : Bool) → leb o.part.bytes (total_at o t) ≡ b → (b && covered os t) ≡ false
          → (covered os t ≡ false → count_by held os t < positives_in os)
          → one (ltb 0 o.part.bytes && leb o.part.bytes (total_at o t)) + count_by held os t < one (ltb 0 o.part.bytes) + positives_in os
      go true e f ih = rw (e, and-true (ltb 0 o.part.bytes)) (omega (arith, ih f))
      go false e f ih =
          let p : 0 < o.part.bytes = omega (arith, leb-false o.part.bytes (total_at o t) e) in
          rw (e, lt-ltb 0 o.part.bytes p) (omega (arith, held_most os))

  -- ALL ARE HELD EXACTLY WHERE NONE IS OWED
  pub owed_none : (os : List Row) → eqb (positives_in os - count_by held os t) 0 ≡ covered os t
  owed_none os = go (covered os t) refl
    where
      go : (b : Bool) → covered os t ≡ b → eqb (positives_in os - count_by held os t) 0 ≡ b
      go true e = eq-eqb (positives_in os - count_by held os t) 0 (omega (arith, held_all os e))
      go false e = ne_eqb (positives_in os - count_by held os t) 0 (λ q. omega (arith, held_short os e))

-- ---- the rows that go and are made

pub gone_count : (os t : List Row) → count_by going os t ≡ gone os t
unfolding count_by gone
gone_count [] t = refl
gone_count (o ∷ os) t = rw (gone_count os t)

-- a count above 0 meets something or makes a row
meets_or_makes : (c d : ℕ) → one (ltb 0 c && eqb d 0) + one (ltb 0 c && ltb 0 d) ≡ one (ltb 0 c)
meets_or_makes c d =
    elim (dec_lt 0 d) [
      | yes p ↦ rw (lt-ltb 0 d p, ne_eqb d 0 (λ e. omega arith), and-true (ltb 0 c), and-false (ltb 0 c)) (omega arith)
      | no p ↦ rw (le-ltb 0 d (omega arith), eq-eqb d 0 (omega arith), and-true (ltb 0 c), and-false (ltb 0 c)) (omega arith)
    ]

pub made_count : (os ns t : List Row) → made os ns t + count_by (meeting os) ns t ≡ positives_in ns
unfolding count_by made positives_in
made_count os [] t = refl
made_count os (n ∷ ns) t = omega (arith, meets_or_makes n.part.bytes (total_at n t - total_at n os), made_count os ns t)
