-- How many rows a change leaves: a total put makes a row or loses one, so the rows that go and are made are counted before anything is written.
-- Assumes nothing.
use mathlib.Core.Path.{◌≡◌}
use mathlib.Core.Bool.{Bool, true, false, cond, ◌&&◌}
use mathlib.Core.List.{List, [], ◌∷◌}
use Prim.Native.Nat.{ℕ, suc, ◌+◌, ◌-◌, ◌≤◌, ◌<◌}
use native.Mathlib.Decide.{dec_lt}
use native.Mathlib.Omega.{arith}
use lib.Dec.{ltb, eqb}
use lib.ListN.{length}
use borrow.Author.Tests.{lt-ltb, le-ltb, eq-eqb, ne_eqb}
use Rattle.rows_spec.specs.Rows.{Row, ascends}
use Rattle.std.specs.declared.cmp.Ordering.TheVariants.{Equal, Greater}
use Rattle.rows_spec.proofs.Comparing.{self_same}
use Rattle.rows_spec.proofs.Rows.{asc_tail}
use Rattle.totals_spec.specs.Table.{all_positive, total_at, row_if, put_total, with_total, add_counts, take_counts}
use Rattle.totals_spec.specs.Replacing.{covered, replaced_rows}
use Rattle.totals_spec.specs.Inner.Steps.{gone, made}
use Rattle.totals_spec.proofs.Totals.{total_none, total_at_lem, total_same, total_before, total_behind, above_first, above_tail, put_none}
use Rattle.totals_spec.proofs.Totals.{put_cases}
use Rattle.totals_spec.proofs.Counts.{count_total, covered_first, covered_tail, add_ascends, add_above, take_ascends, take_above, total_added}
use Rattle.totals_spec.proofs.Counts.{total_taken}

-- 1 where a number is above 0
abbrev some : ℕ → ℕ
some n = cond (ltb 0 n) 1 0

pub one_most : (b : Bool) → cond b 1 0 ≤ 1
one_most true = omega arith
one_most false = omega arith

some_none : (n : ℕ) → n ≤ 0 → some n ≡ 0
some_none n h = rw (le-ltb 0 n h)

some_one : (n : ℕ) → 0 < n → some n ≡ 1
some_one n h = rw (lt-ltb 0 n h)

-- ---- one total put

length_if : (r : Row) (l : List Row) → length (row_if r l) ≡ length l + some r.part.bytes
length_if r l =
    elim (dec_lt 0 r.part.bytes) [
      | yes p ↦ rw (lt-ltb 0 r.part.bytes p) (omega arith)
      | no p ↦ rw (le-ltb 0 r.part.bytes (omega arith)) (omega arith)
    ]

pub length_put : (r : Row) (l : List Row) → ascends l ≡ true → all_positive l ≡ true
    → length (put_total r l) + some (total_at r l) ≡ length l + some r.part.bytes
length_put r [] s a = rw (put_none r, total_none r) (omega (arith, length_if r []))
length_put r (b ∷ l) s a =
    let ih = length_put r l (asc_tail b l s) (above_tail b l a) in
    put_cases (λ (m : List Row). length m + some (total_at r (b ∷ l)) ≡ suc (length l) + some r.part.bytes) r b l
    (λ e. rw (total_before r (b ∷ l) e s) (omega (arith, length_if r (b ∷ l))))
    (λ e. rw (total_at_lem r b l Equal e) (omega (arith, length_if r l, some_one b.part.bytes (above_first b l a))))
    (λ e. rw (total_at_lem r b l Greater e) (omega (arith, ih)))

-- ---- the rows that go

-- a total of which a count is taken
left_or_gone : (t c : ℕ) → c ≤ t → some t ≡ some (t - c) + cond (ltb 0 c && eqb t c) 1 0
left_or_gone t c h =
    elim (dec_lt 0 c) [
      | yes p ↦
          elim (dec_lt c t) [
            | yes q ↦ rw (lt-ltb 0 c p, ne_eqb t c (λ e. omega arith)) (omega (arith, some_one t (omega arith), some_one (t - c) (omega arith)))
            | no q ↦ rw (lt-ltb 0 c p, eq-eqb t c (omega arith)) (omega (arith, some_one t (omega arith), some_none (t - c) (omega arith)))
          ]
      | no p ↦ let z : t - c ≡ t = omega arith in rw (le-ltb 0 c (omega arith), z) (omega arith)
    ]

-- a count added to what is left
pub made_or_there : (t c : ℕ) → some (t + c) ≡ some t + cond (ltb 0 c && eqb t 0) 1 0
made_or_there t c =
    elim (dec_lt 0 c) [
      | yes p ↦
          elim (dec_lt 0 t) [
            | yes q ↦ rw (lt-ltb 0 c p, ne_eqb t 0 (λ e. omega arith)) (omega (arith, some_one t q, some_one (t + c) (omega arith)))
            | no q ↦ rw (lt-ltb 0 c p, eq-eqb t 0 (omega arith)) (omega (arith, some_none t (omega arith), some_one (t + c) (omega arith)))
          ]
      | no p ↦ let z : t + c ≡ t = omega arith in rw (le-ltb 0 c (omega arith), z) (omega arith)
    ]

-- a row before others of its own is not among them
alone : (o : Row) (os : List Row) → ascends (o ∷ os) ≡ true → total_at o os ≡ 0
alone o os p = total_behind o o os (self_same o) p

module _ (t : List Row) (s : ascends t ≡ true) (a : all_positive t ≡ true) where
  pub length_taken : (os : List Row) → ascends os ≡ true → covered os t ≡ true → length (take_counts os t) + gone os t ≡ length t
  unfolding take_counts gone
  length_taken [] p h = omega arith
  length_taken (o ∷ os) p h =
      let q = asc_tail o os p in
      let k = take_counts os t in
      let same : total_at o k ≡ total_at o t = omega (arith, total_taken o t s os, count_total o os q, alone o os p) in
      let put = length_put (with_total o (total_at o k - o.part.bytes)) k (take_ascends t os s) (take_above t os a) in
      let put' : length (put_total (with_total o (total_at o t - o.part.bytes)) k) + some (total_at o t)
      ≡ length k + some (total_at o t - o.part.bytes) =
      rw (total_same (with_total o (total_at o k - o.part.bytes)) o k (self_same o), same) at put in
      rw same (omega (arith, put', length_taken os q (covered_tail t o os h), left_or_gone (total_at o t) o.part.bytes (covered_first t o os h)))

  module _ (os k : List Row) (sk : ascends k ≡ true) (ak : all_positive k ≡ true) (e : (r : Row) → total_at r k ≡ total_at r t - total_at r os) where
    pub length_made : (ns : List Row) → ascends ns ≡ true → length (add_counts ns k) ≡ length k + made os ns t
    unfolding add_counts made
    length_made [] p = omega arith
    length_made (n ∷ ns) p =
        let q = asc_tail n ns p in
        let m = add_counts ns k in
        let same : total_at n m ≡ total_at n t - total_at n os = omega (arith, e n, total_added n k sk ns, count_total n ns q, alone n ns p) in
        let put = length_put (with_total n (total_at n m + n.part.bytes)) m (add_ascends k ns sk) (add_above k ns ak) in
        let put' : length (put_total (with_total n (total_at n t - total_at n os + n.part.bytes)) m) + some (total_at n t - total_at n os)
        ≡ length m + some (total_at n t - total_at n os + n.part.bytes) =
        rw (total_same (with_total n (total_at n m + n.part.bytes)) n m (self_same n), same) at put in
        rw same (omega (arith, put', length_made ns q, made_or_there (total_at n t - total_at n os) n.part.bytes))

  -- THE ROWS AFTERWARDS ARE THOSE BEFORE, LESS THOSE THAT GO, AND THOSE THAT ARE MADE
  pub length_replaced : (os ns : List Row) → ascends os ≡ true → ascends ns ≡ true → covered os t ≡ true
      → length (replaced_rows os ns t) + gone os t ≡ length t + made os ns t
  length_replaced os ns p q h =
      let k = take_counts os t in
      omega (
        arith,
        length_taken os p h,
        length_made os k (take_ascends t os s) (take_above t os a) (λ r. omega (arith, total_taken r t s os, count_total r os p)) ns q,
      )
