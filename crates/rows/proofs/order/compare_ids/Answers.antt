-- `compare_ids`: the first bytes that differ decide, and else the comparison of slices. Assumes nothing.
use Rattle.std.proofs.Common.{◌≡◌, ℕ, ◌+◌, ◌<◌, List, length, drop, get_or, refl, sym, ◌∙◌, arith}
use Rattle.records_spec.proofs.Rising.{drop_next}
use Rattle.rows_spec.specs.Order.{by, order}
use Rattle.rows_spec.proofs.Comparing.{by_less, by_greater, by_next}
use Rattle.rows.proofs.order.compare_ids.Goals as goal

-- the numbers at the next place decide, and then what stands behind them
next : (a b : List ℕ) (k : ℕ) → k < length a → k < length b → order a b ≡ order (drop k a) (drop k b)
    → order a b ≡ by (get_or a k 0) (get_or b k 0) (order (drop (k + 1) a) (drop (k + 1) b))
unfolding order
next a b k h i p = p ∙ rw (drop_next a k h, drop_next b k i)

pub loop-k-init : goal.loop-k-init
loop-k-init c = refl

pub loop-k-preserved : goal.loop-k-preserved
loop-k-preserved c =
    let a = c.args.a.now in
    let b = c.args.b.now in
    next a b c.loop-k.k (omega (arith, c.loop-k-test.true, c.min-k-end.ensures, c.min.ensures))
    (omega (arith, c.loop-k-test.true, c.min-k-end.ensures, c.min.ensures)) c.loop-k.invariant
    ∙ by_next (get_or a c.loop-k.k 0) (get_or b c.loop-k.k 0) _ c.if-b-k.false c.if-a-k.false

pub returns-then-a-k : goal.returns-then-a-k
returns-then-a-k c =
    let a = c.args.a.now in
    let b = c.args.b.now in
    sym
    (next a b c.loop-k.k (omega (arith, c.loop-k-test.true, c.min-k-end.ensures, c.min.ensures))
    (omega (arith, c.loop-k-test.true, c.min-k-end.ensures, c.min.ensures)) c.loop-k.invariant
    ∙ by_less (get_or a c.loop-k.k 0) (get_or b c.loop-k.k 0) _ c.if-a-k.true)

pub returns-then-b-k : goal.returns-then-b-k
returns-then-b-k c =
    let a = c.args.a.now in
    let b = c.args.b.now in
    sym
    (next a b c.loop-k.k (omega (arith, c.loop-k-test.true, c.min-k-end.ensures, c.min.ensures))
    (omega (arith, c.loop-k-test.true, c.min-k-end.ensures, c.min.ensures)) c.loop-k.invariant
    ∙ by_greater (get_or a c.loop-k.k 0) (get_or b c.loop-k.k 0) _ c.if-b-k.true)

pub returns : goal.returns
returns c = c.compare_slices.ensures
