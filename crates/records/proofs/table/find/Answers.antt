-- In a rising table the epochs below a given one come first, and `place_of` counts them. Assumes nothing.
use Rattle.std.proofs.Common.{◌≡◌, ℕ, ◌-◌, ◌<◌, ◌≤◌, ltb, true, false, List, length, get_or, arith, rules}
use Rattle.std.proofs.lemmas.List.{get_or_default}
use Rattle.std.proofs.lemmas.List.Sorted.{IsPartitionPoint-from_clause}
use Rattle.std.specs.List.Sorted.{IsPartitionedBy, IsPartitionPoint}
use borrow.Author.Tests.{ltb-true, ltb-false, lt-ltb}
use Rattle.records_spec.specs.Tables.{rising, place_of}
use Rattle.records_spec.proofs.Rising.{place_within, place_upto, place_past}
use Rattle.records.proofs.table.find.Goals as goal

module _ (e : ℕ) (es : List ℕ) (h : rising es ≡ true) where
  lower_first : IsPartitionedBy (λ x. ltb x e) es
  lower_first i j d p q r =
      let at-i = get_or_default es i 0 d (omega arith) in
      let at-j = get_or_default es j 0 d q in
      let past = place_past e es j h q (omega (arith, ltb-true _ _ r)) in
      let upto : e ≤ get_or es i 0 → place_of e es ≤ i = place_upto e es i (omega arith) in
      lt-ltb (get_or es i d) e (grind arith)

  place_here : (k : ℕ) → k ≤ length es → IsPartitionPoint (λ x. ltb x e ≡ true) (λ x. ltb x e ≡ false) es k → k ≡ place_of e es
  place_here k p q =
      let past : 0 < k → k - 1 < place_of e es = λ w.
      place_past e es (k - 1) h (omega arith) (ltb-true _ _ (q.0 (k - 1) 0 (omega arith) (omega arith))) in
      let upto : k < length es → place_of e es ≤ k = λ w. place_upto e es k w (ltb-false _ _ (q.1 k 0 (omega arith) w)) in
      grind (arith, place_within e es)

pub returns : goal.returns
returns c =
    let e = c.args.epoch in
    let es = c.args.epochs.now in
    let here = c.partition_point.ensures in
    place_here e es c.requires _ here.bound
    (IsPartitionPoint-from_clause (λ x. ltb x e) es _ here.partitioned (lower_first e es c.requires) (λ a r g q. search rules))
