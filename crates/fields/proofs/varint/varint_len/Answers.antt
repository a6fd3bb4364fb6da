-- A count of m significant bits lies between 2 ^ m / 2 and 2 ^ m - 1. The table's rule, computed once over its 33 entries, says that the varints of
-- both ends have the entry's length, and a number between them has no other. Assumes nothing.
use Rattle.std.proofs.Common.{ℕ, ◌+◌, ◌-◌, ◌*◌, ◌/◌, ◌^◌, ◌≤◌, ◌<◌, ◌≡◌, Bool, true, ◌&&◌, eqb, eqb-true, List, [], ◌∷◌, length, get_or}
use Rattle.std.proofs.Common.{zero-add, sym, ap, ◌∙◌, refl, arith}
use Rattle.std.proofs.Math.Bool.{and-eq-true_iff}
use Rattle.std.specs.Int.Count.{count_leading_zeros}
use Rattle.std.specs.List.{list_all, enumerate_from}
use Rattle.std.proofs.lemmas.Nat.{leading_length}
use Rattle.std.proofs.lemmas.List.FromFn.{get_or-enumerate_from}
use Rattle.std.proofs.lemmas.List.Sums.{AllPass-from_list_all}
use Rattle.fields_spec.specs.Varint.{varint, groups}
use Rattle.fields_spec.proofs.Varints.{length_between}
use Rattle.fields.proofs.varint.varint_len.Goals as goal

lengths : List ℕ
lengths =
    1 ∷ 1 ∷ 1 ∷ 1 ∷ 1 ∷ 1 ∷ 1 ∷ 1 ∷ 2 ∷ 2 ∷ 2 ∷ 2 ∷ 2 ∷ 2 ∷ 2 ∷ 3 ∷ 3 ∷ 3 ∷ 3 ∷ 3 ∷ 3 ∷ 3 ∷ 4 ∷ 4 ∷ 4 ∷ 4 ∷ 4 ∷ 4 ∷ 4 ∷ 5 ∷ 5 ∷ 5 ∷ 5 ∷ []

-- the least and the largest number of k significant bits have varints of the length v
abbrev ends : ℕ × ℕ → Bool
ends (k, v) = eqb v (length (varint (2 ^ k / 2))) && eqb v (length (varint (2 ^ k - 1)))

ruled : list_all ends (enumerate_from 0 lengths) ≡ true
unfolding lengths varint groups
ruled = refl

entry : (k x : ℕ) → k < 33 → x < 2 ^ k → 2 ^ k ≤ 2 * x + 1 → get_or lengths k 0 ≡ length (varint x)
unfolding lengths
entry k x h hi lo =
    let v : ℕ = get_or lengths k 0 in
    let there = AllPass-from_list_all ends (enumerate_from 0 lengths) ruled k (0, 0) h in
    let passes : ends (k, v) ≡ true = rw (get_or-enumerate_from 0 lengths k (0, 0) h, zero-add k) at there in
    let both = (and-eq-true_iff (eqb v (length (varint (2 ^ k / 2)))) (eqb v (length (varint (2 ^ k - 1))))).0 passes in
    sym (length_between (2 ^ k / 2) (2 ^ k - 1) x (omega arith) (omega arith) (sym (eqb-true v _ both.0)) (sym (eqb-true v _ both.1)))

pub returns : goal.returns
unfolding lengths
returns c =
    let x : ℕ = c.args.count in
    let s = leading_length 32 x c.ranges.count.fits in
    let is : 32 - count_leading_zeros 32 x ≡ s.0 = omega (arith, s.1) in
    ap (λ (k : ℕ). get_or lengths k 0) is ∙ entry s.0 x (omega (arith, s.1)) s.2 s.3
