-- Records that were placed one run after another are a union, around an epoch or whole; and how many they can be at most.
-- Assumes nothing.
use mathlib.Core.Path.{◌≡◌, ap, ◌∙◌}
use mathlib.Core.List.{List, ◌∷◌, ◌++◌}
use Prim.Native.Nat.{ℕ, suc, ◌+◌, ◌-◌, ◌≤◌}
use native.Mathlib.Omega.{arith}
use lib.ListN.{length, take, drop, set, length-append, length-drop}
use lib.Seq.{length-take-le}
use Rattle.records_spec.specs.Tables.{At, ◌⦂◌, records_of, union}
use Rattle.records_spec.specs.Inner.Tables.{Table, Above, Placed}
use Rattle.records_spec.specs.Inner.Unions.{spot_of}
use Rattle.records_spec.specs.declared.table.Spot.{Spot}
use Rattle.records_spec.proofs.Tables.{length_records_of, epochs_records, placed_one, placed_then}
use Rattle.records_spec.proofs.Around.{place_long, place_up, union_around}
use Rattle.records_spec.proofs.Merged.{union_long}

-- the union of what stands from i on in ours with theirs is not longer than both
pub union_most : {oe oc te tc : List ℕ} → Table oe oc → Table te tc → (i : ℕ) → i ≤ length oe
    → length (union (drop i (records_of oe oc)) (records_of te tc)) ≤ (length oe - i) + length te
union_most {oe} {oc} {te} {tc} t u i p =
    omega (
      arith,
      union_long (drop i (records_of oe oc)) (records_of te tc),
      length-drop i (records_of oe oc),
      length_records_of oe oc t.even,
      length_records_of te tc u.even,
    )

-- ours, and theirs above an epoch
module _ {oe oc te tc : List ℕ} {e : ℕ} {spot : Spot} (t : Table oe oc) (u : Above e te tc) (s : spot ≡ spot_of e oe oc) where
  pub spot_order : (spot.below ≤ spot.upto) × (spot.upto ≤ length oe)
  spot_order = rw s (place_up e oe, place_long (suc e) oe)

  module _ (n : ℕ) where
    around : union (records_of oe oc) (e ⦂ n ∷ records_of te tc)
        ≡ take spot.below (records_of oe oc) ++ e ⦂ n ∷ union (drop spot.upto (records_of oe oc)) (records_of te tc)
    around =
        rw s
        (rw (epochs_records oe oc t.even) at
        (union_around e n (records_of oe oc) (records_of te tc) (rw (epochs_records oe oc t.even) t.rises)
        (rw (epochs_records te tc u.even) u.ascends)))

    pub around_long : length (union (records_of oe oc) (e ⦂ n ∷ records_of te tc))
        ≡ spot.below + 1 + length (union (drop spot.upto (records_of oe oc)) (records_of te tc))
    around_long =
        let l : length (take spot.below (records_of oe oc)) ≡ spot.below =
        length-take-le spot.below (records_of oe oc) (omega (arith, spot_order.0, spot_order.1, length_records_of oe oc t.even)) in
        ap (length {A = At}) around ∙ length-append (take spot.below (records_of oe oc)) _ ∙ omega arith

    pub around_placed : {k : ℕ} {es cs es' cs' es'' cs'' : List ℕ} → Placed (take spot.below (records_of oe oc)) 0 spot.below es cs es' cs'
        → Placed (union (drop spot.upto (records_of oe oc)) (records_of te tc)) (spot.below + 1) k (set es' spot.below e)
        (set cs' spot.below n) es'' cs''
        → Placed (union (records_of oe oc) (e ⦂ n ∷ records_of te tc)) 0 k es cs es'' cs''
    around_placed p q = rw around (placed_then p (placed_then (placed_one e n spot.below _ _) q))
