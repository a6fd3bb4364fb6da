-- The tests that a call for C makes on what it was given, from what each of them answered. Assumes nothing.
use Prim.Native.Nat.{ℕ}
use mathlib.Core.Path.{◌≡◌, sym, ap, ◌∙◌}
use mathlib.Core.Bool.{Bool, ◌&&◌}
use Rattle.capi_spec.specs.Given.{is_true, can_merge}
use Rattle.capi_spec.specs.declared.types.CHead.{CHead}

-- of a merge whose own flags may be absent
pub merges : (p : ℕ) (o t : CHead) (s : ℕ) {g k b : Bool} → g ≡ is_true p → k ≡ can_merge g o t s → k ≡ b → can_merge (is_true p) o t s ≡ b
merges p o t s e m u = ap (λ (q : Bool). can_merge q o t s) (sym e) ∙ sym m ∙ u

-- the same with one test more
pub removes : (p : ℕ) (o t : CHead) (s : ℕ) (y : Bool) {g k b : Bool} → g ≡ is_true p → k ≡ (can_merge g o t s && y) → k ≡ b
    → (can_merge (is_true p) o t s && y) ≡ b
removes p o t s y e m u = ap (λ (q : Bool). can_merge q o t s && y) (sym e) ∙ sym m ∙ u
