-- A call that tests what it was given and places one answer: what it leaves where it is accepted, and which refusals it has.
-- Assumes nothing.
use mathlib.Core.Path.{◌≡◌, refl, sym}
use mathlib.Core.Bool.{Bool, true, false}
use mathlib.Core.Logic.{◌⊎◌, inl, inr}
use Prim.Native.Nat.{ℕ}
use Rattle.records_spec.specs.Refusals.{number}
use Rattle.records_spec.specs.Outcomes.{ok, refused, leaving}
use Rattle.records_spec.specs.Theorems.{guarded, AcceptedCall}
use Rattle.records_spec.specs.declared.refusal.Refusal.TheVariants.{NoRoom, BadTable}
use Rattle.records_spec.proofs.Answers.{refused_not_ok}

module _ {A M : Type 0} (before : M) (a : A) (after : M) where
  pub accepted : (given room : Bool) (x : A) → (guarded before a after given room).answer ≡ ok x → AcceptedCall before a after given room x
  unfolding leaving
  accepted true true x k = record { given_proper = refl; had_room = refl; answered = cc; is_left = refl }
  accepted true false x k = absurd (refused_not_ok (number NoRoom) x k)
  accepted false room x k = absurd (refused_not_ok (number BadTable) x k)

  -- SUCH A CALL IS REFUSED WITH 11 OR 10 ONLY
  pub refusals : (given room : Bool) (n : ℕ) → (guarded before a after given room).answer ≡ refused n → (n ≡ number BadTable) ⊎ (n ≡ number NoRoom)
  unfolding leaving
  refusals true true n k = absurd (refused_not_ok n a (sym k))
  refusals true false n k = let z : number NoRoom ≡ n = cc in inr (sym z)
  refusals false room n k = let z : number BadTable ≡ n = cc in inl (sym z)
