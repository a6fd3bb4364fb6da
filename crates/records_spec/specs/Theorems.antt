-- What the theorems speak of besides: a call that tests what it was given and places one answer.
-- Assumes nothing.
use Rattle.std.specs.Prelude.{◌≡◌, Bool, true}
use Rattle.records_spec.specs.Outcomes.{Answer, ◌unless◌, ◌>>◌, After, leaving, placed}
use Rattle.records_spec.specs.declared.refusal.Refusal.TheVariants.{BadTable}

-- a is answered and left is what it leaves, where what was given is proper and there is room; before is what was lent
abbrev pub guarded : {A M : Type 0} → M → A → M → Bool → Bool → After (Answer A) M
guarded before a left given room = leaving before do
  BadTable unless given
  placed room a left

-- what such a call tells where it is accepted with the answer x
pub record AcceptedCall {A M : Type 0} (before : M) (a : A) (left : M) (given room : Bool) (x : A) : Type 0 where
  pub given_proper : given ≡ true
  pub had_room : room ≡ true
  pub answered : a ≡ x
  pub is_left : (guarded before a left given room).lent ≡ left
