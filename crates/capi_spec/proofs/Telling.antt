-- What C gets of a call, from what the call shows: one law for all answers, and one for flags, whose head C gets in the answer. Each takes C's answer
-- as it was made of the call's own, and what the call's contract says of that. Beside them, the two ways of a test on what C gave.
-- Assumes nothing.
use mathlib.Core.Path.{◌≡◌, refl, sym, ap, ◌∙◌}
use mathlib.Core.Bool.{Bool, true, false, cond}
use Rattle.records_spec.specs.Refusals.{number}
use Rattle.records_spec.specs.Outcomes.{refused, After, after, refusing}
use Rattle.records_spec.specs.Flags.{no_head, Lent, blank}
use Rattle.records_spec.specs.Answers.{FlagsAfter, present_in, head_in, shown}
use Rattle.records_spec.specs.declared.refusal.Refusal.TheVariants.{BadTable}
use Rattle.records_spec.specs.declared.head.Head.{Head}
use Rattle.records_spec.specs.declared.refusal.Refusal.{Refusal}
use Rattle.std.specs.Prelude.{Option, Result}
use Rattle.capi_spec.specs.Told.{told_as, flags_answer, flags_told}
use Rattle.capi_spec.specs.Calls.{where_named}
use Rattle.capi_spec.specs.declared.types.CFlags.{CFlags}

-- ---- tests

module _ {A : Type 0} (b : Bool) (x y : A) {z : A} where
  pub when_true : b ≡ true → z ≡ x → z ≡ cond b x y
  when_true t h = h ∙ sym (ap (λ (q : Bool). cond q x y) t)

  pub when_false : b ≡ false → z ≡ y → z ≡ cond b x y
  when_false f h = h ∙ sym (ap (λ (q : Bool). cond q x y) f)

-- ---- forms of answers

pub told_as_lem : {A B M : Type 0} (f : A → B) (r : B) (a : A) (m : M) (x : After A M) → r ≡ f a → after a m ≡ x → after r m ≡ told_as f x
told_as_lem f r a m x h k = ap (λ z. after z m) h ∙ ap (told_as f) k

pub flags_told_lem : (r : CFlags) (a : Result (Option Head) Refusal) (t : Lent) (x : FlagsAfter) → r ≡ flags_answer (present_in a) (head_in a) → shown a t ≡ x
    → after r t ≡ flags_told x
flags_told_lem r a t x h k = ap (λ (z : CFlags). after z t) h ∙ ap flags_told k

-- no flags, because a byte names nothing
pub flags_bad : (r : CFlags) (t : Lent) (b : Bool) (x : FlagsAfter) → r ≡ flags_answer (refused (number BadTable)) no_head → b ≡ false
    → after r t ≡ flags_told (where_named b (blank t) x)
flags_bad r t b x h f = ap (λ (z : CFlags). after z t) h ∙ ap flags_told (when_false b x (refusing BadTable (blank t)) f refl)
