-- Two tests of which one or the other holds, as the definitions write it: `cond t true a`. Assumes nothing.
use mathlib.Core.Path.{◌≡◌, refl, sym, ◌∙◌}
use mathlib.Core.Bool.{Bool, true, false, cond, true≢false}

pub neither : (t a : Bool) → cond t true a ≡ false → (t ≡ false) × (a ≡ false)
neither true a h = absurd (true≢false h)
neither false a h = (refl, h)

pub first_holds : (t a : Bool) → cond t true a ≡ true → a ≡ false → t ≡ true
first_holds true a h n = refl
first_holds false a h n = absurd (true≢false (sym h ∙ n))

pub second_holds : (t : Bool) → cond t true true ≡ true
second_holds true = refl
second_holds false = refl

pub first_alone : (t : Bool) → cond t true false ≡ t
first_alone true = refl
first_alone false = refl

-- of three, the first two change places
pub either_turn : (t s h : Bool) → cond (cond t true s) true h ≡ cond s true (cond t true h)
either_turn true true h = refl
either_turn true false h = refl
either_turn false s h = refl
