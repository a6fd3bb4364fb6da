-- The statements leave no choice: any two outcomes that one allows are equal, since what is shown of an outcome tells it.
-- Assumes nothing.
use mathlib.Core.Path.{◌≡◌, refl, sym, ap, ◌∙◌}
use mathlib.Core.Bool.{Bool, true, false}
use Prim.Native.Nat.{ℕ, ◌<◌}
use Rattle.std.specs.Prelude.{Option, None, Some, Result, Ok, Err}
use native.Mathlib.Omega.{arith}
use Rattle.records_spec.specs.Refusals.{number, refusal_of}
use Rattle.records_spec.specs.Outcomes.{Answer, ok, refused, answered, number_in, After, after, kept, leaving}
use Rattle.records_spec.specs.Flags.{Lent, lending}
use Rattle.records_spec.specs.Answers.{FlagsAfter, present_in, head_in, shown}
use Rattle.records_spec.specs.declared.refusal.Refusal.{Refusal}
use Rattle.records_spec.proofs.Answers.{refused_not_ok}
use Rattle.records_spec.specs.declared.refusal.Refusal.TheVariants.{UnknownType, WrongSize, NonCanonical, DifferentBaseEpoch, DifferentOwners}
use Rattle.records_spec.specs.declared.refusal.Refusal.TheVariants.{Overflow, NoStorageAtEpoch, TotalTooLarge, NoRoom, BadTable, IndexMismatch}
use Rattle.records_spec.specs.declared.head.Head.{Head}

pub same_only : {A : Type 0} (x y d : A) → x ≡ d → y ≡ d → x ≡ y
same_only x y d p q = p ∙ sym q

-- ONE LAW FOR ALL ANSWERS: where what is told of an answer gives the answer back, two answers of which the same is told are one
pub back_only : {T A : Type 0} (told : T → A) (back : A → T) → ((t : T) → back (told t) ≡ t) → (a b : T) (x : A) → told a ≡ x → told b ≡ x → a ≡ b
back_only told back same a b x p q = sym (same a) ∙ ap back (same_only (told a) (told b) x p q) ∙ same b

-- ONE LAW FOR ALL CALLS: and so is what they leave
pub left_only : {T A M : Type 0} (told : T → A) (back : A → T) → ((t : T) → back (told t) ≡ t)
    → (a b : T) (m n : M) (x : After A M) → after (told a) m ≡ x → after (told b) n ≡ x → (a ≡ b) × (m ≡ n)
left_only told back same a b m n x p q =
    let e = p ∙ sym q in
    (back_only told back same a b (told b) (ap (λ (w : After _ _). w.answer) e) refl, ap (λ (w : After _ _). w.lent) e)

-- ONE LAW FOR ALL CALLS: A REFUSAL LEAVES WHAT WAS LENT
pub refusal_keeps : {A M : Type 0} (m : M) (x : Answer (A × M)) → (number_in (leaving m x).answer ≡ 0 → ⊥)
    → leaving m x ≡ kept (number_in (leaving m x).answer) m
unfolding leaving
refusal_keeps m (ok a) h = absurd (h refl)
refusal_keeps m (refused n) h = refl

-- the same of an answer that is known to be refused
pub refused_keeps : {A M : Type 0} (m : M) (x : Answer (A × M)) (n : ℕ) → (leaving m x).answer ≡ refused n → (leaving m x).lent ≡ m
unfolding leaving
refused_keeps m (ok a) n e = absurd (refused_not_ok n a.0 (sym e))
refused_keeps m (refused k) n e = refl

-- ---- refusals

pub named_back : (r : Refusal) → refusal_of (number r) ≡ r
named_back UnknownType = refl
named_back WrongSize = refl
named_back NonCanonical = refl
named_back DifferentBaseEpoch = refl
named_back DifferentOwners = refl
named_back Overflow = refl
named_back NoStorageAtEpoch = refl
named_back TotalTooLarge = refl
named_back NoRoom = refl
named_back BadTable = refl
named_back IndexMismatch = refl

-- every number has at most two digits
pub number_below : (r : Refusal) → number r < 100
number_below UnknownType = omega arith
number_below WrongSize = omega arith
number_below NonCanonical = omega arith
number_below DifferentBaseEpoch = omega arith
number_below DifferentOwners = omega arith
number_below Overflow = omega arith
number_below NoStorageAtEpoch = omega arith
number_below TotalTooLarge = omega arith
number_below NoRoom = omega arith
number_below BadTable = omega arith
number_below IndexMismatch = omega arith

-- a number that is not the one of what it names is no refusal's
unused : (n : ℕ) → (number (refusal_of n) ≡ n → ⊥) → (r : Refusal) → number r ≡ n → ⊥
unused n none r e = none (ap number (ap refusal_of (sym e) ∙ named_back r) ∙ e)

-- 8 IS NO REFUSAL'S NUMBER ANY MORE
pub never_8 : (r : Refusal) → number r ≡ 8 → ⊥
never_8 = unused 8 (λ e. omega arith)

-- ---- answers

-- the answer that a call told, or its refusal
abbrev pub answered_as : {A : Type 0} → Answer A → Result A Refusal
answered_as (ok a) = Ok a
answered_as (refused n) = Err (refusal_of n)

pub answered_back : {A : Type 0} (r : Result A Refusal) → answered_as (answered r) ≡ r
answered_back (Ok a) = refl
answered_back (Err r) = ap Err (named_back r)

-- what was answered, by whether there are flags, and by the head that is left
abbrev shown_as : Answer Bool → Head → Result (Option Head) Refusal
shown_as (ok true) h = Ok (Some h)
shown_as (ok false) h = Ok None
shown_as (refused n) h = Err (refusal_of n)

shown_back : (a : Result (Option Head) Refusal) → shown_as (present_in a) (head_in a) ≡ a
shown_back (Ok None) = refl
shown_back (Ok (Some h)) = refl
shown_back (Err r) = ap Err (named_back r)

pub shown_only : (a b : Result (Option Head) Refusal) (t u : Lent) (x : FlagsAfter) → shown a t ≡ x → shown b u ≡ x → (a ≡ b) × (t ≡ u)
shown_only a b t u x p q =
    let e = left_only (λ y. y) (λ y. y) (λ y. refl) (present_in a) (present_in b) _ _ x p q in
    (sym (shown_back a) ∙ (λ i. shown_as (e.0 i) (e.1 i).head) ∙ shown_back b, (λ i. lending (e.1 i).epochs (e.1 i).counts))
