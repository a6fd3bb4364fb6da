-- ONE LAW OF "ONLY" AND ONE OF "A REFUSAL KEEPS" for each way of telling an answer, cited by every call. A definition keeps what was lent where its
-- refusals do: those that are made by `leaving` do, and those that are one of two such, or such a one where bytes name something.
-- Assumes nothing.
use mathlib.Core.Path.{◌≡◌, refl, sym, ap, ◌∙◌}
use mathlib.Core.Bool.{Bool, true, false, cond}
use Prim.Native.Nat.{ℕ}
use Rattle.records_spec.specs.Outcomes.{Answer, ok, refused, number_in, After, after, leaving, answered}
use Rattle.records_spec.specs.Flags.{no_head, Lent, lending, Held, blank}
use Rattle.records_spec.specs.Answers.{FlagsAfter, present_in, head_in, shown}
use Rattle.records_spec.specs.declared.head.Head.{Head}
use Rattle.records_spec.specs.declared.refusal.Refusal.{Refusal}
use Rattle.std.specs.Prelude.{Option, Result}
use Rattle.records_spec.proofs.Only.{refused_keeps, back_only, answered_as, answered_back}
use Rattle.capi_spec.specs.Calls.{where_named}
use Rattle.capi_spec.specs.Told.{told_as, flags_answer, flags_told}
use Rattle.capi_spec.specs.declared.types.CFlags.{CFlags}

-- ---- definitions

-- where it is a refusal, the memory m is left
abbrev pub KeptBy : {A M : Type 0} → M → After (Answer A) M → Type 0
KeptBy m a = (n : ℕ) → a.answer ≡ refused n → a.lent ≡ m

module _ {A M : Type 0} (m : M) where
  pub leaving_kept : (x : Answer (A × M)) → KeptBy m (leaving m x)
  leaving_kept x = refused_keeps m x

  pub named_kept : (b : Bool) (d : After (Answer A) M) → KeptBy m d → KeptBy m (where_named b m d)
  named_kept true d k = k
  named_kept false d k = λ n e. refl

  pub either_kept : (b : Bool) (s t : After (Answer A) M) → KeptBy m s → KeptBy m t → KeptBy m (cond b s t)
  either_kept true s t p q = p
  either_kept false s t p q = q

-- ---- answers as the crates tell them

-- without lent memory
pub told_keeps : {T A : Type 0} (t : T → Answer A) (x : T) → (number_in (t x) ≡ 0 → ⊥) → t x ≡ refused (number_in (t x))
told_keeps {T} {A} t x h = by (t x) refl
  where
    by : (y : Answer A) → t x ≡ y → t x ≡ refused (number_in (t x))
    by (ok a) e = absurd (h (ap number_in e))
    by (refused n) e = e ∙ ap refused (sym (ap number_in e))

-- with it
module _ {T A M : Type 0} (t : T → Answer A) (x : T) (m left : M) (d : After (Answer A) M) where
  pub told_keeps_with : KeptBy m d → after (t x) left ≡ d → (number_in (t x) ≡ 0 → ⊥) → (t x ≡ refused (number_in (t x))) × (left ≡ m)
  told_keeps_with k e h =
      let r = told_keeps t x h in
      (r, ap (λ (a : After (Answer A) M). a.lent) e ∙ k _ (sym (ap (λ (a : After (Answer A) M). a.answer) e) ∙ r))

-- flags: the head is all zeros
pub flags_keeps : (a : Result (Option Head) Refusal) (t left : Lent) (d : FlagsAfter) → KeptBy (blank t) d → shown a left ≡ d
    → (number_in (present_in a) ≡ 0 → ⊥)
    → ((present_in a ≡ refused (number_in (present_in a))) × (head_in a ≡ no_head)) × (left ≡ t)
flags_keeps a t left d k e h =
    let r = told_keeps_with present_in a (blank t) _ d k e h in
    ((r.0, ap (λ (f : Held). f.head) r.1), ap (λ (f : Held). lending f.epochs f.counts) r.1)

-- ---- answers as C gets them

module _ {A C : Type 0} (f : Answer A → C) (num : C → ℕ) (okay : (a : A) → num (f (ok a)) ≡ 0) (numbered : (n : ℕ) → num (f (refused n)) ≡ n) where
  pub c_keeps : (x : C) (y : Answer A) → x ≡ f y → (num x ≡ 0 → ⊥) → x ≡ f (refused (num x))
  c_keeps x (ok a) e h = absurd (h (ap num e ∙ okay a))
  c_keeps x (refused n) e h = e ∙ ap (λ (k : ℕ). f (refused k)) (sym (ap num e ∙ numbered n))

  refused_so : (x : C) (y : Answer A) → x ≡ f y → (num x ≡ 0 → ⊥) → y ≡ refused (num x)
  refused_so x (ok a) e h = absurd (h (ap num e ∙ okay a))
  refused_so x (refused n) e h = ap refused (sym (ap num e ∙ numbered n))

  pub c_keeps_with : {M : Type 0} (x : C) (m left : M) (d : After (Answer A) M) → KeptBy m d → after x left ≡ told_as f d → (num x ≡ 0 → ⊥)
      → (x ≡ f (refused (num x))) × (left ≡ m)
  c_keeps_with {M} x m left d k e h =
      let p : x ≡ f d.answer = ap (λ (a : After C M). a.answer) e in
      (c_keeps x d.answer p h, ap (λ (a : After C M). a.lent) e ∙ k _ (refused_so x d.answer p h))

pub c_flags_keep : (x : CFlags) (t left : Lent) (d : FlagsAfter) → KeptBy (blank t) d → after x left ≡ flags_told d → (x.refusal ≡ 0 → ⊥)
    → (x ≡ flags_answer (refused x.refusal) no_head) × (left ≡ t)
c_flags_keep x t left d k e h = by d.answer refl
  where
    p : x ≡ flags_answer d.answer d.lent.head
    p = ap (λ (a : After CFlags Lent). a.answer) e

    l : left ≡ lending d.lent.epochs d.lent.counts
    l = ap (λ (a : After CFlags Lent). a.lent) e

    by : (y : Answer Bool) → d.answer ≡ y → (x ≡ flags_answer (refused x.refusal) no_head) × (left ≡ t)
    by (ok b) q = absurd (h (ap (λ (c : CFlags). c.refusal) (p ∙ ap (λ (y : Answer Bool). flags_answer y d.lent.head) q)))
    by (refused n) q =
        let v : d.lent ≡ blank t = k n q in
        let r : x ≡ flags_answer (refused n) no_head =
        p ∙ ap (λ (y : Answer Bool). flags_answer y d.lent.head) q ∙ ap (λ (f : Held). flags_answer (refused n) f.head) v in
        let z : x.refusal ≡ n = ap (λ (c : CFlags). c.refusal) r in
        (r ∙ ap (λ (i : ℕ). flags_answer (refused i) no_head) (sym z), l ∙ ap (λ (f : Held). lending f.epochs f.counts) v)

-- two outcomes that equal one definition are one
pub c_only : {C M : Type 0} (x y : C) (m n : M) (d : After C M) → after x m ≡ d → after y n ≡ d → (x ≡ y) × (m ≡ n)
c_only {C} {M} x y m n d p q =
    let e = p ∙ sym q in
    (ap (λ (a : After C M). a.answer) e, ap (λ (a : After C M). a.lent) e)

-- two answers or refusals that tell the same are the same
pub answered_only : {A : Type 0} (c d : Result A Refusal) (x : Answer A) → answered c ≡ x → answered d ≡ x → c ≡ d
answered_only = back_only answered answered_as answered_back
