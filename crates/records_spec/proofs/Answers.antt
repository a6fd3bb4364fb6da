-- What a call leaves in each case of its answer, by the tests of `placing` and `writing`.
-- Assumes nothing.
use mathlib.Core.Path.{◌≡◌, refl, sym, ap, ◌∙◌}
use mathlib.Core.Bool.{true, false, and-eq-true_iff}
use Rattle.std.specs.Prelude.{Option, None, Some, Result, Ok, Err}
use mathlib.Core.List.{List}
use Prim.Native.Nat.{ℕ, ◌≤◌, ◌<◌}
use native.Mathlib.Omega.{arith}
use lib.ListN.{length}
use lib.Dec.{leb}
use borrow.Author.Tests.{leb-true, le-leb, lt-leb}
use Rattle.records_spec.specs.Refusals.{number}
use Rattle.records_spec.specs.Tables.{At, epochs_of, counts_of, over}
use Rattle.records_spec.specs.Inner.Tables.{Placed}
use Rattle.records_spec.specs.Flags.{Flags, head_of, Lent, lending, holding, blank}
use Rattle.records_spec.specs.Outcomes.{Answer, ok, refused, after, kept, refusing, leaving}
use Rattle.records_spec.specs.Answers.{shown, room_for, in_tables, placing, placing_if, writing}
use Rattle.records_spec.specs.declared.head.Head.{Head}
use Rattle.records_spec.specs.declared.refusal.Refusal.{Refusal}
use Rattle.records_spec.specs.declared.refusal.Refusal.TheVariants.{NoRoom}
use Rattle.records_spec.proofs.Tables.{length_epochs_of, length_counts_of, over_sets}

-- ---- answers

-- a refusal is not an answer
pub refused_not_ok : {A : Type 0} (n : ℕ) (a : A) → ◌≡◌ {A = Answer A} (refused n) (ok a) → ⊥
refused_not_ok n a e = let z : ◌≡◌ {A = ℕ} 0 1 = cc in omega arith

-- ---- room

module _ (n a b : ℕ) where
  pub room_both_lem : room_for n a b ≡ true → (n ≤ a) × (n ≤ b)
  room_both_lem h = let p = (and-eq-true_iff (leb n a) (leb n b)).0 h in (leb-true n a p.0, leb-true n b p.1)

  -- fewer have room too
  pub room_less : (m : ℕ) → m ≤ n → room_for n a b ≡ true → room_for m a b ≡ true
  room_less m p h = let q = room_both_lem h in simp (le-leb m a (omega arith), le-leb m b (omega arith))

-- ---- what a call leaves that answers flags

pub placing_refused : (n : ℕ) (t : Lent) → placing (refused n) t ≡ kept n (blank t)
unfolding placing leaving
placing_refused n t = refl

pub placing_none : (t : Lent) → placing_if (ok None) t ≡ after (ok false) (blank t)
unfolding placing_if leaving
placing_none t = refl

-- flags, or a refusal, where there may be no flags
pub placing_some : (f : Flags) (t : Lent) → placing_if (ok (Some f)) t ≡ placing (ok f) t
unfolding placing_if placing
placing_some f t = refl

pub placing_if_refused : (n : ℕ) (t : Lent) → placing_if (refused n) t ≡ kept n (blank t)
unfolding placing_if leaving
placing_if_refused n t = refl

module _ (f : Flags) (t : Lent) where
  pub placing_fits : length f.records ≤ length t.epochs → length f.records ≤ length t.counts
      → placing (ok f) t ≡ after (ok true) (in_tables f t)
  unfolding placing leaving
  placing_fits p q = simp (le-leb _ _ p, le-leb _ _ q)

  pub placing_short : room_for (length f.records) (length t.epochs) (length t.counts) ≡ false → placing (ok f) t ≡ refusing NoRoom (blank t)
  unfolding placing leaving
  placing_short h = rw h

-- ---- what is left behind an answer

module _ (a : Result (Option Head) Refusal) (t : Lent) where
  pub refused_left : (r : Refusal) → a ≡ Err r → shown a t ≡ refusing r (blank t)
  refused_left r e = ap (λ (b : Result (Option Head) Refusal). shown b t) e

  pub refused_placing : (x : Answer Flags) (r : Refusal) → a ≡ Err r → x ≡ refused (number r)
      → shown a t ≡ placing x t
  refused_placing x r e f = refused_left r e ∙ sym (ap (λ (y : Answer Flags). placing y t) f ∙ placing_refused (number r) t)

  -- the flags' records were placed from the start on
  pub placed_left : (f : Flags) (head : Head) (n : ℕ) (es₀ cs₀ : List ℕ) → a ≡ Ok (Some head) → head ≡ head_of f
      → Placed f.records 0 n es₀ cs₀ t.epochs t.counts → length f.records ≤ length es₀ → length f.records ≤ length cs₀
      → shown a t ≡ placing (ok f) (lending es₀ cs₀)
  placed_left f head n es₀ cs₀ ea eh p he hc =
      let rs : List At = f.records in
      let ee = p.epochs_set ∙ over_sets (epochs_of rs) es₀ (omega (arith, length_epochs_of rs)) in
      let ec = p.counts_set ∙ over_sets (counts_of rs) cs₀ (omega (arith, length_counts_of rs)) in
      ap (λ (b : Result (Option Head) Refusal). shown b t) ea
      ∙ (λ i. after (ok true) (holding (eh i) (ee i) (ec i)))
      ∙ sym (placing_fits f (lending es₀ cs₀) he hc)

-- ---- calls that write bytes

module _ (xs out : List ℕ) where
  pub writing_fits : length xs ≤ length out → writing xs out ≡ after (ok (length xs)) (over xs out)
  unfolding writing leaving
  writing_fits p = rw (le-leb _ _ p)

  pub writing_short : length out < length xs → writing xs out ≡ refusing NoRoom out
  unfolding writing leaving
  writing_short p = rw (lt-leb _ _ p)
