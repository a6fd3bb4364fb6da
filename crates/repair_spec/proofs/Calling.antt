-- Which case of the definition the call's first tests lead to: what reading finds, the kind byte, and bytes that end before the head
-- does. Assumes nothing.
use Prim.Native.Nat.{ℕ, ◌≤◌, ◌<◌}
use native.Mathlib.Omega.{arith}
use mathlib.Core.Path.{◌≡◌, refl, sym, ap, ◌∙◌}
use mathlib.Core.Bool.{Bool, true, false, cond}
use Rattle.std.specs.Prelude.{Option, None, Some}
use mathlib.Core.List.{List, [], ◌∷◌}
use borrow.Author.Tests.{le-leb, lt-leb}
use lib.Dec.{leb, eqb}
use lib.ListN.{length, get_or}
use Rattle.fields_spec.specs.Writing.{Put}
use Rattle.fields_spec.specs.Theorems.{Bytes}
use Rattle.records_spec.specs.Flags.{Flags, flags, multi, kind_of_byte}
use Rattle.records_spec.specs.Tables.{At, over}
use Rattle.records_spec.specs.Outcomes.{Answer, ok, after}
use Rattle.records_spec.specs.Refusals.{number}
use Rattle.records_spec.specs.declared.head.Kind.{Kind}
use Rattle.records_spec.specs.declared.refusal.Refusal.{Refusal}
use Rattle.records_spec.specs.declared.refusal.Refusal.TheVariants.{UnknownType, WrongSize, NoRoom}
use Rattle.records_spec.proofs.Tables.{over_sets}
use Rattle.codec_spec.specs.Bytes.{head_size}
use Rattle.codec_spec.specs.declared.judging.Fault.{Fault}
use Rattle.codec_spec.specs.Reading.{no_flags, some_flags, refused_at, with_records, base_in, owner_in, records_in, read_as, read_byte, read}
use Rattle.repair_spec.specs.Repairing.{Repaired, repaired, repaired_as, repaired_byte}
use Rattle.repair_spec.specs.Calls.{offsets_of, changes_of, repaired_into, placing_repair, repair_lent}
use Rattle.std.specs.Prelude.{Ok, Err}
use Rattle.repair_spec.specs.declared.repairing.Sizes.{Sizes}
use Rattle.records_spec.specs.Outcomes.{answered}
use Rattle.repair_spec.proofs.CanonicalBack.{canonical_back, nothing_back}
use Rattle.repair_spec.proofs.Finishing.{after_placed, after_long, after_refused}

-- bytes that reading refuses are some
pub refused_some : (xs : List ℕ) (r : Refusal) (place : ℕ) → read xs ≡ refused_at r place → 0 < length xs
unfolding read
refused_some [] r place e = let z : ◌≡◌ {A = ℕ} 0 1 = cc in absurd (omega arith)
refused_some (x ∷ xs) r place e = omega arith

-- bytes of a kind are flags or refused
as_flags : (k : Kind) (xs : List ℕ) → read_as k xs ≡ no_flags → ⊥
unfolding read_as
as_flags k xs = by (multi k) (leb (head_size k) (length xs)) (eqb (length xs) (head_size k)) (records_in k xs).fault (records_in k xs).records
  where
    end : ℕ
    end = length xs

    by : (b c d : Bool) (f : Option Fault) (rs : List At)
        → cond b (cond c (with_records end (base_in k xs) (owner_in k xs) f rs) (refused_at WrongSize end))
        (cond d (some_flags (flags (base_in k xs) (owner_in k xs) [])) (refused_at WrongSize end)) ≡ no_flags → ⊥
    by true true d (Some f) rs e = let z : ◌≡◌ {A = ℕ} 0 1 = cc in omega arith
    by true true d None [] e = let z : ◌≡◌ {A = ℕ} 0 1 = cc in omega arith
    by true true d None (r ∷ rs) e = let z : ◌≡◌ {A = ℕ} 0 1 = cc in omega arith
    by true false d f rs e = let z : ◌≡◌ {A = ℕ} 0 1 = cc in omega arith
    by false c true f rs e = let z : ◌≡◌ {A = ℕ} 0 1 = cc in omega arith
    by false c false f rs e = let z : ◌≡◌ {A = ℕ} 0 1 = cc in omega arith

-- where reading finds no flags, there are no bytes
nothing_read : (xs : List ℕ) → read xs ≡ no_flags → repaired xs ≡ ok (record { bytes = []; lines = [] })
unfolding read
nothing_read [] e = nothing_back
nothing_read (x ∷ xs) e = absurd (by (kind_of_byte x) e)
  where
    by : (b : Option Kind) → read_byte b (x ∷ xs) ≡ no_flags → ⊥
    by (Some k) q = as_flags k (x ∷ xs) q
    by None q = let z : ◌≡◌ {A = ℕ} 0 1 = cc in omega arith

module _ (xs out os cs : List ℕ) where
  pub call_nothing : read xs ≡ no_flags → after (answered (Ok (record { bytes = 0; lines = 0 }))) (repair_lent out os cs) ≡ repaired_into xs (repair_lent out os cs)
  unfolding offsets_of changes_of
  call_nothing e =
      sym (ap (λ (a : Answer Repaired). placing_repair a (repair_lent out os cs)) (nothing_read xs e)
      ∙ after_placed (record { bytes = []; lines = [] }) out os cs (omega arith)
      (simp (le-leb 0 (length os) (omega arith), le-leb 0 (length cs) (omega arith))))

  pub call_canonical : (f : Flags) → Bytes xs → read xs ≡ some_flags f
      → placing_repair (ok (record { bytes = xs; lines = [] })) (repair_lent out os cs) ≡ repaired_into xs (repair_lent out os cs)
  call_canonical f bs e = sym (ap (λ (a : Answer Repaired). placing_repair a (repair_lent out os cs)) (canonical_back xs f bs e))

  by_byte : 0 < length xs → repaired xs ≡ repaired_byte (kind_of_byte (get_or xs 0 0)) xs
  unfolding repaired
  by_byte = by xs
    where
      by : (xs : List ℕ) → 0 < length xs → repaired xs ≡ repaired_byte (kind_of_byte (get_or xs 0 0)) xs
      by [] h = absurd (omega arith)
      by (x ∷ xs) h = refl

  module _ (h : 0 < length xs) where
    pub call_known : (k : Kind) → kind_of_byte (get_or xs 0 0) ≡ Some k
        → placing_repair (repaired_as k xs) (repair_lent out os cs) ≡ repaired_into xs (repair_lent out os cs)
    call_known k e = sym (ap (λ (a : Answer Repaired). placing_repair a (repair_lent out os cs))
        (by_byte h ∙ ap (λ (b : Option Kind). repaired_byte b xs) e))

    pub call_unknown : kind_of_byte (get_or xs 0 0) ≡ None
        → after (answered {A = Sizes} (Err UnknownType)) (repair_lent out os cs) ≡ repaired_into xs (repair_lent out os cs)
    call_unknown e =
        sym (ap (λ (a : Answer Repaired). placing_repair a (repair_lent out os cs)) (by_byte h ∙ ap (λ (b : Option Kind). repaired_byte b xs) e)
        ∙ after_refused (number UnknownType) out os cs)

  pub call_short : (k : Kind) → length xs < head_size k
      → after (answered {A = Sizes} (Err WrongSize)) (repair_lent out os cs) ≡ placing_repair (repaired_as k xs) (repair_lent out os cs)
  unfolding repaired_as
  call_short k h = rw (lt-leb (head_size k) (length xs) h) (sym (after_refused (number WrongSize) out os cs))

-- ---- canonical bytes

module _ (xs out os cs : List ℕ) where
  pub kept_long : length out < length xs → after (answered {A = Sizes} (Err NoRoom)) (repair_lent out os cs)
      ≡ placing_repair (ok (record { bytes = xs; lines = [] })) (repair_lent out os cs)
  kept_long h = sym (after_long (record { bytes = xs; lines = [] }) out os cs h)

  pub kept_whole : (n : ℕ) (out' : List ℕ) → length xs ≤ length out → Put xs 0 n out out'
      → after (answered (Ok (record { bytes = n; lines = 0 }))) (repair_lent out' os cs) ≡ placing_repair (ok (record { bytes = xs; lines = [] })) (repair_lent out os cs)
  unfolding offsets_of changes_of
  kept_whole n out' h p =
      let e : n ≡ length xs = omega (arith, p.behind) in
      let o : out' ≡ over xs out = p.wrote ∙ over_sets xs out h in
      (λ z. after (answered (Ok (record { bytes = (e z); lines = 0 }))) (repair_lent (o z) os cs))
      ∙ sym (after_placed (record { bytes = xs; lines = [] }) out os cs h
      (simp (le-leb 0 (length os) (omega arith), le-leb 0 (length cs) (omega arith))))
