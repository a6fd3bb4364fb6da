-- What a judgement says of the bytes, and what a reader leaves that has no flags or refuses them.
-- Assumes nothing.
use Rattle.std.specs.Prelude.{Result, Ok, Err}
use Prim.Native.Nat.{ℕ, ◌≤◌}
use native.Mathlib.Decide.{dec_lt, ℕ_discrete}
use native.Mathlib.Omega.{arith}
use mathlib.Core.Path.{◌≡◌, refl, sym, ap, ◌∙◌}
use mathlib.Core.Bool.{Bool, true, false}
use Rattle.std.specs.Prelude.{Option, None, Some}
use mathlib.Core.List.{List, [], ◌∷◌}
use lib.ListN.{length, take, drop}
use Rattle.records_spec.specs.Tables.{At}
use Rattle.records_spec.specs.Refusals.{number}
use Rattle.records_spec.specs.Flags.{Flags, flags, owned, multi, kind_of_byte, agrees, head_of, lending, owner_length}
use Rattle.records_spec.specs.Answers.{shown, placing_if}
use Rattle.records_spec.specs.declared.refusal.Refusal.{Refusal}
use Rattle.records_spec.specs.declared.head.Head.{Head}
use Rattle.records_spec.specs.declared.head.Kind.{Kind}
use Rattle.records_spec.proofs.Answers.{placing_none, placing_if_refused}
use Rattle.codec_spec.specs.Bytes.{head_size, behind_kind, owned_head}
use Rattle.codec_spec.specs.declared.judging.Fault.{Fault}
use Rattle.codec_spec.specs.Reading.{Parsed, Read, no_flags, some_flags, refused_at, with_records, base_in, owner_in, records_in, flags_in, fault_at}
use Rattle.codec_spec.specs.Reading.{read_as, read_byte, read}
use Rattle.codec_spec.specs.Calls.{judgement, answer}
use Rattle.codec_spec.specs.Inner.Blocks.{Complete}
use Rattle.codec_spec.proofs.Parsing.{rest_end}
use Rattle.codec_spec.proofs.Readings.{owned_size, multi_short, multi_long, single_right, single_wrong, agrees_multi, agrees_single}

-- ---- what a judgement says of the bytes

pub judged_absent : (x : Read) → judgement x ≡ Ok None → x ≡ no_flags
judged_absent no_flags e = refl
judged_absent (some_flags f) e = cc
judged_absent (refused_at r p) e = cc

pub judged_refused : (x : Read) (f : Fault) → judgement x ≡ Err f → x ≡ refused_at f.refusal f.place
judged_refused no_flags f e = cc
judged_refused (some_flags g) f e = cc
judged_refused (refused_at s p) f e = let g : fault_at s p ≡ f = cc in ap (λ (y : Fault). refused_at y.refusal y.place) g

pub judged_present : (x : Read) (h : Head) → judgement x ≡ Ok (Some h) → (f : Flags) × (x ≡ some_flags f) × (h ≡ head_of f)
judged_present no_flags h e = let z : ◌≡◌ {A = ℕ} 0 1 = cc in absurd (omega arith)
judged_present (some_flags f) h e = (f, refl, cc)
judged_present (refused_at r p) h e = let z : ◌≡◌ {A = ℕ} 0 1 = cc in absurd (omega arith)

-- ---- flags that were read stand in the bytes, all their records without a fault

pub record Whole (k : Kind) (xs : List ℕ) (f : Flags) : Type 0 where
  pub complete : Complete k xs (length (records_in k xs).records)
  pub agrees_kind : agrees k (length (records_in k xs).records) ≡ true
  pub in_bytes : f ≡ flags_in k xs

pub no_flags_lem : (f : Flags) → no_flags ≡ some_flags f → ⊥
no_flags_lem f e = let z : ◌≡◌ {A = ℕ} 0 1 = cc in omega arith

pub no_refusal : (r : Refusal) (p : ℕ) (f : Flags) → refused_at r p ≡ some_flags f → ⊥
no_refusal r p f e = let z : ◌≡◌ {A = ℕ} 0 1 = cc in omega arith

-- what flags with records say of these
record With (base : ℕ) (owner : Option (List ℕ)) (ft : Option Fault) (rs : List At) (f : Flags) : Type 0 where
  pub no_fault : ft ≡ None
  pub some_records : 1 ≤ length rs
  pub are_flags : f ≡ flags base owner rs

with_flags : (end base : ℕ) (owner : Option (List ℕ)) (ft : Option Fault) (rs : List At) (f : Flags) → with_records end base owner ft rs ≡ some_flags f
    → With base owner ft rs f
with_flags end base owner (Some x) rs f e = absurd (no_refusal _ _ f e)
with_flags end base owner None [] f e = absurd (no_refusal _ _ f e)
with_flags end base owner None (r ∷ rs) f e = record { no_fault = refl; some_records = omega arith; are_flags = cc }

pub read_whole : (k : Kind) (xs : List ℕ) (f : Flags) → read_as k xs ≡ some_flags f → Whole k xs f
read_whole k xs f e = by (multi k) refl
  where
    by : (b : Bool) → multi k ≡ b → Whole k xs f
    by true m =
        elim (dec_lt (length xs) (head_size k)) [
          | yes h ↦ absurd (no_refusal _ _ f (sym (multi_short k xs m h) ∙ e))
          | no h ↦
              let w = with_flags (length xs) (base_in k xs) (owner_in k xs) (records_in k xs).fault (records_in k xs).records f
              (sym (multi_long k xs m (omega arith)) ∙ e) in
              record {
                complete = record { head_inside = omega arith; no_fault = w.no_fault; all_there = refl };
                agrees_kind = agrees_multi k _ m w.some_records;
                in_bytes = w.are_flags;
              }
        ]
    by false m =
        elim (ℕ_discrete (length xs) (head_size k)) [
          | yes h ↦
              let z = rest_end xs (head_size k) (base_in k xs) (omega arith) in
              let g : some_flags (flags (base_in k xs) (owner_in k xs) []) ≡ some_flags f = sym (single_right k xs m h) ∙ e in
              let i : flags (base_in k xs) (owner_in k xs) [] ≡ f = cc in
              record {
                complete = record { head_inside = omega arith; no_fault = ap (λ (p : Parsed). p.fault) z; all_there = refl };
                agrees_kind = ap (λ (p : Parsed). agrees k (length p.records)) z ∙ agrees_single k m;
                in_bytes = sym i ∙ ap (λ (p : Parsed). flags (base_in k xs) (owner_in k xs) p.records) (sym z);
              }
          | no h ↦ absurd (no_refusal _ _ f (sym (single_wrong k xs m h) ∙ e))
        ]

-- flags that were read are those of some kind
pub flags_whole : (xs : List ℕ) (f : Flags) → read xs ≡ some_flags f → (k : Kind) × Whole k xs f
unfolding read
flags_whole [] f e = absurd (no_flags_lem f e)
flags_whole (b ∷ xs) f e = by (kind_of_byte b) e
  where
    by : (k : Option Kind) → read_byte k (b ∷ xs) ≡ some_flags f → (k : Kind) × Whole k (b ∷ xs) f
    by (Some k) e = (k, read_whole k (b ∷ xs) f e)
    by None e = absurd (no_refusal _ _ f e)

no_some : (a : List ℕ) → ◌≡◌ {A = Option (List ℕ)} None (Some a) → ⊥
no_some a e = let z : ◌≡◌ {A = ℕ} 0 1 = cc in omega arith

-- their owner is what stands behind the kind
pub owner_behind : (xs : List ℕ) (f : Flags) (a : List ℕ) → read xs ≡ some_flags f → f.owner ≡ Some a
    → (owned_head ≤ length xs) × (a ≡ take owner_length (drop behind_kind xs))
owner_behind xs f a e o = by (owned k) refl
  where
    k : Kind
    k = (flags_whole xs f e).0

    w : Whole k xs f
    w = (flags_whole xs f e).1

    in_bytes : owner_in k xs ≡ Some a
    in_bytes = sym (ap (λ (g : Flags). g.owner) w.in_bytes) ∙ o

    by : (b : Bool) → owned k ≡ b → (owned_head ≤ length xs) × (a ≡ take owner_length (drop behind_kind xs))
    by true h =
        let i : Some (take owner_length (drop behind_kind xs)) ≡ Some a = rw h at in_bytes in
        (owned_size k (length xs) h w.complete.head_inside, cc)
    by false h = absurd (no_some a (rw h at in_bytes))

-- ---- what a reader leaves

-- no flags, or a refusal
module _ (x : Read) (es cs : List ℕ) (a : Result (Option Head) Refusal) where
  pub left_absent : a ≡ Ok None → x ≡ no_flags → shown a (lending es cs) ≡ placing_if (answer x) (lending es cs)
  left_absent ea e = ap (λ (b : Result (Option Head) Refusal). shown b (lending es cs)) ea
      ∙ sym (ap (λ (y : Read). placing_if (answer y) (lending es cs)) e ∙ placing_none (lending es cs))

  pub left_refused : (r : Refusal) (place : ℕ) → a ≡ Err r → x ≡ refused_at r place
      → shown a (lending es cs) ≡ placing_if (answer x) (lending es cs)
  left_refused r place ea e =
      ap (λ (b : Result (Option Head) Refusal). shown b (lending es cs)) ea
      ∙ sym (ap (λ (y : Read). placing_if (answer y) (lending es cs)) e ∙ placing_if_refused (number r) (lending es cs))
