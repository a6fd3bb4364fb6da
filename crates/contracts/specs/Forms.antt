-- The forms of outcomes that the public calls have.
-- Assumes nothing.
use Rattle.std.specs.Prelude.{ℕ, ◌≡◌, Option, Result}
use Rattle.records_spec.specs.Outcomes.{Answer, refused, number_in, After, after, refusing}
use Rattle.records_spec.specs.Flags.{no_head, Lent}
use Rattle.records_spec.specs.Answers.{FlagsAfter, present_in, head_in, shown}
use Rattle.records_spec.specs.declared.head.Head.{Head}
use Rattle.records_spec.specs.declared.refusal.Refusal.{Refusal}
use Rattle.capi_spec.specs.Told.{flags_answer, head_answer, count_told, owner_id_told, sum_answer, split_answer, repair_answer}
use Rattle.capi_spec.specs.declared.types.CFlags.{CFlags}
use Rattle.capi_spec.specs.declared.types.CCount.{CCount}
use Rattle.capi_spec.specs.declared.types.COwner.{COwner}
use Rattle.capi_spec.specs.declared.types.CMaybeOwner.{CMaybeOwner}
use Rattle.capi_spec.specs.declared.types.CSum.{CSum}
use Rattle.capi_spec.specs.declared.types.CValueSplit.{CValueSplit}
use Rattle.capi_spec.specs.declared.types.CRepaired.{CRepaired}
use Rattle.contracts.specs.Contract.{Form}

-- no memory is lent
abbrev pub Nothing : Type 0
Nothing = Unit {0}

-- ---- the calls of the crates

-- a value: it is not refused, or a refusal is one of its cases
abbrev pub valued : (A : Type 0) → Form Nothing
valued A = record { Told = A; refusal = λ a. 0; alone = λ n a. ⊥; Outcome = A; outcome = λ a m. a }

-- an answer or a refusal, as t tells it
abbrev pub answering : {T A : Type 0} → (T → Answer A) → Form Nothing
answering {T} {A} t = record { Told = T; refusal = λ x. number_in (t x); alone = λ n x. t x ≡ refused n; Outcome = Answer A; outcome = λ x m. t x }

-- the same with lent memory
abbrev pub answering_with : {T A M : Type 0} → (T → Answer A) → Form M
answering_with {T} {A} {M} t =
    record { Told = T; refusal = λ x. number_in (t x); alone = λ n x. t x ≡ refused n; Outcome = After (Answer A) M; outcome = λ x m. after (t x) m }

-- flags, none or a refusal, whose head is all zeros, and two tables
abbrev pub flagged : Form Lent
flagged =
    record {
      Told = Result (Option Head) Refusal;
      refusal = λ a. number_in (present_in a);
      alone = λ n a. (present_in a ≡ refused n) × (head_in a ≡ no_head);
      Outcome = FlagsAfter;
      outcome = shown;
    }

-- ---- the calls for C, whose answers have a number of a refusal, or 0

-- an answer without lent memory; `refusing` is the one of a refusal
abbrev pub answering_c : {A : Type 0} → (A → ℕ) → (ℕ → A) → Form Nothing
answering_c {A} number refusing = record { Told = A; refusal = number; alone = λ n a. a ≡ refusing n; Outcome = A; outcome = λ a m. a }

-- the same with lent memory
abbrev pub answering_with_c : {A M : Type 0} → (A → ℕ) → (ℕ → A) → Form M
answering_with_c {A} {M} number refusing =
    record { Told = A; refusal = number; alone = λ n a. a ≡ refusing n; Outcome = After A M; outcome = λ a m. after a m }

-- flags and two tables; a head; a number, with lent memory and without
abbrev pub flagged_c : Form Lent
flagged_c = answering_with_c (λ (a : CFlags). a.refusal) (λ n. flags_answer (refused n) no_head)

abbrev pub head_c : Form Nothing
head_c = answering_c (λ (a : CFlags). a.refusal) (λ n. head_answer (refused n))

abbrev pub counted_c : {M : Type 0} → Form M
counted_c {M} = answering_with_c (λ (a : CCount). a.refusal) (λ n. count_told (refused n))

abbrev pub number_c : Form Nothing
number_c = answering_c (λ (a : CCount). a.refusal) (λ n. count_told (refused n))

-- whose owner; an owner or none
abbrev pub choice_c : Form Nothing
choice_c = answering_c (λ (a : COwner). a.refusal) (λ n. record { refusal = n; which = 0 })

abbrev pub owner_id_for_c : Form Nothing
owner_id_for_c = answering_c (λ (a : CMaybeOwner). a.refusal) (λ n. owner_id_told (refused n))

-- a removal's state; that and a number visited; how many bytes and lines
abbrev pub summed_for_c : {M : Type 0} → Form M
summed_for_c {M} = answering_with_c (λ (a : CSum). a.refusal) (λ n. sum_answer (refused n))

abbrev pub split_for_c : {M : Type 0} → Form M
split_for_c {M} = answering_with_c (λ (a : CValueSplit). a.refusal) (λ n. split_answer (refused n))

abbrev pub repaired_c : {M : Type 0} → Form M
repaired_c {M} = answering_with_c (λ (a : CRepaired). a.refusal) (λ n. repair_answer (refused n))
