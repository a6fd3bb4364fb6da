-- From records that were read to what a reader of kind 1 or 3 leaves: they stand in the lent tables, there are none, or they are refused.
-- Assumes nothing.
use Rattle.std.specs.Prelude.{Result, Ok, Err}
use Prim.Native.Nat.{ℕ, ◌+◌, ◌≤◌}
use native.Mathlib.Nat.{zero-add}
use native.Mathlib.Omega.{arith}
use mathlib.Core.Path.{◌≡◌, refl, sym, ap, ap₂, ◌∙◌}
use mathlib.Core.Bool.{Bool, true, false}
use Rattle.std.specs.Prelude.{Option, None, Some}
use mathlib.Core.List.{List, [], ◌∷◌}
use borrow.Author.Tests.{le-leb}
use lib.ListN.{length}
use Rattle.records_spec.specs.Tables.{At, epochs_of, counts_of}
use Rattle.records_spec.specs.Flags.{flags, multi, head_for, lending}
use Rattle.records_spec.specs.Answers.{shown, room_for, placing, placing_if}
use Rattle.records_spec.specs.Outcomes.{ok}
use Rattle.records_spec.specs.declared.refusal.Refusal.{Refusal}
use Rattle.records_spec.specs.declared.refusal.Refusal.TheVariants.{WrongSize, NoRoom}
use Rattle.records_spec.specs.declared.head.Kind.{Kind}
use Rattle.records_spec.specs.declared.head.Head.{Head}
use Rattle.records_spec.proofs.Answers.{placing_some, room_both_lem, placing_short, refused_left, placed_left}
use Rattle.codec_spec.specs.Bytes.{head_size}
use Rattle.codec_spec.specs.declared.judging.Fault.{Fault}
use Rattle.codec_spec.specs.Reading.{Parsed, Read, refused_at, with_records, base_in, owner_in, records_in, fault_at}
use Rattle.codec_spec.specs.Calls.{answer, deserialized_as}
use Rattle.codec_spec.specs.Inner.Blocks.{Filled, filled, filled_from}
use Rattle.codec_spec.proofs.Parsing.{rest}
use Rattle.codec_spec.proofs.Readings.{multi_long}
use Rattle.codec_spec.proofs.Settling.{left_refused}
use Rattle.codec_spec.proofs.Stacking.{filled_whole}

-- ---- by what was found

module _ (end base : ℕ) (owner : Option (List ℕ)) (es cs es' cs' : List ℕ) (a : Result (Option Head) Refusal) where
  -- a refusal, and the tables as they were
  refused_as : (x : Read) (r s : Refusal) (place : ℕ) → x ≡ refused_at s place → r ≡ s → es' ≡ es → cs' ≡ cs
      → a ≡ Err r
      → shown a (lending es' cs') ≡ placing_if (answer x) (lending es cs)
  refused_as x r s place q er ee ec ea =
      ap₂ (λ (x y : List ℕ). shown a (lending x y)) ee ec
      ∙ left_refused x es cs a s place (ea ∙ ap Err er) q

  module _ (s : Result ℕ Fault) where
    pub found_faulty : (f : Option Fault) (rs : List At) (g : Fault) → s ≡ Err g
        → filled s es' cs' ≡ filled_from end 0 f rs es cs
        → a ≡ Err g.refusal
        → shown a (lending es' cs') ≡ placing_if (answer (with_records end base owner f rs)) (lending es cs)
    found_faulty (Some x) rs g q e ea =
        let v : s ≡ Err x = ap (λ (y : Filled). y.scan) e in
        let w : g ≡ x = cc in
        refused_as (refused_at x.refusal x.place) g.refusal x.refusal x.place refl (ap (λ (y : Fault). y.refusal) w) (ap (λ (y : Filled). y.epochs) e)
        (ap (λ (y : Filled). y.counts) e) ea
    found_faulty None [] g q e ea =
        let h : room_for (0 + length {A = At} []) (length es) (length cs)
        ≡ true = simp (le-leb 0 (length es) (omega arith), le-leb 0 (length cs) (omega arith)) in
        let v : s ≡ Ok 0 = ap (λ (y : Filled). y.scan) (rw h at e) in
        let z : ◌≡◌ {A = ℕ} 0 1 = cc in
        absurd (omega arith)
    found_faulty None (x ∷ rs) g q e ea =
        by (room_for (0 + length (x ∷ rs)) (length es) (length cs)) refl ∙ sym (placing_some (flags base owner (x ∷ rs)) (lending es cs))
      where
        by : (b : Bool) → room_for (0 + length (x ∷ rs)) (length es) (length cs) ≡ b
            → shown a (lending es' cs') ≡ placing (ok (flags base owner (x ∷ rs))) (lending es cs)
        by true h =
            let v : s ≡ Ok (0 + length (x ∷ rs)) = ap (λ (y : Filled). y.scan) (rw h at e) in
            let z : ◌≡◌ {A = ℕ} 0 1 = cc in
            absurd (omega arith)
        by false h =
            let l : filled s es' cs' ≡ filled (Err (fault_at NoRoom end)) es cs = rw h at e in
            let v : s ≡ Err (fault_at NoRoom end) = ap (λ (y : Filled). y.scan) l in
            let w : g ≡ fault_at NoRoom end = cc in
            let er : g.refusal ≡ NoRoom = ap (λ (y : Fault). y.refusal) w in
            ap₂ (λ (x y : List ℕ). shown a (lending x y)) (ap (λ (y : Filled). y.epochs) l) (ap (λ (y : Filled). y.counts) l)
            ∙ refused_left a (lending es cs) NoRoom (ea ∙ ap Err er)
            ∙ sym (placing_short (flags base owner (x ∷ rs)) (lending es cs) (rw (zero-add (length (x ∷ rs))) at h))

    -- the records are placed: none, or some
    pub found_none : (f : Option Fault) (rs : List At) → s ≡ Ok 0 → filled s es' cs' ≡ filled_from end 0 f rs es cs
        → a ≡ Err WrongSize
        → shown a (lending es' cs') ≡ placing_if (answer (with_records end base owner f rs)) (lending es cs)
    unfolding epochs_of counts_of
    found_none f [] q e ea =
        let w = filled_whole end 0 [] es cs f s 0 es' cs' q e in
        refused_as (with_records end base owner f []) WrongSize WrongSize end
        (ap (λ (g : Option Fault). with_records end base owner g []) w.no_fault) refl w.epochs_set w.counts_set ea
    found_none f (x ∷ rs) q e ea = absurd (omega (arith, (filled_whole end 0 (x ∷ rs) es cs f s 0 es' cs' q e).count))

    pub found_some : (f : Option Fault) (rs : List At) (n : ℕ) (head : Head) → s ≡ Ok n → filled s es' cs' ≡ filled_from end 0 f rs es cs
        → (n ≡ 0 → ⊥)
        → head ≡ head_for base owner n → a ≡ Ok (Some head)
        → shown a (lending es' cs') ≡ placing_if (answer (with_records end base owner f rs)) (lending es cs)
    found_some f [] n head q e z eh ea = absurd (z (omega (arith, (filled_whole end 0 [] es cs f s n es' cs' q e).count)))
    found_some f (x ∷ rs) n head q e z eh ea =
        let w = filled_whole end 0 (x ∷ rs) es cs f s n es' cs' q e in
        let l : n ≡ length (x ∷ rs) = omega (arith, w.count) in
        let b = room_both_lem (0 + length (x ∷ rs)) (length es) (length cs) w.has_room in
        placed_left a (lending es' cs') (flags base owner (x ∷ rs)) head n es cs ea (eh ∙ ap (head_for base owner) l)
        (record { behind = w.count; epochs_set = w.epochs_set; counts_set = w.counts_set }) (omega (arith, b.0)) (omega (arith, b.1))
        ∙ sym (placing_some (flags base owner (x ∷ rs)) (lending es cs))
        ∙ sym (ap (λ (g : Option Fault). placing_if (answer (with_records end base owner g (x ∷ rs))) (lending es cs)) w.no_fault)

-- ---- flags of a kind whose records were read from the place size on, above base

module _ (k : Kind) (src es cs es' cs' : List ℕ) (size base : ℕ) (ez : size ≡ head_size k) (eb : base ≡ base_in k src) (m : multi k ≡ true)
    (h : size ≤ length src)
    (s : Result ℕ Fault) (e : filled s es' cs' ≡ filled_from (length src) 0 (rest src size base).fault (rest src size base).records es cs) (a : Result (Option Head) Refusal) where
  in_place : filled s es' cs' ≡ filled_from (length src) 0 (records_in k src).fault (records_in k src).records es cs
  in_place = e ∙ ap (λ (p : Parsed). filled_from (length src) 0 p.fault p.records es cs) (ap₂ (rest src) ez eb)

  as_records : placing_if (answer (with_records (length src) (base_in k src) (owner_in k src) (records_in k src).fault (records_in k src).records))
      (lending es cs) ≡ deserialized_as k src (lending es cs)
  as_records = ap (λ (x : Read). placing_if (answer x) (lending es cs)) (sym (multi_long k src m (omega arith)))

  pub multi_faulty : (f : Fault) → s ≡ Err f → a ≡ Err f.refusal
      → shown a (lending es' cs') ≡ deserialized_as k src (lending es cs)
  multi_faulty f q ea =
      found_faulty (length src) (base_in k src) (owner_in k src) es cs es' cs' a s (records_in k src).fault
      (records_in k src).records f q in_place ea ∙ as_records

  pub multi_none : (n : ℕ) → s ≡ Ok n → n ≡ 0 → a ≡ Err WrongSize
      → shown a (lending es' cs') ≡ deserialized_as k src (lending es cs)
  multi_none n q z ea =
      found_none (length src) (base_in k src) (owner_in k src) es cs es' cs' a s (records_in k src).fault (records_in k src).records
      (q ∙ ap Ok z) in_place ea ∙ as_records

  pub multi_some : (n : ℕ) (head : Head) → s ≡ Ok n → (n ≡ 0 → ⊥) → head ≡ head_for (base_in k src) (owner_in k src) n
      → a ≡ Ok (Some head)
      → shown a (lending es' cs') ≡ deserialized_as k src (lending es cs)
  multi_some n head q z eh ea =
      found_some (length src) (base_in k src) (owner_in k src) es cs es' cs' a s (records_in k src).fault
      (records_in k src).records n head q in_place z eh ea ∙ as_records
