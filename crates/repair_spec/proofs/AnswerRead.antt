-- What repairing answers: canonical bytes of the flags that are left, which reading accepts, or no bytes of no bytes. Assumes nothing.
use Rattle.std.specs.Prelude.{None, Some}
use Prim.Native.Nat.{ℕ, ◌+◌, ◌≤◌}
use mathlib.Core.Path.{◌≡◌, refl, sym, ap, ◌∙◌}
use mathlib.Core.Bool.{Bool, true, false, cond}
use Rattle.std.specs.Prelude.{Option}
use mathlib.Core.List.{List, [], ◌∷◌}
use borrow.Author.Tests.{leb-true}
use lib.Dec.{leb}
use lib.ListN.{length, get_or, drop}
use Rattle.fields_spec.specs.Theorems.{Bytes}
use Rattle.records_spec.specs.Flags.{owned, kind_of_byte}
use Rattle.records_spec.proofs.Answers.{refused_not_ok}
use Rattle.records_spec.specs.Outcomes.{refused, ok}
use Rattle.records_spec.specs.Refusals.{number}
use Rattle.records_spec.specs.declared.refusal.Refusal.TheVariants.{UnknownType, WrongSize}
use Rattle.records_spec.specs.declared.head.Kind.{Kind}
use Rattle.codec_spec.specs.Bytes.{head_size, bytes_of}
use Rattle.codec_spec.specs.Reading.{base_in}
use Rattle.codec_spec.specs.Theorems.{Canonical, ProperFlags}
use Rattle.codec_spec.proofs.RoundTrip.{bytes_drop, field_below}
use Rattle.codec_spec.proofs.Canonical.{base_written, owner_written, read_back}
use Rattle.repair_spec.specs.Olds.{Old}
use Rattle.repair_spec.specs.Repairing.{Repaired, olds_in, records_left, flags_left, lines_of, repaired_as, repaired_byte, repaired}
use Rattle.repair_spec.specs.Theorems.{Chain, ReadBack, none_read, flags_read}
use Rattle.repair_spec.proofs.Reading.{old_inv}
use Rattle.repair_spec.proofs.Chains.{read_chain}
use Rattle.repair_spec.proofs.Holding.{Short, map_canonical}

-- ---- what is left is proper

-- epochs that are read have 16 bits
pub chain_short : (k : Kind) (d : List ℕ) → Bytes d → (at : ℕ) (os : List Old) (c : Option ℕ) → Chain k d at os c → Short os
chain_short k d bs at [] c p = tt
chain_short k d bs at (o ∷ os) c p =
    let t = old_inv at (drop at d) o p.0.there in (
      rw (ap (λ (x : Old). x.epoch) t.is) (field_below 2 (drop at d) (bytes_drop at d bs) t.long),
      chain_short k d bs (at + o.size) os c p.1,
    )

-- WHAT IS LEFT IS CANONICAL
pub left_canonical : (k : Kind) (xs : List ℕ) → Bytes xs → Canonical (base_in k xs) (records_left k xs)
left_canonical k xs bs = map_canonical (base_in k xs) (olds_in k xs).records
    (chain_short k xs bs (head_size k) (olds_in k xs).records (olds_in k xs).cut (read_chain k xs))

-- THE FLAGS THAT ARE LEFT ARE PROPER
pub left_proper : (k : Kind) (xs : List ℕ) → Bytes xs → head_size k ≤ length xs → ProperFlags (flags_left k xs)
left_proper k xs bs h =
    record {
      base_fits = base_written k xs (owned k) refl bs h;
      owner_fits = owner_written k xs (owned k) refl bs h;
      records_fit = left_canonical k xs bs;
    }

-- ---- the answer

-- bytes of a kind were repaired
pub record Answers (xs : List ℕ) (r : Repaired) (k : Kind) : Type 0 where
  pub kind_is : kind_of_byte (get_or xs 0 0) ≡ Some k
  pub head_inside : head_size k ≤ length xs
  pub bytes_are : r.bytes ≡ bytes_of (flags_left k xs)
  pub lines_are : r.lines ≡ lines_of k xs

-- no bytes, or bytes of a kind
pub data Answered (xs : List ℕ) (r : Repaired) : Type 0 where
  no_bytes : xs ≡ [] → r ≡ record { bytes = []; lines = [] } → Answered xs r
  some_bytes : (k : Kind) → Answers xs r k → Answered xs r

as_answered : (k : Kind) (xs : List ℕ) (r : Repaired) → kind_of_byte (get_or xs 0 0) ≡ Some k → repaired_as k xs ≡ ok r → Answers xs r k
unfolding repaired_as
as_answered k xs r q = by (leb (head_size k) (length xs)) refl
  where
    by : (t : Bool) → leb (head_size k) (length xs) ≡ t
        → cond t (ok (record { bytes = bytes_of (flags_left k xs); lines = lines_of k xs })) (refused (number WrongSize)) ≡ ok r → Answers xs r k
    by true h e =
        let is : r ≡ record { bytes = bytes_of (flags_left k xs); lines = lines_of k xs } = cc in
        record {
          kind_is = q;
          head_inside = leb-true (head_size k) (length xs) h;
          bytes_are = ap (λ (x : Repaired). x.bytes) is;
          lines_are = ap (λ (x : Repaired). x.lines) is;
        }
    by false h e = absurd (refused_not_ok (number WrongSize) r e)

-- an answer is one of the two
pub answered : (xs : List ℕ) (r : Repaired) → repaired xs ≡ ok r → Answered xs r
unfolding repaired
answered [] r e = no_bytes refl (cc)
answered (b ∷ xs) r e = by (kind_of_byte b) refl
  where
    by : (x : Option Kind) → kind_of_byte b ≡ x → Answered (b ∷ xs) r
    by None q = absurd (refused_not_ok (number UnknownType) r (sym (ap (λ (x : Option Kind). repaired_byte x (b ∷ xs)) q) ∙ e))
    by (Some k) q = some_bytes k (as_answered k (b ∷ xs) r q (sym (ap (λ (x : Option Kind). repaired_byte x (b ∷ xs)) q) ∙ e))

-- THE ANSWER IS ALWAYS BYTES THAT READING ACCEPTS, OR NO BYTES, and what reading finds is the map that is left
pub answer_read : (xs : List ℕ) (r : Repaired) → Bytes xs → repaired xs ≡ ok r → ReadBack xs r
answer_read xs r bs e = by (answered xs r e)
  where
    by : Answered xs r → ReadBack xs r
    by (no_bytes x q) = none_read x (ap (λ (y : Repaired). y.bytes) q)
    by (some_bytes k a) = flags_read k a.kind_is (rw a.bytes_are (read_back (flags_left k xs) (left_proper k xs bs a.head_inside)))
