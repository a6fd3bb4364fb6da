-- The round trip of the calls: what `serialize` wrote of proper flags is read back as these flags. Assumes nothing.
use Prim.Native.Nat.{ℕ, zero, suc, ◌≤◌, ◌<◌}
use native.Mathlib.Decide.{dec_lt}
use native.Mathlib.Omega.{arith}
use mathlib.Core.Path.{◌≡◌, refl, sym, ap, ◌∙◌}
use mathlib.Core.Bool.{Bool, true, false}
use mathlib.Core.List.{List, [], ◌∷◌}
use lib.ListN.{length, get_or, take}
use Rattle.fields_spec.specs.Varint.{largest}
use Rattle.fields_spec.specs.Theorems.{Bytes}
use Rattle.records_spec.specs.Tables.{records_of, ascending, over}
use Rattle.records_spec.specs.Flags.{owned, owner_if, flags_of, proper, holding, Held, owner_length}
use Rattle.records_spec.specs.Answers.{BytesAfter, writing}
use Rattle.records_spec.specs.Outcomes.{Answer, ok}
use Rattle.records_spec.specs.Refusals.{number}
use Rattle.records_spec.specs.declared.refusal.Refusal.TheVariants.{NoRoom, BadTable}
use Rattle.records_spec.specs.declared.head.Head.{Head}
use Rattle.records_spec.proofs.Tables.{over_first}
use Rattle.records_spec.proofs.Rising.{asc_head, asc_tail}
use Rattle.records_spec.proofs.Proper.{proper_inv}
use Rattle.records_spec.proofs.Answers.{refused_not_ok, writing_fits, writing_short}
use Rattle.codec_spec.specs.Bytes.{bytes_of}
use Rattle.codec_spec.specs.Reading.{some_flags, read}
use Rattle.codec_spec.specs.Calls.{serialized, size_of}
use Rattle.codec_spec.specs.Theorems.{Canonical, OwnerFits, unowned, owner, owns, ProperFlags, InRange}
use Rattle.codec_spec.proofs.Writings.{serialized_proper, serialized_improper, size_proper}
use Rattle.codec_spec.proofs.Canonical.{read_back}

canonical : (n base : ℕ) (es cs : List ℕ) → ((i : ℕ) → get_or es i 0 < 65536) → ((i : ℕ) → get_or cs i 0 ≤ largest) → ascending base (take n es) ≡ true
    → Canonical base (records_of (take n es) (take n cs))
unfolding records_of
canonical zero base es cs he hc a = tt
canonical (suc n) base [] cs he hc a = tt
canonical (suc n) base (e ∷ es) [] he hc a = tt
canonical (suc n) base (e ∷ es) (c ∷ cs) he hc a =
    (asc_head base e (take n es) a, he 0, hc 0, canonical n e es cs (λ i. he (suc i)) (λ i. hc (suc i)) (asc_tail base e (take n es) a))

owner_fits : (b : Bool) (o : List ℕ) → length o ≡ owner_length → Bytes o → OwnerFits (owns (owner_if b o)) (owner_if b o)
owner_fits true o n bs = owner o n bs
owner_fits false o n bs = unowned

-- a proper head and its tables stand for proper flags
pub proper_flags : (h : Head) (es cs : List ℕ) → InRange h es cs → proper (holding h es cs) ≡ true → ProperFlags (flags_of (holding h es cs))
proper_flags h es cs r p =
    record {
      base_fits = r.base_fits;
      owner_fits = owner_fits (owned h.kind) h.owner r.owner_long r.owner_bytes_lem;
      records_fit = canonical h.records h.base es cs r.epochs_fit r.counts_fit (proper_inv h es cs p).ascends;
    }

-- a number of bytes that was answered is that of the bytes, and they had room
record Fitted (xs out : List ℕ) (n : ℕ) : Type 0 where
  pub count : n ≡ length xs
  pub room : length xs ≤ length out

fitted : (xs out : List ℕ) (n : ℕ) → (writing xs out).answer ≡ ok n → Fitted xs out n
fitted xs out n e =
    elim (dec_lt (length out) (length xs)) [
      | yes h ↦ absurd (refused_not_ok (number NoRoom) n (sym (ap (λ (w : BytesAfter). w.answer) (writing_short xs out h)) ∙ e))
      | no h ↦
          let q : ◌≡◌ {A = Answer ℕ} (ok (length xs)) (ok n) = sym (ap (λ (w : BytesAfter). w.answer) (writing_fits xs out (omega arith))) ∙ e in
          let c : length xs ≡ n = cc in
          record { count = sym c; room = omega arith }
    ]

-- flags that were written, n bytes of them
module _ (f : Held) (out : List ℕ) (n : ℕ) (e : (serialized f out).answer ≡ ok n) where
  were_proper : proper f ≡ true
  were_proper = by (proper f) refl
    where
      by : (b : Bool) → proper f ≡ b → proper f ≡ true
      by true q = q
      by false q = absurd (refused_not_ok (number BadTable) n (sym (ap (λ (w : BytesAfter). w.answer) (serialized_improper f out q)) ∙ e))

  were_fitted : Fitted (bytes_of (flags_of f)) out n
  were_fitted = fitted (bytes_of (flags_of f)) out n (sym (ap (λ (w : BytesAfter). w.answer) (serialized_proper f out were_proper)) ∙ e)

  -- `serialized_size` IS THE LENGTH WRITTEN
  pub size_written : size_of f ≡ ok n
  size_written = size_proper f were_proper ∙ ap ok (sym were_fitted.count)

  -- WHAT WAS WRITTEN IS READ BACK
  pub written_read : InRange f.head f.epochs f.counts → read (take n (serialized f out).lent) ≡ some_flags (flags_of f)
  written_read r =
      let xs : List ℕ = bytes_of (flags_of f) in
      let o : (serialized f out).lent ≡ over xs out =
      ap (λ (w : BytesAfter). w.lent) (serialized_proper f out were_proper ∙ writing_fits xs out were_fitted.room) in
      ap (λ (l : List ℕ). read (take n l)) o
      ∙ ap read (over_first xs out n (sym were_fitted.count))
      ∙ read_back (flags_of f) (proper_flags f.head f.epochs f.counts r were_proper)
