-- What a reader answered and left, as text: its head and tables are those of the flags that were read. By cases of what was read.
-- Assumes nothing.
use Prim.Native.Nat.{ℕ, ◌≤◌}
use native.Mathlib.Omega.{arith}
use mathlib.Core.Path.{◌≡◌, refl, ap₂, ◌∙◌, ap}
use mathlib.Core.List.{List}
use lib.ListN.{length}
use Rattle.records_spec.specs.Refusals.{number}
use Rattle.records_spec.specs.Tables.{epochs_of, counts_of, over}
use Rattle.records_spec.specs.Flags.{Flags, head_of, no_head, lending, Lent}
use Rattle.records_spec.specs.Answers.{head_in, shown, placing_if}
use Rattle.records_spec.specs.declared.head.Head.{Head}
use Rattle.records_spec.specs.declared.refusal.Refusal.{Refusal}
use Rattle.std.specs.Prelude.{Option, None, Some, Result, Ok, Err}
use Rattle.records_spec.proofs.Tables.{length_epochs_of, length_counts_of, records_back, over_first, over-holds}
use Rattle.records_spec.proofs.Proper.{owner_head}
use Rattle.records_spec.proofs.Answers.{placing_none, placing_some, placing_if_refused, placing_fits}
use Rattle.records_spec.proofs.Only.{shown_only}
use Rattle.codec_spec.specs.Reading.{Read, no_flags, some_flags, refused_at, read}
use Rattle.codec_spec.specs.Calls.{answer, deserialized}
use Rattle.listing_spec.specs.Text.{flags_text, listing}
use Rattle.listing_spec.specs.Inner.Heads.{head_text, outcome_text, Listable}
use Rattle.listing_spec.specs.Listed.{most_listed, record_places}
use Rattle.listing_spec.proofs.Bounds.{flags_few}

-- flags by their head and their records' tables
head_flags : (f : Flags) → head_text (head_of f) (epochs_of f.records) (counts_of f.records) ≡ flags_text f
head_flags f = rw (owner_head f, records_back f.records, length_epochs_of f.records)

-- flags that stand at the start of two tables
placed_text : (f : Flags) (es cs : List ℕ)
    → outcome_text (Ok (Some (head_of f))) (over (epochs_of f.records) es) (over (counts_of f.records) cs) ≡ flags_text f
placed_text f es cs =
    let rs = f.records in
    ap₂ (head_text (head_of f)) (over_first (epochs_of rs) es (length rs) (length_epochs_of rs))
    (over_first (counts_of rs) cs (length rs) (length_counts_of rs))
    ∙ head_flags f

placed_held : (f : Flags) (es cs : List ℕ) → length f.records ≤ record_places
    → Listable (head_of f) (over (epochs_of f.records) es) (over (counts_of f.records) cs)
placed_held f es cs h =
    let rs = f.records in
    record {
      few = h;
      epochs_long = omega (arith, over-holds (epochs_of rs) es, length_epochs_of rs);
      counts_long = omega (arith, over-holds (counts_of rs) cs, length_counts_of rs);
    }

-- an answer with its tables, as the functions below ask for it
pub record Telling (x : Read) (a : Result (Option Head) Refusal) (es cs : List ℕ) : Type 0 where
  pub text : outcome_text a es cs ≡ listing (answer x)
  pub held : Listable (head_in a) es cs

telling_same : {x : Read} {a b : Result (Option Head) Refusal} {es cs es' cs' : List ℕ} → (a ≡ b) × (lending es cs ≡ lending es' cs') → Telling x b es' cs'
    → Telling x a es cs
telling_same {x} {a} {b} {es} {cs} {es'} {cs'} (p, q) t =
    let u : Telling x a es' cs' = rw p t in
    rw (ap (λ (l : Lent). l.epochs) q, ap (λ (l : Lent). l.counts) q) u

no_records : (es cs : List ℕ) → Listable no_head es cs
no_records es cs = record { few = omega arith; epochs_long = omega arith; counts_long = omega arith }

module _ (src es cs es₀ cs₀ : List ℕ) (a : Result (Option Head) Refusal) (short : length src ≤ most_listed)
    (room : (length es₀ ≡ record_places) × (length cs₀ ≡ record_places)) where
  telling_read : (x : Read) → read src ≡ x → shown a (lending es cs) ≡ placing_if (answer x) (lending es₀ cs₀) → Telling x a es cs
  telling_read no_flags q e =
      telling_same (shown_only a (Ok None) (lending es cs) (lending es₀ cs₀) _
      (e ∙ placing_none (lending es₀ cs₀)) refl)
      (record { text = refl; held = no_records es₀ cs₀ })
  telling_read (refused_at r place) q e =
      telling_same (shown_only a (Err r) (lending es cs) (lending es₀ cs₀) _
      (e ∙ placing_if_refused (number r) (lending es₀ cs₀)) refl)
      (record { text = refl; held = no_records es₀ cs₀ })
  telling_read (some_flags f) q e =
      let n = flags_few src f short q in
      telling_same
      (shown_only a (Ok (Some (head_of f))) (lending es cs)
      (lending (over (epochs_of f.records) es₀) (over (counts_of f.records) cs₀)) _
      (e ∙ placing_some f (lending es₀ cs₀) ∙ placing_fits f (lending es₀ cs₀) (omega (arith, room.0)) (omega (arith, room.1)))
      refl)
      (record { text = placed_text f es₀ cs₀; held = placed_held f es₀ cs₀ n })

  -- so the functions on answers list what was read
  pub telling : shown a (lending es cs) ≡ deserialized src (lending es₀ cs₀) → Telling (read src) a es cs
  telling = telling_read (read src) refl
