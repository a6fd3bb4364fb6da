-- Reading accepts exactly what writing gives: flags that are written are read back, for all kinds, and what is read is written again,
-- byte for byte. Assumes nothing.
use Prim.Native.Nat.{ℕ, suc, ◌≤◌, ◌<◌}
use native.Mathlib.Decide.{ℕ_discrete}
use native.Mathlib.Omega.{arith}
use mathlib.Core.Path.{◌≡◌, refl, sym, ap, ap₂, ◌∙◌}
use mathlib.Core.Bool.{Bool, true, false, cond}
use Rattle.std.specs.Prelude.{Option, None, Some}
use mathlib.Core.List.{List, [], ◌∷◌, ◌++◌}
use borrow.Author.Tests.{eq-eqb, ne_eqb}
use lib.Dec.{eqb}
use lib.ListN.{length, take, drop, length-take, length-drop, take-append-drop}
use lib.Seq.{take-add}
use Rattle.fields_spec.specs.Big.{big, said}
use Rattle.fields_spec.specs.Theorems.{Bytes}
use Rattle.records_spec.specs.Tables.{At}
use Rattle.records_spec.specs.Flags.{Flags, flags, owned, multi, type_byte, kind_of, kind_of_byte, owner_length}
use Rattle.records_spec.specs.declared.head.Kind.{Kind}
use Rattle.records_spec.specs.declared.head.Kind.TheVariants.{SingleEpoch, MultiEpoch, SingleEpochOwned, MultiEpochOwned}
use Rattle.records_spec.proofs.Proper.{kind_agrees}
use Rattle.codec_spec.specs.Bytes.{records_bytes, head_bytes, behind_kind, behind_owner, unowned_head, owned_head, head_size, bytes_of}
use Rattle.codec_spec.specs.Reading.{Parsed, parse, some_flags, with_records, base_in, owner_in, records_in, flags_in, read_as, read_byte, read}
use Rattle.codec_spec.specs.Theorems.{OwnerFits, unowned, owner, owns, ProperFlags, AcceptedBytes}
use Rattle.codec_spec.proofs.Readings.{multi_long, single_right}
use Rattle.codec_spec.proofs.Settling.{no_flags_lem, read_whole, no_refusal}
use Rattle.codec_spec.proofs.RoundTrip.{records_back, records_reread, head_back, bytes_drop, bytes_take}
use Rattle.codec_spec.proofs.RoundTrip.{field_back, field_below}

-- ---- proper flags

owned_if : (b : Bool) (o : Option (List ℕ)) → owned (cond b (kind_of o 0) (kind_of o 1)) ≡ owns o
owned_if true None = refl
owned_if true (Some o) = refl
owned_if false None = refl
owned_if false (Some o) = refl

kind_if : (o : Option (List ℕ)) (n : ℕ) → kind_of o n ≡ cond (eqb n 0) (kind_of o 0) (kind_of o 1)
kind_if None n = refl
kind_if (Some o) n = refl

owned_kind : (o : Option (List ℕ)) (n : ℕ) → owned (kind_of o n) ≡ owns o
owned_kind o n = ap owned (kind_if o n) ∙ owned_if (eqb n 0) o

single_kind : (o : Option (List ℕ)) → multi (kind_of o 0) ≡ false
single_kind None = refl
single_kind (Some o) = refl

multi_kind : (o : Option (List ℕ)) (n : ℕ) → multi (kind_of o (suc n)) ≡ true
multi_kind None n = rw (ne_eqb (suc n) 0 (λ e. omega arith))
multi_kind (Some o) n = rw (ne_eqb (suc n) 0 (λ e. omega arith))

-- ---- what is written is read

byte_kind : (k : Kind) → kind_of_byte (type_byte k) ≡ Some k
byte_kind SingleEpoch = refl
byte_kind MultiEpoch = refl
byte_kind SingleEpochOwned = refl
byte_kind MultiEpochOwned = refl

-- flags of their own kind
as_back : (base : ℕ) (o : Option (List ℕ)) (rs : List At) → ProperFlags (flags base o rs)
    → read_as (kind_of o (length rs)) (head_bytes (kind_of o (length rs)) o base ++ records_bytes rs) ≡ some_flags (flags base o rs)
unfolding records_bytes
as_back base o [] p =
    let k : Kind = kind_of o 0 in
    let xs : List ℕ = head_bytes k o base ++ [] in
    let h = head_back k (owns o) o base [] (owned_kind o 0) p.owner_fits p.base_fits in
    single_right k xs (single_kind o) (omega (arith, h.long))
    ∙ ap₂ (λ (b : ℕ) (w : Option (List ℕ)). some_flags (flags b w [])) h.base_is h.owner_is
as_back base o (r ∷ rs) p =
    let k : Kind = kind_of o (suc (length rs)) in
    let ys : List ℕ = records_bytes (r ∷ rs) in
    let xs : List ℕ = head_bytes k o base ++ ys in
    let h = head_back k (owns o) o base ys (owned_kind o (suc (length rs))) p.owner_fits p.base_fits in
    let q : records_in k xs ≡ record { fault = None; records = r ∷ rs } =
    ap₂ (λ (b : ℕ) (l : List ℕ). parse (head_size k) 0 b l) h.base_is h.behind ∙ records_back (head_size k) base (r ∷ rs) p.records_fit in
    multi_long k xs (multi_kind o (length rs)) (omega (arith, h.long))
    ∙ ap (λ (q : Parsed). with_records (length xs) (base_in k xs) (owner_in k xs) q.fault q.records) q
    ∙ ap₂ (λ (b : ℕ) (w : Option (List ℕ)). some_flags (flags b w (r ∷ rs))) h.base_is h.owner_is

-- READING WHAT WAS WRITTEN GIVES THE FLAGS BACK
pub read_back : (f : Flags) → ProperFlags f → read (bytes_of f) ≡ some_flags f
unfolding read bytes_of
read_back f p =
    ap (λ (b : Option Kind). read_byte b (bytes_of f)) (byte_kind (kind_of f.owner (length f.records)))
    ∙ as_back f.base f.owner f.records p

-- ---- what is read is written

kind_byte : (b : ℕ) (k : Kind) → kind_of_byte b ≡ Some k → b ≡ type_byte k
kind_byte b k e =
    elim (ℕ_discrete b 0) [
      | yes h ↦ h ∙ ap type_byte (same SingleEpoch (rw (eq-eqb b 0 h)))
      | no h ↦
          elim (ℕ_discrete b 1) [
            | yes i ↦ i ∙ ap type_byte (same MultiEpoch (rw (ne_eqb b 0 h, eq-eqb b 1 i)))
            | no i ↦
                elim (ℕ_discrete b 2) [
                  | yes j ↦ j ∙ ap type_byte (same SingleEpochOwned (rw (ne_eqb b 0 h, ne_eqb b 1 i, eq-eqb b 2 j)))
                  | no j ↦
                      elim (ℕ_discrete b 3) [
                        | yes l ↦ l ∙ ap type_byte (same MultiEpochOwned (rw (ne_eqb b 0 h, ne_eqb b 1 i, ne_eqb b 2 j, eq-eqb b 3 l)))
                        | no l ↦ absurd (other (rw (ne_eqb b 0 h, ne_eqb b 1 i, ne_eqb b 2 j, ne_eqb b 3 l)))
                      ]
                ]
          ]
    ]
  where
    same : (j : Kind) → kind_of_byte b ≡ Some j → j ≡ k
    same j q = let z : Some j ≡ Some k = sym q ∙ e in cc

    other : kind_of_byte b ≡ None → ⊥
    other q = let y : None ≡ Some k = sym q ∙ e in let z : ◌≡◌ {A = ℕ} 0 1 = cc in omega arith

-- the head's bytes are those that would be written
head_written : (k : Kind) (x : ℕ) (xs : List ℕ) (b : Bool) → owned k ≡ b → Bytes xs → head_size k ≤ suc (length xs) → x ≡ type_byte k
    → head_bytes k (owner_in k (x ∷ xs)) (base_in k (x ∷ xs)) ++ drop (head_size k) (x ∷ xs) ≡ x ∷ xs
head_written k x xs false e bs h t =
    let n : unowned_head ≤ suc (length xs) = rw e at h in
    rw (e, ← t) (ap (λ (l : List ℕ). x ∷ l) (ap (λ (l : List ℕ). l ++ drop 2 xs) (field_back 2 xs bs (omega arith)) ∙ take-append-drop 2 xs))
head_written k x xs true e bs h t =
    let n : owned_head ≤ suc (length xs) = rw e at h in
    let f : big 2 (said (take 2 (drop 32 xs)))
    ≡ take 2 (drop 32 xs) = field_back 2 (drop 32 xs) (bytes_drop 32 xs bs) (rw length-drop (omega arith)) in
    rw (e, ← t) (ap (λ (l : List ℕ). x ∷ l) (ap (λ (l : List ℕ). (take 32 xs ++ l) ++ drop 34 xs) f
    ∙ ap (λ (l : List ℕ). l ++ drop 34 xs) (sym (take-add 32 2 xs)) ∙ take-append-drop 34 xs))

-- the owner that is read is one, and the base has 16 bits
pub owner_written : (k : Kind) (xs : List ℕ) (b : Bool) → owned k ≡ b → Bytes xs → head_size k ≤ length xs
    → OwnerFits (owns (owner_in k xs)) (owner_in k xs)
owner_written k xs false e bs h = rw e unowned
owner_written k xs true e bs h =
    let n : owned_head ≤ length xs = rw e at h in
    let there : List ℕ = drop behind_kind xs in
    let l : length (take owner_length there) ≡ owner_length = length-take owner_length there ∙ (rw length-drop (omega arith)) in
    rw e (owner (take owner_length there) l (bytes_take owner_length there (bytes_drop behind_kind xs bs)))

pub base_written : (k : Kind) (xs : List ℕ) (b : Bool) → owned k ≡ b → Bytes xs → head_size k ≤ length xs → base_in k xs < 65536
base_written k xs false e bs h =
    let n : unowned_head ≤ length xs = rw e at h in
    rw e (field_below 2 (drop behind_kind xs) (bytes_drop behind_kind xs bs) (rw length-drop (omega arith)))
base_written k xs true e bs h =
    let n : owned_head ≤ length xs = rw e at h in
    rw e (field_below 2 (drop behind_owner xs) (bytes_drop behind_owner xs bs) (rw length-drop (omega arith)))

as_written : (k : Kind) (x : ℕ) (xs : List ℕ) (f : Flags) → Bytes (x ∷ xs) → x ≡ type_byte k → read_as k (x ∷ xs) ≡ some_flags f
    → AcceptedBytes (x ∷ xs) f
unfolding bytes_of
as_written k x xs f bs t e =
    let all : List ℕ = x ∷ xs in
    let w = read_whole k all f e in
    let c = w.complete in
    let rs : List At = (records_in k all).records in
    let r = records_reread (head_size k) (base_in k all) (drop (head_size k) all) (bytes_drop (head_size k) all bs) c.no_fault in
    let kk : kind_of (owner_in k all) (length rs) ≡ k =
    kind_agrees (record { kind = k; base = 0; owner = take owner_length (drop behind_kind all); records = length rs }) w.agrees_kind in
    let p : ProperFlags (flags_in k all) =
    record {
      base_fits = base_written k all (owned k) refl bs c.head_inside;
      owner_fits = owner_written k all (owned k) refl bs c.head_inside;
      records_fit = r.canonical;
    } in
    record {
      same_bytes =
          ap bytes_of w.in_bytes
          ∙ ap₂ (λ (j : Kind) (l : List ℕ). head_bytes j (owner_in k all) (base_in k all) ++ l) kk r.same_bytes
          ∙ head_written k x xs (owned k) refl (λ i. bs (suc i)) c.head_inside t;
      is_proper = rw w.in_bytes p;
    }

-- WHAT READING ACCEPTS IS BYTE FOR BYTE WHAT WRITING GIVES, and the flags are proper
pub read_canonical : (xs : List ℕ) (f : Flags) → Bytes xs → read xs ≡ some_flags f → AcceptedBytes xs f
unfolding read
read_canonical [] f bs e = absurd (no_flags_lem f e)
read_canonical (x ∷ xs) f bs e = by (kind_of_byte x) refl
  where
    by : (b : Option Kind) → kind_of_byte x ≡ b → AcceptedBytes (x ∷ xs) f
    by (Some k) q = as_written k x xs f bs (kind_byte x k q) (sym (ap (λ (b : Option Kind). read_byte b (x ∷ xs)) q) ∙ e)
    by None q = absurd (no_refusal _ _ f (sym (ap (λ (b : Option Kind). read_byte b (x ∷ xs)) q) ∙ e))
