-- Writing flags: the two cases of `serialized` and `size_of`, and a record as its two fields one after the other. Assumes nothing.
use Prim.Native.Nat.{ℕ, ◌+◌, ◌≤◌, ◌<◌}
use native.Mathlib.Omega.{arith}
use mathlib.Core.Path.{◌≡◌, sym, ap, ◌∙◌}
use mathlib.Core.Bool.{true, false}
use Rattle.std.specs.Prelude.{Option}
use mathlib.Core.List.{List, [], ◌∷◌, ◌++◌, append_assoc}
use lib.ListN.{length, get_or, take, drop, set, drop_of_length-le}
use Rattle.fields_spec.specs.Big.{big}
use Rattle.fields_spec.specs.Varint.{varint}
use Rattle.fields_spec.specs.Writing.{Put}
use Rattle.fields_spec.proofs.Parts.{Parts, parts_start, parts_byte}
use Rattle.records_spec.specs.Tables.{At, records_of, over}
use Rattle.records_spec.specs.Flags.{proper, flags_of, owner_of, type_byte, kind_of, holding, Held}
use Rattle.records_spec.specs.Answers.{writing}
use Rattle.records_spec.specs.Outcomes.{refused, after, ok, leaving, refusing}
use Rattle.records_spec.specs.Refusals.{number}
use Rattle.records_spec.specs.declared.refusal.Refusal.TheVariants.{BadTable}
use Rattle.records_spec.specs.declared.head.Kind.{Kind}
use Rattle.records_spec.specs.declared.head.Head.{Head}
use Rattle.records_spec.proofs.Tables.{length_records_of, counts_records, records_on, over_sets}
use Rattle.records_spec.proofs.Proper.{IsProper, kind_agrees}
use Rattle.records_spec.proofs.Answers.{writing_fits}
use Rattle.codec_spec.specs.Bytes.{records_bytes, owner_bytes, head_bytes, bytes_of}
use Rattle.codec_spec.specs.Inner.Sizes.{counts_size}
use Rattle.codec_spec.specs.Calls.{serialized, size_of}
use Rattle.codec_spec.proofs.Sizing.{length_records, held_epochs, held_counts}

module _ (f : Held) where
  pub size_proper : proper f ≡ true → size_of f ≡ ok (length (bytes_of (flags_of f)))
  unfolding size_of
  size_proper p = rw p

  pub size_improper : proper f ≡ false → size_of f ≡ refused (number BadTable)
  unfolding size_of
  size_improper p = rw p

  module _ (out : List ℕ) where
    pub serialized_proper : proper f ≡ true → serialized f out ≡ writing (bytes_of (flags_of f)) out
    unfolding serialized writing
    serialized_proper p = rw p

    pub serialized_improper : proper f ≡ false → serialized f out ≡ refusing BadTable out
    unfolding serialized leaving
    serialized_improper p = rw p

-- ---- records

-- the bytes of the records from k on
abbrev pub bytes_from : List ℕ → List ℕ → ℕ → List ℕ
bytes_from es cs k = records_bytes (records_of (drop k es) (drop k cs))

pub bytes_on : (es cs : List ℕ) (k : ℕ) → k < length es → k < length cs
    → bytes_from es cs k ≡ big 2 (get_or es k 0) ++ (varint (get_or cs k 0) ++ bytes_from es cs (k + 1))
unfolding records_bytes
bytes_on es cs k p q = rw (records_on es cs k p q) (append_assoc (big 2 (get_or es k 0)) (varint (get_or cs k 0)) (bytes_from es cs (k + 1)))

pub bytes_end : (es cs : List ℕ) (k : ℕ) → length es ≤ k → bytes_from es cs k ≡ []
unfolding records_bytes records_of
bytes_end es cs k h = rw (drop_of_length-le es {i = k} h)

-- the bytes of records with these counts
pub bytes_size : (es cs : List ℕ) → length es ≡ length cs → length (bytes_from es cs 0) ≡ counts_size cs
bytes_size es cs e = length_records (records_of es cs) ∙ ap counts_size (counts_records es cs e)

-- ---- flags

-- the first byte is the kind's; the owner and the base epoch are left
pub head_part : (k : Kind) (o : Option (List ℕ)) (base t : ℕ) (out : List ℕ) → t ≡ type_byte k
    → Parts (head_bytes k o base) 0 out (owner_bytes o ++ big 2 base) 1 (set out 0 t)
head_part k o base t out e = parts_byte (parts_start (head_bytes k o base) 0 out) (ap (λ (b : ℕ). b ∷ (owner_bytes o ++ big 2 base)) (sym e))

-- of proper flags the kind is the head's
pub bytes_proper : (h : Head) (es cs : List ℕ) → IsProper h es cs
    → bytes_of (flags_of (holding h es cs)) ≡ head_bytes h.kind (owner_of h) h.base ++ records_bytes
    (records_of (take h.records es) (take h.records cs))
unfolding bytes_of
bytes_proper h es cs p =
    let rs : List At = records_of (take h.records es) (take h.records cs) in
    let n : length rs ≡ h.records = length_records_of (take h.records es) (take h.records cs)
    (held_epochs h es cs p ∙ sym (held_counts h es cs p)) ∙ held_epochs h es cs p in
    ap (λ (k : Kind). head_bytes k (owner_of h) h.base ++ records_bytes rs) (ap (kind_of (owner_of h)) n ∙ kind_agrees h p.agrees_kind)

-- bytes that were put at the start of an output with room
pub put_written : (xs old new : List ℕ) (n : ℕ) → Put xs 0 n old new → length xs ≤ length old → after (ok n) new ≡ writing xs old
put_written xs old new n p h =
    let e : n ≡ length xs = omega (arith, p.behind) in
    let o : new ≡ over xs old = p.wrote ∙ over_sets xs old h in
    (λ i. after (ok (e i)) (o i)) ∙ sym (writing_fits xs old h)
