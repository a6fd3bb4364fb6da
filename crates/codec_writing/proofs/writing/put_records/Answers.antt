-- A turn writes the two fields of the record that the iterators have next; where one of them has none, nothing is left to write. Assumes nothing.
use Rattle.std.proofs.Common.{◌≡◌, ℕ, List, [], ◌∷◌, ◌++◌, length, refl, ap, arith}
use Rattle.std.proofs.lemmas.List.{append_assoc, length-append}
use Rattle.std.proofs.lemmas.Slice.Zip.{Zip-more, either_empty_from_Zip}
use mathlib.Core.Logic.{◌⊎◌, inl, inr}
use Rattle.fields_spec.specs.Big.{big}
use Rattle.fields_spec.specs.Varint.{varint}
use Rattle.fields_spec.proofs.Bigs.{length_big}
use Rattle.fields_spec.proofs.Parts.{parts_put, parts_done, parts_room}
use Rattle.records_spec.specs.Tables.{records_of}
use Rattle.codec_spec.specs.Bytes.{records_bytes}
use Rattle.codec_spec.proofs.Writings.{bytes_size}
use Rattle.codec_writing.proofs.writing.put_records.Goals as goal

bytes_more : {e c : ℕ} {es cs es' cs' : List ℕ} → es ≡ e ∷ es' → cs ≡ c ∷ cs'
    → records_bytes (records_of es cs) ≡ big 2 e ++ (varint c ++ records_bytes (records_of es' cs'))
unfolding records_bytes records_of
bytes_more p q = rw (p, q) (append_assoc (big 2 _) (varint _) _)

bytes_none : {es cs : List ℕ} → (es ≡ []) ⊎ (cs ≡ []) → records_bytes (records_of es cs) ≡ []
unfolding records_bytes records_of
bytes_none (inl p) = rw p
bytes_none {es = []} (inr p) = refl
bytes_none {es = e ∷ es} (inr p) = rw p

pub put_be16-behind-requires : goal.put_be16-behind-requires
put_be16-behind-requires c =
    let turn = Zip-more c.loop-epoch.epoch-iterator c.next.new.self _ _ c.in-Some.is c.next.ensures.steps in
    let left = ap length (bytes_more turn.0 turn.1) in
    let all = bytes_size c.args.epochs.now c.args.counts.now c.requires.epochs_len in
    let room = parts_room c.loop-epoch.invariant (omega arith) in
    omega (arith, length-append {A = ℕ}, length_big)

pub put_varint-i-requires : goal.put_varint-i-requires
put_varint-i-requires c =
    let turn = Zip-more c.loop-epoch.epoch-iterator c.next.new.self _ _ c.in-Some.is c.next.ensures.steps in
    let all = bytes_size c.args.epochs.now c.args.counts.now c.requires.epochs_len in
    let room = parts_room (parts_put c.loop-epoch.invariant (bytes_more turn.0 turn.1) c.put_be16-behind.ensures) (omega arith) in
    omega (arith, length-append {A = ℕ})

pub loop-epoch-preserved : goal.loop-epoch-preserved
loop-epoch-preserved c =
    let turn = Zip-more c.loop-epoch.epoch-iterator c.next.new.self _ _ c.in-Some.is c.next.ensures.steps in
    parts_put (parts_put c.loop-epoch.invariant (bytes_more turn.0 turn.1) c.put_be16-behind.ensures) refl c.put_varint-i.ensures

pub returns : goal.returns
returns c =
    let none = either_empty_from_Zip c.loop-epoch.epoch-iterator c.next.new.self _ c.in-None.is c.next.ensures.steps in
    parts_done c.loop-epoch.invariant (bytes_none none)
