-- Proper flags that fit are written head first, and else nothing is written. Assumes nothing.
use Rattle.std.proofs.Common.{◌≡◌, true, List, ℕ, refl, sym, ◌∙◌, arith}
use borrow.Author.Tests.{leb-true, leb-false}
use Rattle.fields_spec.specs.Writing.{Put}
use Rattle.fields_spec.proofs.Parts.{parts_start, parts_put, parts_last, put_long}
use Rattle.records_spec.specs.declared.head.Head.{Head}
use Rattle.records_spec.specs.Flags.{flags_of, owner_of, proper, holding}
use Rattle.records_spec.proofs.Proper.{IsProper, proper_inv}
use Rattle.records_spec.proofs.Answers.{writing_short}
use Rattle.codec_spec.specs.Bytes.{bytes_of}
use Rattle.codec_spec.proofs.Sizing.{length_head, held_epochs, held_counts, length_flags}
use Rattle.codec_spec.proofs.Writings.{serialized_proper, serialized_improper, bytes_proper, put_written}
use Rattle.codec_writing.proofs.writing.serialize.Goals as goal

right : {h : Head} {es cs : List ℕ} → true ≡ proper (holding h es cs) → IsProper h es cs
right {h} {es} {cs} p = proper_inv h es cs (sym p)

pub returns-then-not-is_proper : goal.returns-then-not-is_proper
returns-then-not-is_proper c =
    let a = c.args in
    sym (serialized_improper (holding a.flags a.epochs.now a.counts.now) a.out.now (sym c.if-not-is_proper.ensures))

pub slice_bounds-bytes_fit-end : goal.slice_bounds-bytes_fit-end
slice_bounds-bytes_fit-end c = sym (held_counts _ _ _ (right c.if-not-is_proper.ensures))

pub returns-then-not-bytes_fit : goal.returns-then-not-bytes_fit
returns-then-not-bytes_fit c =
    let a = c.args in
    let flags = holding a.flags a.epochs.now a.counts.now in
    let long = length_flags a.flags a.epochs.now a.counts.now (right c.if-not-is_proper.ensures) in
    let short = leb-false _ _ (sym c.if-not-bytes_fit.ensures) in
    sym (serialized_proper flags a.out.now (sym c.if-not-is_proper.ensures)
    ∙ writing_short (bytes_of (flags_of flags)) a.out.now (omega (arith, c.head_bytes_size.ensures.0)))

pub slice_bounds-put_records-end : goal.slice_bounds-put_records-end
slice_bounds-put_records-end c = sym (held_epochs _ _ _ (right c.if-not-is_proper.ensures))

pub slice_bounds-put_records-end-2 : goal.slice_bounds-put_records-end-2
slice_bounds-put_records-end-2 c = sym (held_counts _ _ _ (right c.if-not-is_proper.ensures))

pub put_records-requires-clause-epochs_len : goal.put_records-requires-clause-epochs_len
put_records-requires-clause-epochs_len c =
    let p = right c.if-not-is_proper.ensures in
    held_epochs _ _ _ p ∙ sym (held_counts _ _ _ p)

pub put_records-requires-clause-counts_in_bounds : goal.put_records-requires-clause-counts_in_bounds
put_records-requires-clause-counts_in_bounds c =
    let h = c.args.flags in
    let fits = leb-true _ _ (sym c.if-not-bytes_fit.ensures) in
    let put = c.put_head-at.ensures in
    omega (arith, c.head_bytes_size.ensures.0, length_head h.kind (owner_of h) h.base, put_long put)

pub returns : goal.returns
returns c =
    let a = c.args in
    let flags = holding a.flags a.epochs.now a.counts.now in
    let bytes = bytes_of (flags_of flags) in
    let p = right c.if-not-is_proper.ensures in
    let long = length_flags a.flags a.epochs.now a.counts.now p in
    let fits = leb-true _ _ (sym c.if-not-bytes_fit.ensures) in
    let put : Put bytes 0 c.put_records.result a.out.now c.put_records.new.out =
    rw (bytes_proper a.flags a.epochs.now a.counts.now p)
    (parts_last (parts_put (parts_start _ 0 a.out.now) refl c.put_head-at.ensures) c.put_records.ensures) in
    put_written bytes a.out.now _ _ put (omega (arith, c.head_bytes_size.ensures.0))
    ∙ sym (serialized_proper flags a.out.now (sym c.if-not-is_proper.ensures))
