-- The sizes of the parts are the size of the whole. Assumes nothing.
use Rattle.std.proofs.Common.{◌≡◌, ◌+◌, length, true, sym, ap, ◌∙◌, arith}
use Rattle.records_spec.specs.Flags.{flags_of, proper, holding}
use Rattle.records_spec.specs.Outcomes.{ok}
use Rattle.records_spec.proofs.Proper.{proper_inv}
use Rattle.codec_spec.specs.Bytes.{bytes_of}
use Rattle.codec_spec.proofs.Sizing.{held_counts, length_flags}
use Rattle.codec_spec.proofs.Writings.{size_proper, size_improper}
use Rattle.codec_writing.proofs.sizes.serialized_size.Goals as goal

pub slice_bounds-records_size-end : goal.slice_bounds-records_size-end
slice_bounds-records_size-end c =
    let a = c.args in
    let right = proper_inv a.flags a.epochs.now a.counts.now (sym c.if-is_proper.ensures) in
    sym (held_counts a.flags a.epochs.now a.counts.now right)

pub returns-then-is_proper : goal.returns-then-is_proper
returns-then-is_proper c =
    let a = c.args in
    let flags = holding a.flags a.epochs.now a.counts.now in
    let is-proper : proper flags ≡ true = sym c.if-is_proper.ensures in
    let long = length_flags a.flags a.epochs.now a.counts.now (proper_inv a.flags a.epochs.now a.counts.now is-proper) in
    let whole : c.head_bytes_size.result + c.records_size.result ≡ length (bytes_of (flags_of flags)) =
    omega (arith, c.head_bytes_size.ensures.0, c.records_size.ensures.0) in
    ap ok whole ∙ sym (size_proper flags is-proper)

pub returns-else-is_proper : goal.returns-else-is_proper
returns-else-is_proper c =
    let a = c.args in
    sym (size_improper (holding a.flags a.epochs.now a.counts.now) (sym c.if-is_proper.ensures))
