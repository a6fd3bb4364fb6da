-- Records of the longest kind that fit are surely enough. Assumes nothing.
use Rattle.std.proofs.Common.{◌+◌, sym, ◌∙◌, arith}
use borrow.Author.Tests.{le-leb}
use Rattle.codec_spec.specs.Inner.Sizes.{counts_size}
use Rattle.codec_spec.proofs.Sizing.{counts_most}
use Rattle.codec_writing.proofs.sizes.bytes_fit.Goals as goal

pub returns-then-counts-left : goal.returns-then-counts-left
returns-then-counts-left c =
    let a = c.args in
    let most = counts_most a.counts.now (λ i. omega (arith, c.type_inv.counts i)) in
    le-leb _ _ (omega arith) ∙ sym (le-leb (a.size + counts_size a.counts.now) a.room (omega (arith, c.in-Some.ensures)))
