-- The block has no room: what was found is the refusal. Where it has room, `search` finds that it was placed. Assumes nothing.
use Rattle.std.proofs.Common.{◌+◌, length, take, refl, sym, ap, ◌∙◌, Err}
use Rattle.std.specs.Prelude.{None}
use Rattle.records_spec.specs.Tables.{records_of}
use Rattle.records_spec.specs.Answers.{room_for}
use Rattle.records_spec.proofs.Tables.{first_long}
use Rattle.codec_spec.specs.Inner.Blocks.{filled}
use Rattle.codec_spec.proofs.Stacking.{filled_short}
use Rattle.codec_judging.proofs.filling.place_last.Goals as goal

pub returns-else-fit : goal.returns-else-fit
returns-else-fit c =
    let a = c.args in
    let block = take a.n (records_of a.block_epochs.now a.block_counts.now) in
    let long = first_long a.block_epochs.now a.block_counts.now a.n c.requires.n_in_bounds.0 c.requires.n_in_bounds.1 in
    let told = ap (λ n. room_for (a.k + n) (length a.epochs.now) (length a.counts.now)) long in
    ap (λ f. filled (Err f) a.epochs.now a.counts.now) c.fault.ensures
    ∙ filled_short a.end a.k block a.epochs.now a.counts.now None refl (told ∙ sym c.fit.ensures ∙ c.if-fit.false)
