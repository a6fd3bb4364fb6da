-- An owner that was chosen stands behind the kind of its encoding, which is long enough for it. Assumes nothing.
use Rattle.std.proofs.Common.{◌≤◌, length, sym, ap, ◌∙◌, arith, Ok}
use Rattle.codec_spec.specs.Bytes.{behind_owner}
use Rattle.flags_spec.proofs.Choosing.{ours_owned, theirs_owned}
use Rattle.flags.proofs.owners.combine_owner_id.Goals as goal

pub slice_bounds-result-end : goal.slice_bounds-result-end
slice_bounds-result-end c =
    let a = c.args in
    let owned = ours_owned a.strategy a.ours.now a.theirs.now (sym c.in-Ok-Ours.ensures ∙ ap Ok c.in-Ok-Ours.field-0-is) in
    let long : behind_owner ≤ length a.ours.now = omega (arith, owned.1.long) in
    long

pub slice_bounds-result-end-in-Ok-Theirs : goal.slice_bounds-result-end-in-Ok-Theirs
slice_bounds-result-end-in-Ok-Theirs c =
    let a = c.args in
    let owned = theirs_owned a.strategy a.ours.now a.theirs.now (sym c.in-Ok-Theirs.ensures ∙ ap Ok c.in-Ok-Theirs.field-0-is) in
    let long : behind_owner ≤ length a.theirs.now = omega (arith, owned.1.long) in
    long
