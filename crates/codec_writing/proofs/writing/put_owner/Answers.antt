-- The owner is copied over its part of the output, and so the places of that part are set. Assumes nothing.
use Rattle.std.proofs.Common.{◌≡◌, ℕ, ◌+◌, ◌≤◌, List, length, refl, sym, ◌∙◌, arith}
use Rattle.std.proofs.Math.Seq.{take-length}
use Rattle.std.proofs.lemmas.List.Edits.{sets, sets-eq}
use Rattle.std.proofs.lemmas.Slice.{put_mid-paste}
use borrow.Rule.Slice.PartMut.{put_mid}
use Rattle.codec_writing.proofs.writing.put_owner.Goals as goal

copied_sets : (old xs : List ℕ) (at k : ℕ) → k ≡ length xs → at + k ≤ length old → put_mid at k old xs ≡ sets old at xs
copied_sets old xs at k e r =
    put_mid-paste at k old xs xs k refl refl e ∙ rw (e, take-length) (sym (sets-eq xs old at (omega arith)))

pub returns : goal.returns
returns c =
    let after = c.copy_from_slice.ensures.after in
    record {
      behind = omega (arith, c.well_formed);
      wrote = rw (← after) (copied_sets c.args.out.now _ c.args.at _ (omega (arith, c.copy_from_slice.ensures.len)) (omega arith));
    }
