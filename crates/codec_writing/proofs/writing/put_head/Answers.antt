-- The kind's byte, the owner if there is one, and the base epoch, one after another. Assumes nothing.
use Rattle.std.proofs.Common.{◌≡◌, ℕ, List, true, false, refl, sym, ◌∙◌}
use Rattle.std.specs.Prelude.{Option, None, Some}
use Rattle.fields_spec.proofs.Parts.{parts_put, parts_last}
use Rattle.records_spec.specs.Flags.{owned}
use Rattle.codec_spec.proofs.Writings.{head_part}
use Rattle.codec_writing.proofs.writing.put_head.Goals as goal
use Rattle.codec_writing.proofs.writing.put_head.Goals.{then-is_owned, else-is_owned}

pub returns : goal.returns
returns c =
    let head = c.args.head in
    let part = λ (o : Option (List ℕ)). head_part head.kind o head.base c.from.result c.args.out.now c.from.ensures in
    elim c.if-is_owned.branch [
      | then-is_owned w ↦
          let has : owned head.kind ≡ true = sym c.is_owned.ensures ∙ w.if-is_owned.true in
          rw has
          (parts_last (parts_put (part (Some head.owner)) refl w.put_owner-at.ensures) (rw (w.out-is, w.at-is) at c.put_be16.ensures))
      | else-is_owned w ↦
          let has-none : owned head.kind ≡ false = sym c.is_owned.ensures ∙ w.if-is_owned.false in
          rw has-none (parts_last (part None) (rw (w.out-is, w.at-is) at c.put_be16.ensures))
    ]
