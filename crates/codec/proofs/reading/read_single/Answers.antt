-- The size is right and there are no records, or it is wrong. Assumes nothing.
use Rattle.std.proofs.Common.{[], length, refl, sym, ap, ◌∙◌, arith}
use Rattle.records_spec.specs.Flags.{flags, lending}
use Rattle.records_spec.specs.Answers.{placing_if}
use Rattle.records_spec.proofs.Tables.{filling_start, filling_done}
use Rattle.records_spec.proofs.Answers.{placing_some, placed_left}
use Rattle.codec_spec.specs.Reading.{Read, base_in, owner_in, read_as}
use Rattle.codec_spec.specs.Calls.{answer}
use Rattle.codec_spec.proofs.Readings.{single_right, single_wrong}
use Rattle.codec_spec.proofs.Settling.{left_refused}
use Rattle.codec.proofs.reading.read_single.Goals as goal

pub returns-then-src-head_size : goal.returns-then-src-head_size
returns-then-src-head_size c = λ es cs.
    let k = c.args.kind in
    let d = c.args.src.now in
    let head = flags (base_in k d) (owner_in k d) [] in
    placed_left _ (lending es cs) head _ 0 es cs refl c.head_in.ensures
    (filling_done (filling_start [] 0 es cs) refl) (omega arith) (omega arith)
    ∙ sym (placing_some head (lending es cs))
    ∙ sym (ap (λ (x : Read). placing_if (answer x) (lending es cs)) (single_right k d c.requires (c.if-src-head_size.true ∙ c.head_size.ensures)))

pub returns-else-src-head_size : goal.returns-else-src-head_size
returns-else-src-head_size c = λ es cs.
    let k = c.args.kind in
    let d = c.args.src.now in
    left_refused (read_as k d) es cs _ _ (length d) refl
    (single_wrong k d c.requires (λ e. c.if-src-head_size.false (e ∙ sym c.head_size.ensures)))
