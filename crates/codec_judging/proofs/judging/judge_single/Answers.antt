-- The size decides. Assumes nothing.
use Rattle.std.proofs.Common.{sym, ap, ◌∙◌, Ok, Err}
use Rattle.std.specs.Prelude.{Some}
use Rattle.codec_spec.specs.Calls.{judgement}
use Rattle.codec_spec.proofs.Readings.{single_right, single_wrong}
use Rattle.codec_judging.proofs.judging.judge_single.Goals as goal

pub returns-then-src-head_size : goal.returns-then-src-head_size
returns-then-src-head_size c =
    let a = c.args in
    ap (λ h. Ok (Some h)) c.head_in.ensures
    ∙ ap judgement (sym (single_right a.kind a.src.now c.requires (c.if-src-head_size.true ∙ c.head_size.ensures)))

pub returns-else-src-head_size : goal.returns-else-src-head_size
returns-else-src-head_size c =
    let a = c.args in
    ap Err c.fault.ensures
    ∙ ap judgement (sym (single_wrong a.kind a.src.now c.requires (λ e. c.if-src-head_size.false (e ∙ sym c.head_size.ensures))))
