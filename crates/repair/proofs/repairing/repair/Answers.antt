-- `repair::repairing::repair` meets its contract: what reading finds leads on. Assumes nothing.
use Rattle.std.proofs.Common.{sym, ◌∙◌}
use Rattle.fields_spec.specs.Theorems.{Bytes}
use Rattle.codec_spec.specs.Reading.{read}
use Rattle.codec_spec.proofs.Settling.{judged_absent, judged_present, judged_refused}
use Rattle.repair_spec.proofs.Calling.{refused_some, call_nothing, call_canonical}
use Rattle.repair.proofs.repairing.repair.Goals as goal

pub repair_faulty-requires : goal.repair_faulty-requires
repair_faulty-requires c =
    let src = c.args.src.now in
    refused_some src _ _ (judged_refused (read src) _ (sym c.judge.ensures ∙ c.in-Err.is))

pub returns-in-Ok-None : goal.returns-in-Ok-None
returns-in-Ok-None c =
    let a = c.args in
    let judged = sym c.judge.ensures ∙ rw c.in-Ok-None.field-0-is at c.in-Ok-None.is in
    call_nothing a.src.now a.out.now a.offsets.now a.changes.now (judged_absent (read a.src.now) judged)

pub returns-in-Ok-Some : goal.returns-in-Ok-Some
returns-in-Ok-Some c =
    let a = c.args in
    let bytes : Bytes a.src.now = λ i. (c.type_inv.src i).fits in
    let judged = sym c.judge.ensures ∙ rw c.in-Ok-Some.field-0-is at c.in-Ok-Some.is in
    let flags = judged_present (read a.src.now) _ judged in
    c.keep.ensures a.offsets.now a.changes.now ∙ call_canonical a.src.now a.out.now a.offsets.now a.changes.now flags.0 bytes flags.1
