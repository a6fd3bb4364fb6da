-- Byte 0 names a kind, or none; no bytes are no flags. Assumes nothing.
use Rattle.std.proofs.Common.{sym, ap, ◌∙◌, length, arith, Err}
use borrow.Author.Tests.{eqb-true, eqb-false}
use Rattle.records_spec.specs.declared.head.Kind.{Kind}
use Rattle.records_spec.specs.declared.refusal.Refusal.{Refusal}
use Rattle.records_spec.proofs.Naming.{kind_named, kind_unnamed}
use Rattle.std.specs.Prelude.{Option}
use Rattle.codec_spec.specs.Reading.{read_byte, fault_at}
use Rattle.codec_spec.specs.Calls.{judgement}
use Rattle.codec_spec.proofs.Readings.{read_by_byte, read_nothing}
use Rattle.codec_judging.proofs.judging.judge.Goals as goal

pub returns-then-is_empty : goal.returns-then-is_empty
returns-then-is_empty c = ap judgement (sym (read_nothing c.args.src.now (eqb-true (length c.args.src.now) 0 (sym c.if-is_empty.ensures))))

pub returns-in-Ok : goal.returns-in-Ok
returns-in-Ok c =
    let d = c.args.src.now in
    let some = eqb-false (length d) 0 (sym c.if-is_empty.ensures) in
    let named = kind_named _ _ (sym c.in-Ok.is ∙ c.try_from.ensures) in
    c.judge_as.ensures ∙ ap judgement (sym (read_by_byte d (omega arith) ∙ ap (λ (k : Option Kind). read_byte k d) named))

pub returns-in-Err : goal.returns-in-Err
returns-in-Err c =
    let d = c.args.src.now in
    let some = eqb-false (length d) 0 (sym c.if-is_empty.ensures) in
    let none = kind_unnamed _ _ (sym c.in-Err.is ∙ c.try_from.ensures) in
    ap Err (c.fault.ensures ∙ ap (λ (r : Refusal). fault_at r 0) none.1)
    ∙ ap judgement (sym (read_by_byte d (omega arith) ∙ ap (λ (k : Option Kind). read_byte k d) none.0))
