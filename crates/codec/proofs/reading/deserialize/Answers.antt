-- Byte 0 names the kind by which the bytes are read. Assumes nothing.
use Rattle.std.proofs.Common.{length, refl, sym, ap, ◌∙◌, arith, Err}
use Rattle.std.specs.Prelude.{Option}
use Rattle.std.proofs.lemmas.Result.{err_from_is_err_and}
use borrow.Author.Tests.{eqb-true, eqb-false}
use Rattle.records_spec.specs.Flags.{lending}
use Rattle.records_spec.specs.Answers.{placing_if}
use Rattle.records_spec.specs.declared.head.Kind.{Kind}
use Rattle.records_spec.proofs.Naming.{kind_named, kind_unnamed}
use Rattle.codec_spec.specs.Reading.{Read, read_byte, read}
use Rattle.codec_spec.specs.Calls.{answer}
use Rattle.codec_spec.proofs.Readings.{read_nothing, read_by_byte}
use Rattle.codec_spec.proofs.Settling.{left_absent, left_refused}
use Rattle.codec.proofs.reading.deserialize.Goals as goal

pub returns-then-is_empty : goal.returns-then-is_empty
returns-then-is_empty c =
    let a = c.args in
    left_absent (read a.src.now) a.epochs.now a.counts.now _ refl (read_nothing a.src.now (eqb-true (length a.src.now) 0 (sym c.if-is_empty.ensures)))

pub returns-in_err-kind : goal.returns-in_err-kind
returns-in_err-kind c =
    let a = c.args in
    let d = a.src.now in
    let some = eqb-false (length d) 0 (sym c.if-is_empty.ensures) in
    let none = kind_unnamed _ _ c.in_err-kind.ensures in
    let passed = err_from_is_err_and c.from_residual.result c.from_residual.ensures.1 in
    left_refused (read d) a.epochs.now a.counts.now _ _ 0 (passed.1 ∙ ap Err (passed.2 ∙ none.1))
    (read_by_byte d (omega arith) ∙ ap (λ (k : Option Kind). read_byte k d) none.0)

pub returns : goal.returns
returns c =
    let a = c.args in
    let d = a.src.now in
    let some = eqb-false (length d) 0 (sym c.if-is_empty.ensures) in
    let named = kind_named _ _ c.in_ok-kind.ensures in
    c.read_as.ensures
    ∙ ap (λ (x : Read). placing_if (answer x) (lending a.epochs.now a.counts.now))
    (sym (read_by_byte d (omega arith) ∙ ap (λ (k : Option Kind). read_byte k d) named))
