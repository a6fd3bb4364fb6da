-- The size and what reading the records found lead to each case of `read_as`. Assumes nothing.
use Rattle.std.proofs.Common.{length, refl, arith}
use Rattle.codec_spec.specs.Reading.{read_as}
use Rattle.codec_spec.proofs.Readings.{multi_short}
use Rattle.codec_spec.proofs.Settling.{left_refused}
use Rattle.codec_spec.proofs.Placing.{multi_faulty, multi_none, multi_some}
use Rattle.codec.proofs.reading.read_multi.Goals as goal

pub returns-then-src-size : goal.returns-then-src-size
returns-then-src-size c =
    let a = c.args in
    left_refused (read_as a.kind a.src.now) a.epochs.now a.counts.now _ _ (length a.src.now) refl
    (multi_short a.kind a.src.now c.requires (omega (arith, c.head_size-size.ensures)))

pub returns-in-Err : goal.returns-in-Err
returns-in-Err c =
    let a = c.args in
    multi_faulty a.kind a.src.now a.epochs.now a.counts.now _ _ _ _ c.head_size-size.ensures c.base_in-base.ensures c.requires
    c.if-src-size.false _ c.read_blocks.ensures _ _ c.in-Err.is refl

pub returns-in-Ok-eq0 : goal.returns-in-Ok-eq0
returns-in-Ok-eq0 c =
    let a = c.args in
    let none = c.in-Ok-eq0 in
    multi_none a.kind a.src.now a.epochs.now a.counts.now _ _ _ _ c.head_size-size.ensures c.base_in-base.ensures c.requires
    c.if-src-size.false _ c.read_blocks.ensures _ _ none.is none.field-0-test refl

pub returns-in-Ok : goal.returns-in-Ok
returns-in-Ok c =
    let a = c.args in
    let some = c.in-Ok in
    multi_some a.kind a.src.now a.epochs.now a.counts.now _ _ _ _ c.head_size-size.ensures c.base_in-base.ensures c.requires
    c.if-src-size.false _ c.read_blocks.ensures _ _ _ some.is some.n-test.1 c.head_in.ensures refl
