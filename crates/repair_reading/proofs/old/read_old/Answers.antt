-- `repair_reading::old::read_old` meets its contract: the epoch's length and what is found of the varint lead to each case. Assumes nothing.
use Rattle.std.proofs.Common.{◌+◌, drop, length-drop, sym, ap, ◌∙◌, arith}
use Rattle.fields_spec.specs.Varint.{found}
use Rattle.fields_spec.proofs.Told.{judged_incomplete, told_read}
use Rattle.repair_spec.specs.Inner.Steps.{got_old_of}
use Rattle.repair_spec.proofs.Reading.{old_short}
use Rattle.repair_spec.proofs.Getting.{at_incomplete, at_whole}
use Rattle.repair_reading.proofs.old.read_old.Goals as goal

pub returns-then-src-at-lt2 : goal.returns-then-src-at-lt2
returns-then-src-at-lt2 c =
    let a = c.args in
    sym (ap got_old_of (old_short a.at (drop a.at a.src.now) (rw length-drop c.if-src-at-lt2.true)))

pub returns-in-Err-Incomplete : goal.returns-in-Err-Incomplete
returns-in-Err-Incomplete c =
    let a = c.args in
    let d = a.src.now in
    let judged = sym c.judge_varint.ensures ∙ rw c.in-Err-Incomplete.field-0-is at c.in-Err-Incomplete.is in
    let cut = judged_incomplete (a.at + 2) _ (found (drop (a.at + 2) d)) judged in
    sym (ap got_old_of (at_incomplete d a.at (omega (arith, c.if-src-at-lt2.false)) cut))

pub returns-in-Ok : goal.returns-in-Ok
returns-in-Ok c =
    let a = c.args in
    let d = a.src.now in
    let v = c.varint_at-varint.result in
    let read = told_read (a.at + 2) v.count v.next (found (drop (a.at + 2) d)) c.varint_at-varint.ensures in
    at_whole d a.at (omega (arith, c.if-src-at-lt2.false)) _ v.count read.0 v.next c.be16_at-epoch.ensures read.2 read.1
