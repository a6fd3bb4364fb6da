-- The epoch's length, the varint and the order of epochs lead to each case of `next`. Assumes nothing.
use Rattle.std.proofs.Common.{◌≡◌, ℕ, ◌+◌, Err, drop, length-drop, sym, ap, ◌∙◌, arith}
use Rattle.fields_spec.specs.Varint.{found}
use Rattle.fields_spec.proofs.Told.{told_read, read_incomplete, read_strange}
use Rattle.codec_spec.specs.Inner.Blocks.{got_of}
use Rattle.codec_spec.proofs.Parsing.{next_short, next_at, with_count_low, with_count_above}
use Rattle.codec_spec.proofs.Turns.{got_here}
use Rattle.codec_judging.proofs.record.read_record.Goals as goal

pub returns-then-src-at-lt2 : goal.returns-then-src-at-lt2
returns-then-src-at-lt2 c =
    let a = c.args in
    let short = next_short a.prev (drop a.at a.src.now) (rw length-drop c.if-src-at-lt2.true) in
    ap Err c.fault.ensures ∙ sym (ap (got_of a.at) short)

pub returns-in-Err-Incomplete : goal.returns-in-Err-Incomplete
returns-in-Err-Incomplete c =
    let a = c.args in
    let told = sym c.read_varint.ensures ∙ c.in-Err-Incomplete.is ∙ ap Err c.in-Err-Incomplete.field-0-is in
    let t = read_incomplete (a.at + 2) _ (found (drop (a.at + 2) a.src.now)) told in
    ap Err c.fault-in-Err-Incomplete.ensures
    ∙ sym (ap (got_of a.at) (next_at a.src.now a.at a.prev _ _ c.if-src-at-lt2.false c.be16_at-epoch.ensures t))

pub returns-in-Err-NotCanonical : goal.returns-in-Err-NotCanonical
returns-in-Err-NotCanonical c =
    let a = c.args in
    let told = sym c.read_varint.ensures ∙ c.in-Err-NotCanonical.is ∙ ap Err c.in-Err-NotCanonical.field-0-is in
    let t = read_strange (a.at + 2) _ (found (drop (a.at + 2) a.src.now)) told in
    ap Err c.fault-in-Err-NotCanonical.ensures
    ∙ sym (ap (got_of a.at) (next_at a.src.now a.at a.prev _ _ c.if-src-at-lt2.false c.be16_at-epoch.ensures t))

pub returns-in-Ok : goal.returns-in-Ok
returns-in-Ok c =
    let a = c.args in
    let v = c.in-Ok.field-0 in
    let t = told_read (a.at + 2) v.count v.next (found (drop (a.at + 2) a.src.now)) (sym c.in-Ok.is ∙ c.read_varint.ensures) in
    ap Err c.fault-in-Ok.ensures
    ∙ sym (ap (got_of a.at) (next_at a.src.now a.at a.prev _ _ c.if-src-at-lt2.false c.be16_at-epoch.ensures t.1
    ∙ with_count_low a.prev c.be16_at-epoch.result v.count t.0 c.if-epoch-prev.true))

pub returns-in-Ok-2 : goal.returns-in-Ok-2
returns-in-Ok-2 c =
    let a = c.args in
    let e : ℕ = c.be16_at-epoch.result in
    let v = c.in-Ok.field-0 in
    let t = told_read (a.at + 2) v.count v.next (found (drop (a.at + 2) a.src.now)) (sym c.in-Ok.is ∙ c.read_varint.ensures) in
    got_here e v.count v.next (a.at + (2 + t.0)) (omega (arith, t.2))
    ∙ sym (ap (got_of a.at) (next_at a.src.now a.at a.prev e _ c.if-src-at-lt2.false c.be16_at-epoch.ensures t.1
    ∙ with_count_above a.prev e v.count t.0 c.if-epoch-prev.false))
