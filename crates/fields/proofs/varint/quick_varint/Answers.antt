-- The first byte is the last, or the second is, or two are passed. Assumes nothing.
use Rattle.std.proofs.Common.{◌+◌, length, ltb-true, sym, ap, refl, arith}
use Rattle.std.proofs.lemmas.List.{get_or_read}
use Rattle.fields_spec.specs.Inner.Varints.{read_at}
use Rattle.fields_spec.proofs.Places.{first_whole}
use Rattle.fields_spec.proofs.Endings.{begun_first, begun_more, begun_ends}
use Rattle.fields.proofs.varint.quick_varint.Goals as goal

pub returns-then-first-lt128 : goal.returns-then-first-lt128
returns-then-first-lt128 c =
    let a = c.args in
    let d = a.src.now in
    let got = c.in_ok-first.ensures.lookup in
    let inside = ltb-true a.at (length d) (sym got.0) in
    let first = get_or_read d _ _ inside got.1 0 in
    rw first (ap (read_at a.at) (sym (first_whole d a.at inside (rw first at c.if-first-lt128.true))))

pub quick_third-requires-clause-begun : goal.quick_third-requires-clause-begun
quick_third-requires-clause-begun c =
    let a = c.args in
    let d = a.src.now in
    let got = c.in_ok-second.ensures.lookup in
    let inside = ltb-true (a.at + 1) (length d) (sym got.0) in
    let first = get_or_read d _ _ (omega arith) c.in_ok-first.ensures.lookup.1 0 in
    let second = get_or_read d _ _ inside got.1 0 in
    let one = begun_first d a.at (omega arith) (rw first at c.if-first-lt128.false) in
    rw (first, second) (begun_more one inside _ _ refl refl (rw second at c.if-second-gt127.true))

pub returns-else-second-eq0 : goal.returns-else-second-eq0
returns-else-second-eq0 c =
    let a = c.args in
    let d = a.src.now in
    let got = c.in_ok-second.ensures.lookup in
    let inside = ltb-true (a.at + 1) (length d) (sym got.0) in
    let first = get_or_read d _ _ (omega arith) c.in_ok-first.ensures.lookup.1 0 in
    let second = get_or_read d _ _ inside got.1 0 in
    let one = begun_first d a.at (omega arith) (rw first at c.if-first-lt128.false) in
    rw (first, second) (begun_ends one inside (omega arith) (omega arith) (omega arith) refl (omega arith) (omega arith))
