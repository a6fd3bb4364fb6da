-- A whole varint goes on while its bytes have the top bit set (`whole_inside`), and each adds its group (`Begun`). Assumes nothing.
use Rattle.std.proofs.Common.{sym, ap, refl, arith}
use Rattle.fields_spec.specs.Inner.Varints.{read_at}
use Rattle.fields_spec.proofs.Places.{first_inside, first_whole, whole_inside}
use Rattle.fields_spec.proofs.Endings.{begun_first, begun_more, begun_whole}
use Rattle.fields.proofs.varint.varint_at.Goals as goal

pub bounds-src-at : goal.bounds-src-at
bounds-src-at c = first_inside c.args.src.now c.args.at c.requires

pub overflow_add-result : goal.overflow_add-result
overflow_add-result c = omega (arith, first_inside c.args.src.now c.args.at c.requires)

pub returns-then-first-lt128 : goal.returns-then-first-lt128
returns-then-first-lt128 c =
    let a = c.args in
    ap (read_at a.at) (sym (first_whole a.src.now a.at (first_inside a.src.now a.at c.requires) c.if-first-lt128.true))

pub bounds-src-at-2 : goal.bounds-src-at-2
bounds-src-at-2 c =
    let a = c.args in
    let one = begun_first a.src.now a.at (first_inside a.src.now a.at c.requires) c.if-first-lt128.false in
    whole_inside a.src.now a.at 1 one.passed c.requires

pub returns-then-second-lt128 : goal.returns-then-second-lt128
returns-then-second-lt128 c =
    let a = c.args in
    let one = begun_first a.src.now a.at (first_inside a.src.now a.at c.requires) c.if-first-lt128.false in
    let inside = whole_inside a.src.now a.at 1 one.passed c.requires in
    begun_whole one inside c.if-second-lt128.true (omega arith) (omega arith) refl c.requires

pub varint_third-requires-clause-begun : goal.varint_third-requires-clause-begun
varint_third-requires-clause-begun c =
    let a = c.args in
    let one = begun_first a.src.now a.at (first_inside a.src.now a.at c.requires) c.if-first-lt128.false in
    begun_more one (whole_inside a.src.now a.at 1 one.passed c.requires) _ _ refl refl c.if-second-lt128.false
