-- The first byte without the top bit ends the varint (`Lows`): it is the first byte, one behind it, or none of the first ten. Assumes nothing.
use Rattle.std.proofs.Common.{sym, ap, ◌∙◌, arith, drop}
use Rattle.std.proofs.lemmas.List.{take_rest}
use Rattle.fields_spec.specs.Inner.Varints.{judged_at}
use Rattle.fields_spec.proofs.Places.{passed_none, judged_cut}
use Rattle.fields_spec.proofs.Lows.{low_cut, low_first, low_ending}
use Rattle.fields.proofs.varint.judge_varint.Goals as goal

pub returns-then-src-at : goal.returns-then-src-at
returns-then-src-at c = let a = c.args in judged_cut a.src.now a.at 0 (passed_none a.src.now a.at) (omega arith)

pub end_at-requires : goal.end_at-requires
end_at-requires c =
    let a = c.args in
    let e = rw take_rest at c.first_low.ensures in
    low_ending a.src.now a.at c.in-Some.k (omega arith) (sym e ∙ c.in-Some.is)

pub returns-in-None : goal.returns-in-None
returns-in-None c =
    let a = c.args in
    let e = rw take_rest at c.first_low.ensures in
    ap (judged_at a.at) (sym (low_cut (drop a.at a.src.now) (sym e ∙ c.in-None.is)))

pub returns-in-Some-eq0 : goal.returns-in-Some-eq0
returns-in-Some-eq0 c =
    let a = c.args in
    let e = rw take_rest at c.first_low.ensures in
    low_first a.src.now a.at (rw c.in-Some-eq0.field-0-test at (sym e ∙ c.in-Some-eq0.is))
