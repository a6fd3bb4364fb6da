-- The size and what judging the records found lead to each case of `read_as`. Assumes nothing.
use Rattle.std.proofs.Common.{length, refl, sym, ap, ◌∙◌, arith, Ok, Err}
use Rattle.std.specs.Prelude.{Some}
use Rattle.std.proofs.lemmas.Result.{err_from_is_err_and}
use Rattle.records_spec.specs.Flags.{head_for}
use Rattle.codec_spec.specs.Reading.{base_in, owner_in, records_in}
use Rattle.codec_spec.specs.Calls.{judgement}
use Rattle.codec_spec.proofs.Readings.{Scanned, multi_short, agrees_multi, scan_faulty, scan_records, scan_read}
use Rattle.codec_judging.proofs.judging.judge_multi.Goals as goal
use Rattle.codec_judging.proofs.judging.judge_multi.Goals.{In_ok-n}

pub returns-then-src-size : goal.returns-then-src-size
returns-then-src-size c =
    let a = c.args in
    ap Err c.fault.ensures
    ∙ ap judgement (sym (multi_short a.kind a.src.now c.requires (omega (arith, c.head_size-size.ensures, c.if-src-size.true))))

pub returns-in_err-n : goal.returns-in_err-n
returns-in_err-n c =
    let a = c.args in
    let passed = err_from_is_err_and c.from_residual.result c.from_residual.ensures.1 in
    let found = scan_faulty a.kind a.src.now _ _ _ c.head_size-size.ensures c.base_in-base.ensures c.in_err-n.ensures c.requires c.if-src-size.false _ refl in
    rw (passed.1, passed.2) (ap judgement (sym found))

-- the records are sound, and so many
scanned : (c : In_ok-n) → let k = c.args.kind in let xs = c.args.src.now in
    Scanned (length xs) (base_in k xs) (owner_in k xs) (records_in k xs).fault (records_in k xs).records c.in_ok-n.n
scanned c =
    scan_records c.args.kind c.args.src.now _ _ _ c.head_size-size.ensures c.base_in-base.ensures c.in_ok-n.ensures c.requires
    c.if-src-size.false c.in_ok-n.n refl

pub head_in-requires-clause-records_value : goal.head_in-requires-clause-records_value
head_in-requires-clause-records_value c =
    agrees_multi c.args.kind c.in_ok-n.n c.requires (scanned (goal.at.head_in-requires-clause-records_value c).In_ok-n).some_records

pub returns : goal.returns
returns c =
    let k = c.args.kind in
    let xs = c.args.src.now in
    let s = scanned (goal.at.returns c).In_ok-n in
    ap (λ h. Ok (Some h)) (c.head_in.ensures ∙ ap (head_for (base_in k xs) (owner_in k xs)) s.count)
    ∙ ap judgement (sym (scan_read k xs _ _ _ c.head_size-size.ensures c.base_in-base.ensures c.in_ok-n.ensures c.requires c.if-src-size.false c.in_ok-n.n refl))
