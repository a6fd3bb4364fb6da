-- A block passes some bytes or has the first fault; behind the loop nothing is left to read. Assumes nothing.
use Rattle.std.proofs.Common.{◌≡◌, length, refl, sym, ap, ◌∙◌, arith, Err}
use Rattle.std.specs.Prelude.{Option, None}
use Rattle.std.proofs.lemmas.Result.{err_from_is_err_and}
use native.Mathlib.Decide.{dec_lt}
use Rattle.codec_spec.specs.Reading.{Parsed}
use Rattle.codec_spec.specs.declared.judging.Fault.{Fault}
use Rattle.codec_spec.specs.Inner.Blocks.{scan_of}
use Rattle.codec_spec.proofs.Parsing.{rest, rest_end}
use Rattle.codec_spec.proofs.Turns.{scan_none, scan_some}
use Rattle.codec_spec.proofs.Stacking.{taken_long}
use Rattle.codec_judging.proofs.block.judge_records.Goals as goal
use Rattle.codec_judging.proofs.block.judge_records.Goals.{After-loop-at}

pub loop-at-init : goal.loop-at-init
loop-at-init c = record { within = omega arith; passed = omega arith; fault_on = refl; records_on = omega arith }

pub returns-in_err-block : goal.returns-in_err-block
returns-in_err-block c =
    let a = c.args in
    let passed = err_from_is_err_and c.from_residual.result c.from_residual.ensures.1 in
    let here = c.in_err-block.ensures.at_fault _ refl in
    let all = λ (f : Option Fault). scan_of (length a.src.now) f (length (rest a.src.now a.start a.base).records) in
    rw (passed.1, passed.2) (ap all (sym here ∙ c.loop-at.invariant.fault_on))

pub overflow_add-n : goal.overflow_add-n
overflow_add-n c =
    let t = (c.in_ok-block.ensures.taken _ refl).0 in
    omega (arith, t.gains, t.within, c.loop-at.invariant.passed)

pub loop-at-smaller : goal.loop-at-smaller
loop-at-smaller c =
    let taken = c.in_ok-block.ensures.taken _ refl in
    elim (dec_lt c.in_ok-block.block.next (length c.args.src.now)) [
      | yes h ↦ let some = taken.1 h in omega (arith, taken.0.gains, c.loop-at-test.true)
      | no h ↦ omega (arith, taken.0.within, c.loop-at-test.true)
    ]

pub loop-at-preserved : goal.loop-at-preserved
loop-at-preserved c =
    let t = (c.in_ok-block.ensures.taken _ refl).0 in
    let i = c.loop-at.invariant in
    record {
      within = t.within;
      passed = omega (arith, t.gains, i.passed);
      fault_on = sym t.fault_on ∙ i.fault_on;
      records_on = omega (arith, taken_long t 0, i.records_on);
    }

-- behind the loop there is no fault, and the records are all
ended : (c : After-loop-at) → let all = rest c.args.src.now c.args.start c.args.base in (all.fault ≡ None) × (c.loop-at.n ≡ length all.records)
ended c =
    let e = rest_end c.args.src.now c.loop-at.at c.loop-at.prev c.loop-at-test.false in
    let i = c.loop-at.invariant in
    (sym i.fault_on ∙ ap (λ (p : Parsed). p.fault) e, omega (arith, ap (λ (p : Parsed). length p.records) e, i.records_on))

pub returns-then-n-eq0 : goal.returns-then-n-eq0
returns-then-n-eq0 c =
    let e = ended (goal.at.returns-then-n-eq0 c).After-loop-at in
    ap Err c.fault.ensures ∙ scan_none _ _ _ e.0 (omega (arith, e.1, c.if-n-eq0.true))

pub returns : goal.returns
returns c = let e = ended (goal.at.returns c).After-loop-at in scan_some _ _ _ _ e.0 e.1 c.if-n-eq0.false
