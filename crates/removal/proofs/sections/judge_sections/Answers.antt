-- The first section that is left is at fault, or the others decide, or none is left. Assumes nothing.
use Rattle.std.proofs.Common.{◌≡◌, sym, ◌∙◌}
use Rattle.std.proofs.lemmas.Slice.Zip.{Zip-more, either_empty_from_Zip}
use Rattle.std.proofs.lemmas.Result.{err_from_is_err_and}
use Rattle.records_spec.specs.Tables.{records_of, union}
use Rattle.records_spec.specs.Outcomes.{refused}
use Rattle.removal_spec.specs.Removing.{all_fine}
use Rattle.removal_spec.proofs.Faults.{faults_end, faults_on, faults_at}
use Rattle.removal.proofs.sections.judge_sections.Goals as goal

pub loop-epoch-init : goal.loop-epoch-init
loop-epoch-init c = cc

pub loop-epoch-preserved : goal.loop-epoch-preserved
loop-epoch-preserved c =
    let a = c.args in
    let left = Zip-more c.loop-epoch.epoch-iterator c.next.new.self _ _ c.in-Some.is c.next.ensures.steps in
    c.loop-epoch.invariant
    ∙ faults_on a.base _ c.in-Some.epoch.now c.in-Some.taken.now _ _ left.0 left.1 (sym c.in_ok-judge_section.ensures)

pub returns-in_err-judge_section : goal.returns-in_err-judge_section
returns-in_err-judge_section c =
    let a = c.args in
    let left = Zip-more c.loop-epoch.epoch-iterator c.next.new.self _ _ c.in-Some.is c.next.ensures.steps in
    let passed = err_from_is_err_and c.from_residual.result c.from_residual.ensures.1 in
    let records = union (records_of a.our_epochs.now a.our_counts.now) (records_of a.their_epochs.now a.their_counts.now) in
    let fault = faults_at a.base records c.in-Some.epoch.now c.in-Some.taken.now _ _ left.0 left.1 _ (sym c.in_err-judge_section.ensures) in
    let decides : all_fine a.base records (records_of a.epochs.now a.bytes.now) ≡ refused _ = c.loop-epoch.invariant ∙ fault in
    rw (passed.1, passed.2) (sym decides)

pub returns : goal.returns
returns c =
    let none = either_empty_from_Zip c.loop-epoch.epoch-iterator c.next.new.self _ c.in-None.is c.next.ensures.steps in
    sym (c.loop-epoch.invariant ∙ faults_end c.args.base _ _ _ none)
