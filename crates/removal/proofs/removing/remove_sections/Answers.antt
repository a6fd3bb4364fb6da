-- A section is at fault. Assumes nothing.
use Rattle.std.proofs.Common.{refl, ap, ◌∙◌, Err}
use Rattle.std.proofs.lemmas.Result.{err_from_is_err_and}
use Rattle.records_spec.specs.Flags.{lending}
use Rattle.records_spec.specs.Outcomes.{refused}
use Rattle.records_spec.proofs.Answers.{refused_placing}
use Rattle.removal.proofs.removing.remove_sections.Goals as goal

pub returns-in_err-judge_sections : goal.returns-in_err-judge_sections
returns-in_err-judge_sections c =
    let passed = err_from_is_err_and c.from_residual.result c.from_residual.ensures.1 in
    rw (← c.in_err-judge_sections.ensures) (refused_placing _ (lending _ _) (refused _) _ (passed.1 ∙ ap Err passed.2) refl)
