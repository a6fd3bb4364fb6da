-- The rows are the identifier's alone, and then a table of sections; or not. Assumes nothing.
use Rattle.std.proofs.Common.{refl, sym, ◌∙◌}
use Rattle.records_spec.specs.Flags.{lending}
use Rattle.records_spec.specs.Outcomes.{refused}
use Rattle.records_spec.specs.declared.refusal.Refusal.TheVariants.{DifferentOwners}
use Rattle.records_spec.proofs.Answers.{refused_placing}
use Rattle.rows_spec.proofs.Parts.{parts_in}
use Rattle.removal_spec.proofs.Under.{under_table}
use Rattle.removal.proofs.removing.remove_rows.Goals as goal

pub remove_sections-requires-clause-table_3 : goal.remove_sections-requires-clause-table_3
remove_sections-requires-clause-table_3 c =
    under_table c.requires.proper c.args.id (sym c.only_under.ensures ∙ c.if-only_under.true)

pub returns-then-only_under : goal.returns-then-only_under
returns-then-only_under c =
    rw (sym c.only_under.ensures ∙ c.if-only_under.true, parts_in c.requires.proper.room) c.remove_sections.ensures

pub returns-else-only_under : goal.returns-else-only_under
returns-else-only_under c =
    rw (sym c.only_under.ensures ∙ c.if-only_under.false)
    (refused_placing _ (lending _ _) (refused _) DifferentOwners refl refl)
