-- A proper sectioned removal has proper rows. Assumes nothing.
use Rattle.rows_spec.specs.Rows.{tables}
use Rattle.rows_spec.proofs.Removals.{proper_sectioned}
use Rattle.removal.proofs.removing.remove_bytes.Goals as goal

pub remove_rows-requires-clause-proper : goal.remove_rows-requires-clause-proper
remove_rows-requires-clause-proper c =
    let a = c.args in
    proper_sectioned a.removed _ (tables a.ids.now a.removed_epochs.now a.removed_bytes.now) c.requires.removed_bytes_value c.in-Sectioned.is
