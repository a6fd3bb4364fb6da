-- The size is that of what C gave. Assumes nothing.
use mathlib.Core.Path.{◌∙◌}
use Rattle.capi.proofs.writing.petasunok_approximate_size.Goals as goal

pub returns : goal.returns
returns c = c.approximate_size.ensures ∙ simp (c.is_true.ensures, c.changes_given.ensures)
