-- `listing::lines::put_text` meets its contract: the part that is copied is the text. Assumes nothing.
use Rattle.std.proofs.Common.{arith}
use Rattle.std.proofs.lemmas.Grind.{common_steps}
use Rattle.std.proofs.lemmas.List.Edits.{sets-eq}
use Rattle.listing.proofs.lines.put_text.Goals as goal

pub returns : goal.returns
returns c = record { behind = omega arith; wrote = grind (arith, common_steps, sets-eq) }
