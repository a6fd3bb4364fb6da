-- Two bytes say a number the highest first. Assumes nothing.
use Rattle.std.proofs.Common.{◌∙◌}
use Rattle.fields_spec.proofs.Bigs.{two_at}
use Rattle.fields.proofs.big.be16_at.Goals as goal

pub returns : goal.returns
returns c = c.from_be_bytes.ensures ∙ two_at c.args.src.now c.args.at c.requires
