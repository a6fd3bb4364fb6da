-- Each limit passed is one byte more. Assumes nothing.
use Rattle.std.proofs.Common.{arith}
use Rattle.fields_spec.proofs.Varints.{length_limits}
use Rattle.fields.proofs.limits.len_by_limits.Goals as goal

pub returns : goal.returns
returns c = length_limits c.args.count (omega arith)
