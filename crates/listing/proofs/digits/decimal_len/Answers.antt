-- `listing::digits::decimal_len` meets its contract: the logarithm counts the digits. Assumes nothing.
use Rattle.std.proofs.Common.{arith}
use Rattle.listing.proofs.Decimals.{length_log}
use Rattle.listing.proofs.digits.decimal_len.Goals as goal

pub returns : goal.returns
returns c =
    let l = c.ilog10.ensures in
    let n = length_log c.ilog10.result c.args.n c.max.result c.max.ensures l.power_le l.next_power_gt in
    record { counts = omega arith; bounded = omega (arith, l.bound) }
