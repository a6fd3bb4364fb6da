-- `listing::digits::put_decimal` meets its contract. The invariant: the last digits of the rest are left to write, before the place reached.
-- Assumes nothing.
use Rattle.std.proofs.Common.{arith}
use Rattle.listing.proofs.Decimals.{backing_start, backing_more}
use Rattle.listing.proofs.digits.put_decimal.Goals as goal

pub loop-i-init : goal.loop-i-init
loop-i-init c = backing_start (omega (arith, c.decimal_len.ensures.counts))

pub loop-i-preserved : goal.loop-i-preserved
loop-i-preserved c = backing_more c.loop-i.invariant c.loop-i-test.true
