-- `listing::digits::put_decimal` meets its contract. The invariant: the last digits of the rest are left to write, before the place reached.
-- Assumes nothing.
use Rattle.listing.proofs.Decimals.{Backing}
use Rattle.listing.proofs.digits.put_decimal.Given as goal

abbrev pub invariant-loop-i : goal.invariant-loop-i
invariant-loop-i l = Backing l.n l.at l.initial.out l.rest l.i l.out
