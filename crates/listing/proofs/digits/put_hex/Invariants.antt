-- `listing::digits::put_hex` meets its contract. The invariant: the digits of the bytes left are left to write, at the place reached.
-- Assumes nothing.
use Rattle.std.proofs.Common.{drop}
use Rattle.fields_spec.proofs.Parts.{Parts}
use Rattle.listing_spec.specs.Text.{hex}
use Rattle.listing.proofs.digits.put_hex.Given as goal

abbrev pub invariant-loop-byte : goal.invariant-loop-byte
invariant-loop-byte l = Parts (hex l.bytes) l.at l.initial.out (hex (drop l.byte-index l.bytes)) l.i l.out
