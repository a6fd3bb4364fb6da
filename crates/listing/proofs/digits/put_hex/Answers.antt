-- `listing::digits::put_hex` meets its contract. The invariant: the digits of the bytes left are left to write, at the place reached.
-- Assumes nothing.
use Rattle.std.proofs.Common.{arith}
use Rattle.std.proofs.Math.ListN.{length-set}
use Rattle.fields_spec.proofs.Parts.{parts_room, parts_done}
use Rattle.listing_spec.proofs.Hexes.{hex_end, hex_two, hex_put}
use Rattle.listing.proofs.digits.put_hex.Goals as goal

pub bounds-out-i : goal.bounds-out-i
bounds-out-i c =
    let l = c.loop-byte in
    omega (arith, parts_room l.invariant c.requires, hex_two c.args.bytes.now l.byte-index c.loop-byte-test.true)

pub bounds-out-i-in-loop-byte : goal.bounds-out-i-in-loop-byte
bounds-out-i-in-loop-byte c =
    let l = c.loop-byte in
    simp length-set (omega (arith, parts_room l.invariant c.requires, hex_two c.args.bytes.now l.byte-index c.loop-byte-test.true))

pub loop-byte-preserved : goal.loop-byte-preserved
loop-byte-preserved c =
    hex_put _ _ c.loop-byte-test.true c.loop-byte.invariant c.hex_digit.ensures c.hex_digit-in-loop-byte.ensures

pub returns : goal.returns
returns c = parts_done c.loop-byte.invariant (hex_end _ _ c.loop-byte-test.false)
