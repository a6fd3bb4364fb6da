-- `listing::lines::owner_len` meets its contract: the owner has 32 bytes, of two digits each. Assumes nothing.
use Rattle.std.proofs.Common.{sym, ◌∙◌, arith}
use Rattle.listing_spec.proofs.Hexes.{length_hex, length_owner}
use Rattle.listing.proofs.lines.owner_len.Goals as goal

pub returns-then-is_owned : goal.returns-then-is_owned
returns-then-is_owned c =
    let owner = c.args.head.owner in
    let owned = sym c.is_owned.ensures ∙ c.if-is_owned.true in
    rw owned (record { counts = omega (arith, length_owner owner, length_hex owner); bounded = omega arith })
