-- `listing::flags::put_flags` meets its contract: its five parts are written one after another. Assumes nothing.
use Rattle.std.proofs.Common.{refl}
use Rattle.fields_spec.proofs.Parts.{parts_start, parts_put, parts_last}
use Rattle.listing.proofs.flags.put_flags.Goals as goal

pub returns : goal.returns
returns c =
    let kind = parts_put (parts_start _ _ _) refl c.put_number_line-second.ensures in
    let owner = parts_put kind refl c.put_owner_line-third.ensures in
    let base = parts_put owner refl c.put_number_line-fourth.ensures in
    let records = parts_put base refl c.put_record_lines-last.ensures in
    rw (← c.type_byte.ensures) (parts_last records c.put_number_line.ensures)
