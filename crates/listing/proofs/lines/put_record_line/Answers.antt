-- `listing::lines::put_record_line` meets its contract: its parts are written one after another. Assumes nothing.
use Rattle.std.proofs.Common.{refl}
use Rattle.fields_spec.proofs.Parts.{parts_start, parts_put, parts_last}
use Rattle.listing.proofs.lines.put_record_line.Goals as goal

pub returns : goal.returns
returns c =
    let word = parts_put (parts_start _ _ _) refl c.put_text-number.ensures in
    parts_last (parts_put word refl c.put_decimal-end.ensures) c.put_number_line.ensures
