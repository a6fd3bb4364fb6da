-- `listing::lines::put_owner_line` meets its contract: the parts of an owner's line are written one after another. Assumes nothing.
use Rattle.std.proofs.Common.{refl, sym, ◌∙◌}
use Rattle.fields_spec.proofs.Parts.{parts_start, parts_put, parts_last}
use Rattle.listing.proofs.lines.put_owner_line.Goals as goal

pub returns-then-is_owned : goal.returns-then-is_owned
returns-then-is_owned c =
    let word = parts_put (parts_start _ _ _) refl c.put_text-digits.ensures in
    rw (sym c.is_owned.ensures ∙ c.if-is_owned.true) (parts_last (parts_put word refl c.put_hex-end.ensures) c.put_text.ensures)
