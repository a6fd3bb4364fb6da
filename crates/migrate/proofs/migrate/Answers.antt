-- `migrate::migrate` is safe: a repair that is done leaves its bytes and its lines in what was lent. Assumes nothing.
use Rattle.change_lines_spec.proofs.Repairs.{left_repair}
use Rattle.migrate.proofs.migrate.Goals as goal

pub write_repaired-requires : goal.write_repaired-requires
write_repaired-requires c =
    let left = left_repair _ _ _ _ _ _ _ _ _ c.in-Ok.ensures in
    record { bytes_fit = left.bytes_fit; offsets_fit = left.offsets_fit; changes_fit = left.changes_fit }
