-- `repair_listing::listing::list_kept` meets its contract: one line if it is longer, then one if it moved. Assumes nothing.
use Rattle.std.proofs.Common.{ltb, arith}
use Rattle.fields_spec.proofs.Varints.{length_five}
use Rattle.repair_spec.specs.Inner.Steps.{old_of}
use Rattle.repair_spec.proofs.KeptLines.{kept_listed}
use Rattle.repair_listing.proofs.listing.list_kept.Goals as goal

pub overflow_add-is_longer : goal.overflow_add-is_longer
overflow_add-is_longer c = omega (arith, c.varint_len.ensures, length_five c.args.count (omega (arith, c.ranges.count)))

pub returns : goal.returns
returns c =
    let a = c.args in
    kept_listed (old_of a.at a.epoch a.count a.next) c.varint_len.result (ltb a.epoch a.highest)
    c.varint_len.ensures c.list_line_if-behind.ensures c.list_line_if.ensures
