-- Of all records' bytes those of the records that the two iterators still have are left to write. Assumes nothing.
use Rattle.fields_spec.proofs.Parts.{Parts}
use Rattle.records_spec.specs.Tables.{records_of}
use Rattle.codec_spec.specs.Bytes.{records_bytes}
use Rattle.codec_writing.proofs.writing.put_records.Given as goal

abbrev pub invariant-loop-epoch : goal.invariant-loop-epoch
invariant-loop-epoch l =
    let all = records_bytes (records_of l.epochs l.counts) in
    let left = records_bytes (records_of l.epoch-iterator.a.rest.now l.epoch-iterator.b.rest.now) in
    Parts all l.at l.initial.out left l.i l.out
