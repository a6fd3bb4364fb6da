-- `listing::lines::records_len` meets its contract. The invariant: the size so far and that of the records left make that of all.
-- Assumes nothing.
use Rattle.std.proofs.Common.{◌≡◌, ◌+◌, ◌*◌, ◌≤◌, length}
use Rattle.std.specs.Iterator.Adapters.{zip_first}
use Rattle.std.specs.Slice.Iter.{iter_rest}
use Rattle.records_spec.specs.Tables.{records_of}
use Rattle.listing_spec.specs.Inner.Sizes.{longest_record_line}
use Rattle.listing_spec.specs.Text.{record_texts}
use Rattle.listing.proofs.Zipped.{lines_left}
use Rattle.listing.proofs.lines.records_len.Given as goal

abbrev pub invariant-loop-epoch : goal.invariant-loop-epoch
invariant-loop-epoch l = record {
  bounded : l.size + longest_record_line * length (iter_rest (zip_first l.epoch-iterator)) ≤ longest_record_line * length l.epochs;
  counts : l.size + length (lines_left l.epoch-iterator) ≡ length (record_texts (records_of l.epochs l.counts));
}
