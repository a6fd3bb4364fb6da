-- `listing::lines::put_record_lines` meets its contract. The invariant: the lines of the records left are left to write, at the place reached.
-- Assumes nothing.
use Rattle.records_spec.specs.Tables.{records_of}
use Rattle.listing_spec.specs.Text.{record_texts}
use Rattle.fields_spec.proofs.Parts.{Parts}
use Rattle.listing.proofs.Zipped.{lines_left}
use Rattle.listing.proofs.lines.put_record_lines.Given as goal

abbrev pub invariant-loop-epoch : goal.invariant-loop-epoch
invariant-loop-epoch l = Parts (record_texts (records_of l.epochs l.counts)) l.at l.initial.out (lines_left l.epoch-iterator) l.i l.out
