-- The sections that are left decide. Assumes nothing.
use Rattle.std.proofs.Common.{◌≡◌}
use Rattle.std.specs.Iterator.Adapters.{zip_first, zip_second}
use Rattle.std.specs.Slice.Iter.{iter_rest}
use Rattle.records_spec.specs.Tables.{records_of, union}
use Rattle.removal_spec.specs.Removing.{all_fine}
use Rattle.removal.proofs.sections.judge_sections.Given as goal

abbrev pub invariant-loop-epoch : goal.invariant-loop-epoch
invariant-loop-epoch l =
    let records = union (records_of l.our_epochs l.our_counts) (records_of l.their_epochs l.their_counts) in
    let left = records_of (iter_rest (zip_first l.epoch-iterator)) (iter_rest (zip_second l.epoch-iterator)) in
    all_fine l.base records (records_of l.epochs l.bytes) ≡ all_fine l.base records left
