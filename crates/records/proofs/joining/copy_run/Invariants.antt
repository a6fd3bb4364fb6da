-- What is left of the run makes of the tables what all of it makes of those lent. Assumes nothing.
use Rattle.std.proofs.Common.{◌≡◌, ◌+◌, ◌-◌}
use Rattle.records_spec.specs.Tables.{records_of}
use Rattle.records_spec.specs.Inner.Runs.{stretch}
use Rattle.records_spec.proofs.Tables.{Filling}
use Rattle.records.proofs.joining.copy_run.Given as goal

abbrev pub invariant-loop-a : goal.invariant-loop-a
invariant-loop-a l =
    let all = records_of l.from_epochs l.from_counts in
    record {
      place : l.k ≡ l.at + (l.a - l.i);
      filling : Filling (stretch l.i l.end all) (stretch l.a l.end all) l.at l.k l.initial.epochs l.initial.counts l.epochs l.counts;
    }
