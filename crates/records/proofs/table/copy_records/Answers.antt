-- The first n records are a run of n. Assumes nothing.
use Rattle.std.proofs.Common.{arith}
use Rattle.records.proofs.Runs.{run_long}
use Rattle.records.proofs.table.copy_records.Goals as goal

pub returns : goal.returns
returns c =
    let a = c.args in
    let p = c.requires.n_in_bounds in
    let q = c.copy_run.ensures in
    let long = run_long a.from_epochs.now a.from_counts.now 0 a.n p.0 p.1 in
    record { behind = omega arith; epochs_set = q.epochs_set; counts_set = q.counts_set }
