-- What stands at the place that `find` gives is at the epoch, or none is. Assumes nothing.
use Rattle.std.proofs.Common.{arith}
use Rattle.records_spec.proofs.Around.{spot_at, spot_off}
use Rattle.records.proofs.table.look_up.Goals as goal
use Rattle.records.proofs.table.look_up.Goals.{else-below-epochs-via-then-below-epochs+else-epochs-below, else-below-epochs-via-else-below-epochs}

pub returns-then-epochs-below : goal.returns-then-epochs-below
returns-then-epochs-below c =
    spot_at c.requires _ _ c.find-below.ensures c.if-below-epochs.true c.if-epochs-below.true

pub returns-else-below-epochs : goal.returns-else-below-epochs
returns-else-below-epochs c =
    spot_off c.requires _ _ c.find-below.ensures (λ p q.
    elim c.else-below-epochs.branch [
      | else-below-epochs-via-then-below-epochs+else-epochs-below w ↦ w.if-epochs-below.false q
      | else-below-epochs-via-else-below-epochs w ↦ omega (arith, w.if-below-epochs.false)
    ])
