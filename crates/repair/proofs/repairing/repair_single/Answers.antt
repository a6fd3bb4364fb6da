-- `repair::repairing::repair_single` meets its contract: nothing is left, so any tables will do. Assumes nothing.
use Rattle.std.proofs.Common.{ap}
use Rattle.records_spec.specs.declared.head.Head.{Head}
use Rattle.repair_spec.proofs.Readying.{single_standing, single_ready}
use Rattle.repair.proofs.repairing.repair_single.Goals as goal

pub settle-requires : goal.settle-requires
settle-requires c =
    let a = c.args in
    let p = c.requires in
    let h = c.head_in-head in
    record {
      settled = single_standing a.kind a.src.now p.0 _ _ p.1 (ap (λ (x : Head). x.records) h.ensures);
      ready = single_ready a.kind a.src.now p.0 h.result _ _ h.ensures;
    }
