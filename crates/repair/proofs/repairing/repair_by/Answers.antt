-- `repair::repairing::repair_by` meets its contract: the marked tables, drawn together, hold the flags that are left. Assumes nothing.
use Rattle.fields_spec.specs.Theorems.{Bytes}
use Rattle.repair_spec.proofs.Readying.{settled_ready}
use Rattle.repair.proofs.repairing.repair_by.Goals as goal

pub settle-requires : goal.settle-requires
settle-requires c =
    let a = c.args in
    let p = c.requires in
    let m = c.mark.ensures in
    let g = c.gather-n in
    let bytes : Bytes a.src.now = λ i. (c.type_inv.src i).fits in
    let both = settled_ready a.kind a.src.now p.kind_value.0 bytes p.kind_value.1 c.base_in-base.result c.head_size-start.result
    c.base_in-base.ensures c.head_size-start.ensures
    a.places.now a.counts.now _ _ p.blank.0 p.blank.1 m.places_value m.counts_value
    a.epochs.now p.blank.2 g.result _ _ g.ensures c.kind_left.result c.kind_left.ensures
    c.head_in-head.result c.head_in-head.ensures in
    record { settled = both.0; ready = both.1 }
