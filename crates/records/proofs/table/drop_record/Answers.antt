-- What stands behind the place is copied down by one, and so the place is dropped. Assumes nothing.
use Rattle.std.proofs.Common.{◌≡◌, ℕ, ◌+◌, ◌-◌, ◌<◌, ◌≤◌, List, length, take, add-one, ◌∙◌, arith}
use Rattle.std.proofs.Math.Seq.{take-take}
use Rattle.std.proofs.lemmas.List.{length-append, length-take, length-drop}
use Rattle.std.proofs.lemmas.Slice.{between_is}
use Rattle.std.specs.List.{copy_within}
use Rattle.records_spec.specs.Tables.{without, over}
use Rattle.records.proofs.table.drop_record.Goals as goal

dropped : (n at : ℕ) (old : List ℕ) → at < n → n ≤ length old → copy_within old (at + 1) n at ≡ over (without at (take n old)) old
dropped n at old p q =
    let long : length (without at (take n old)) ≡ at + (n - (at + 1)) = simp (length-append, length-take, length-drop) (omega arith) in
    rw (long, between_is old (at + 1) n, take-take at n old (omega arith), add-one)

pub returns : goal.returns
returns c =
    let a = c.args in
    let p = c.requires in (
      c.copy_within.ensures.after ∙ dropped a.n a.at a.epochs.now p.0 p.1.0,
      c.copy_within-2.ensures.after ∙ dropped a.n a.at a.counts.now p.0 p.1.1,
    )
