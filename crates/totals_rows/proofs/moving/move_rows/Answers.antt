-- What `copy_within` leaves of a column is what is to be moved, set at the new place; what is moved to where it stands changes nothing.
-- Assumes nothing.
use Rattle.std.proofs.Common.{◌≡◌, ℕ, ◌+◌, ◌-◌, ◌≤◌, List, length, take, drop, sym, ◌∙◌, arith, length-drop, length-take-le}
use Rattle.std.specs.List.{copy_within}
use Rattle.std.proofs.lemmas.List.Edits.{sets-eq}
use Rattle.std.proofs.lemmas.Slice.{between_is}
use Rattle.records_spec.proofs.Sliding.{stays}
use Rattle.rows_spec.proofs.Columns.{three}
use Rattle.totals_spec.specs.Inner.Steps.{moved_in}
use Rattle.totals_rows.proofs.moving.move_rows.Goals as goal

copied : {A : Type 0} (from upto to : ℕ) (l : List A) → from ≤ upto → upto ≤ length l → to + (upto - from) ≤ length l
    → copy_within l from upto to ≡ moved_in from upto to l
copied from upto to l h k r =
    let run = drop from (take upto l) in
    let long : length run ≡ upto - from = length-drop from (take upto l) ∙ rw (length-take-le upto l k) in
    rw (between_is l from upto) (sym (rw (← long) (sets-eq run l to (omega arith))))

pub returns-then-to-from : goal.returns-then-to-from
returns-then-to-from c =
    let a = c.args in
    let q = c.requires in
    three
    (c.copy_within.ensures.after ∙ copied a.from a.upto a.to a.owners.now q.from_le_upto q.room.ids_long q.room_there.ids_long)
    (c.copy_within-then-to-from.ensures.after ∙ copied a.from a.upto a.to a.epochs.now q.from_le_upto q.room.epochs_long q.room_there.epochs_long)
    (c.copy_within-then-to-from-2.ensures.after ∙ copied a.from a.upto a.to a.totals.now q.from_le_upto q.room.bytes_long q.room_there.bytes_long)

pub returns-else-to-from : goal.returns-else-to-from
returns-else-to-from c =
    let a = c.args in
    let q = c.requires in
    rw c.if-to-from.false (three
    (sym (stays a.from a.upto a.owners.now q.from_le_upto q.room.ids_long))
    (sym (stays a.from a.upto a.epochs.now q.from_le_upto q.room.epochs_long))
    (sym (stays a.from a.upto a.totals.now q.from_le_upto q.room.bytes_long)))
