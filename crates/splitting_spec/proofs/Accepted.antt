-- What accepted calls leave, read back: the removals are proper and come to what was removed, and so many records were visited as the value's has
-- sections beside the base. And when the calls are refused: never for an amount.
-- Assumes nothing.
use mathlib.Core.Path.{◌≡◌, refl, sym, ap, ◌∙◌}
use mathlib.Core.Bool.{true}
use mathlib.Core.Logic.{◌⊎◌}
use Prim.Native.Nat.{ℕ, ◌+◌}
use native.Mathlib.Omega.{arith}
use lib.ListN.{length}
use Rattle.records_spec.specs.Tables.{epochs_of, ascending}
use Rattle.records_spec.specs.Flags.{Flags, id_of, flags_of, proper, Held}
use Rattle.records_spec.specs.Outcomes.{refused, ok, leaving, after}
use Rattle.rows_spec.specs.Calls.{RemovalAfter}
use Rattle.records_spec.specs.Refusals.{number}
use Rattle.records_spec.specs.declared.refusal.Refusal.TheVariants.{NoRoom, BadTable}
use Rattle.records_spec.proofs.Proper.{proper_inv, proper_ascends}
use Rattle.rows_spec.specs.Rows.{Tables, parts_of, Room, over_rows, room_in}
use Rattle.rows_spec.specs.Removals.{Removal, rows_of_removal, state_of, removal_in, total}
use Rattle.rows_spec.specs.declared.removed.Removed.{Removed}
use Rattle.rows_spec.specs.declared.removed.Removed.TheVariants.{None}
use Rattle.rows_spec.specs.Theorems.{done, StandsFor}
use Rattle.rows_spec.proofs.Rows.{has_room, room_less}
use Rattle.rows_spec.proofs.Columns.{over_nothing}
use Rattle.rows_spec.proofs.Outcomes.{placing_done, placing_nothing, room_none, left_stands}
use Rattle.records_spec.specs.Theorems.{AcceptedCall}
use Rattle.records_spec.proofs.Guarded.{accepted, refusals}
use Rattle.splitting_spec.specs.Sections.{beside_base}
use Rattle.splitting_spec.specs.Calls.{key_removal, value_removal, Told, split_key, split_value}
use Rattle.splitting_spec.specs.Theorems.{RemovesExactly, value_answer}
use Rattle.splitting_spec.proofs.Sections.{sections_none}
use Rattle.splitting_spec.proofs.Counting.{base_short, split_short, key_rows, value_rows}
use Rattle.splitting_spec.proofs.Sums.{key_sum, value_sum}
use Rattle.splitting_spec.proofs.Ascending.{key_ascends, value_ascends, visited_beside}
use Rattle.splitting_spec.proofs.Calls.{key_proper}

module _ (ours : Held) (n : ℕ) (t : Tables) where
  abbrev f : Flags
  f = flags_of ours

  rises : proper ours ≡ true → ascending ours.head.base (epochs_of f.records) ≡ true
  rises p = proper_ascends (proper_inv ours.head ours.epochs ours.counts p)

  -- ---- accepted calls

  -- the key's
  module _ (x : Removed) (e : (split_key ours n t).answer ≡ ok x) where
    key_left : StandsFor (key_removal f n) x (split_key ours n t).lent
    unfolding split_key
    key_left =
        let r = key_removal f n in
        let a = accepted t (state_of r) (over_rows (rows_of_removal r) t) (proper ours) (room_in (length (rows_of_removal r)) t) x e in
        left_stands r x t _ a.answered a.is_left

    -- the state, and the rows beside it, stand for the key's removal
    pub key_stands : removal_in x (split_key ours n t).lent ≡ key_removal f n
    key_stands = key_left.stands

    pub key_removes : RemovesExactly n x (split_key ours n t).lent
    key_removes =
        record {
          is_proper = key_left.is_proper (key_ascends (id_of f.owner) ours.head.base n);
          comes_to = ap total key_stands ∙ key_sum (id_of f.owner) ours.head.base n;
        }

  -- the value's
  module _ (u : Told) (e : (split_value ours n t).answer ≡ ok u) where
    value_told : AcceptedCall t (value_answer ours n) (over_rows (rows_of_removal (value_removal f n)) t) (proper ours)
        (room_in (length (rows_of_removal (value_removal f n))) t) u
    unfolding split_value
    value_told =
        accepted t (value_answer ours n) (over_rows (rows_of_removal (value_removal f n)) t) (proper ours)
        (room_in (length (rows_of_removal (value_removal f n))) t) u e

    value_left : StandsFor (value_removal f n) u.removal (split_value ours n t).lent
    unfolding split_value
    value_left = left_stands (value_removal f n) u.removal t _ (ap (λ (z : Told). z.removal) value_told.answered) value_told.is_left

    pub flags_proper : proper ours ≡ true
    flags_proper = value_told.given_proper

    -- the state, and the rows beside it, stand for the value's removal
    pub value_stands : removal_in u.removal (split_value ours n t).lent ≡ value_removal f n
    value_stands = value_left.stands

    pub value_removes : RemovesExactly n u.removal (split_value ours n t).lent
    value_removes =
        record {
          is_proper = value_left.is_proper (value_ascends (id_of f.owner) ours.head.base f.records n (rises flags_proper));
          comes_to = ap total value_stands ∙ value_sum (id_of f.owner) ours.head.base f.records n;
        }

    -- SO MANY RECORDS WERE VISITED AS THE REMOVAL THAT IT LEAVES HAS SECTIONS BESIDE THE BASE
    pub visited_are : u.visited ≡ length (beside_base ours.head.base
        (parts_of (rows_of_removal (removal_in u.removal (split_value ours n t).lent))))
    visited_are =
        sym (ap (λ (z : Told). z.visited) value_told.answered)
        ∙ visited_beside (id_of f.owner) ours.head.base f.records n (rises flags_proper)
        ∙ ap (λ (r : Removal). length (beside_base ours.head.base (parts_of (rows_of_removal r)))) (sym value_stands)

  -- ---- refused calls

  -- BOTH ARE REFUSED WITH 11 OR 10 ONLY, WHATEVER THE AMOUNT IS
  pub key_refusals : (r : ℕ) → (split_key ours n t).answer ≡ refused r → (r ≡ number BadTable) ⊎ (r ≡ number NoRoom)
  unfolding split_key
  key_refusals r e = refusals t (state_of (key_removal f n)) (over_rows (rows_of_removal (key_removal f n)) t) (proper ours)
      (room_in (length (rows_of_removal (key_removal f n))) t) r e

  pub value_refusals : (r : ℕ) → (split_value ours n t).answer ≡ refused r → (r ≡ number BadTable) ⊎ (r ≡ number NoRoom)
  unfolding split_value
  value_refusals r e = refusals t (value_answer ours n) (over_rows (rows_of_removal (value_removal f n)) t) (proper ours)
      (room_in (length (rows_of_removal (value_removal f n))) t) r e

  -- ---- room enough for any amount

  module _ (p : proper ours ≡ true) where
    -- OF PROPER FLAGS A ROW IS ROOM ENOUGH FOR ANY KEY BYTES
    pub key_accepted : Room 1 t → (split_key ours n t).answer ≡ ok (state_of (key_removal f n))
    key_accepted r =
        let k = key_rows (id_of f.owner) ours.head.base n in
        ap (λ (a : RemovalAfter). a.answer)
        (sym (key_proper ours n t (id_of f.owner) refl p)
        ∙ placing_done (key_removal f n) t (has_room (room_less (length (rows_of_removal (key_removal f n))) (omega (arith, k, base_short n)) r)))

    -- OF PROPER FLAGS A ROW MORE THAN THERE ARE RECORDS IS ROOM ENOUGH FOR ANY VALUE BYTES
    pub value_accepted : Room (length f.records + 1) t → (split_value ours n t).answer ≡ ok (value_answer ours n)
    unfolding split_value leaving
    value_accepted r =
        let k = value_rows (id_of f.owner) ours.head.base f.records n in
        let l = split_short ours.head.base f.records n in
        rw (p, has_room (room_less (length (rows_of_removal (value_removal f n))) (omega (arith, k, l)) r))

-- OF PROPER FLAGS NO BYTES GIVE NO REMOVAL, AND NEED NO ROOM
module _ (ours : Held) (t : Tables) (p : proper ours ≡ true) where
  pub no_key_bytes : split_key ours 0 t ≡ done None t
  no_key_bytes = sym (placing_nothing t ∙ key_proper ours 0 t (id_of (flags_of ours).owner) refl p)

  pub no_value_bytes : split_value ours 0 t ≡ after (ok (record { removal = None; visited = 0 })) t
  unfolding split_value leaving
  no_value_bytes =
      rw (p, has_room (room_none t))
      (λ z. after (ok (record { removal = None; visited = length (sections_none (flags_of ours).records z) })) (over_nothing t z))
