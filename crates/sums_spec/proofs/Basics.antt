-- A basic number as the one row of three tables, joined to rows; also to rows that were put into other tables first.
-- Assumes nothing.
use mathlib.Core.Path.{◌≡◌, sym, ap, ◌∙◌, subst}
use mathlib.Core.List.{List, [], ◌∷◌}
use Prim.Native.Nat.{ℕ, ◌≤◌}
use native.Mathlib.Omega.{arith}
use lib.ListN.{length}
use Rattle.records_spec.specs.Flags.{zeros}
use Rattle.rows_spec.specs.Rows.{Row, ascends, Tables, tables, rows_in, over_rows, Room}
use Rattle.rows_spec.specs.Inner.Rows.{Proper}
use Rattle.rows_spec.proofs.Rows.{length_rows, room_less, rows_one, proper_one}
use Rattle.rows_spec.proofs.Columns.{over_room, rows_back, over_over}
use Rattle.sums_spec.specs.Joins.{add_row, joined}
use Rattle.sums_spec.specs.Sums.{unknown_epoch, unknown}
use Rattle.sums_spec.proofs.Joining.{joined_nothing, joined_one, more_left}

-- the tables that hold the row of a basic number
abbrev pub one_row : ℕ → Tables
one_row n = tables (zeros ∷ []) (unknown_epoch ∷ []) (n ∷ [])

pub one_proper : (n : ℕ) → Proper 1 (one_row n)
one_proper n = proper_one zeros unknown_epoch n

module _ (n : ℕ) {m : ℕ} {u : Tables} (p : Proper m u) where
  -- a number's row joined behind rows is added to them
  pub one_joined : joined (rows_in m u) (rows_in 1 (one_row n)) ≡ add_row (unknown n) (rows_in m u)
  one_joined = ap (joined (rows_in m u)) (rows_one zeros unknown_epoch n) ∙ joined_one (unknown n) (rows_in m u) p.rises

  one_more : m ≤ length (joined (rows_in m u) (rows_in 1 (one_row n)))
  one_more = omega (arith, length_rows p.room, more_left (rows_in m u) (rows_in 1 (one_row n)) p.rises (one_proper n).rises)

  -- the rows are put into tables with room for the sum
  module _ {count : ℕ} {t : Tables} (counted : count ≡ length (joined (rows_in m u) (rows_in 1 (one_row n)))) (room : Room count t) where
    pub first_room : Room m t
    first_room = room_less m (omega (arith, counted, one_more)) room

    module _ {t₁ : Tables} (first : t₁ ≡ over_rows (joined [] (rows_in m u)) t) where
      there : t₁ ≡ over_rows (rows_in m u) t
      there = first ∙ ap (λ (l : List Row). over_rows l t) (joined_nothing (rows_in m u))

      rows_there : rows_in m t₁ ≡ rows_in m u
      rows_there =
          ap (rows_in m) there ∙ ap (λ (k : ℕ). rows_in k (over_rows (rows_in m u) t)) (sym (length_rows p.room)) ∙ rows_back (rows_in m u) t

      room_there : {k : ℕ} → Room k t → Room k t₁
      room_there {k} r = subst (Room k) (sym there) (over_room (rows_in m u) t r)

      -- the number's row can be joined to them there
      pub then_proper : Proper m t₁
      then_proper = record { room = room_there first_room; rises = ap ascends rows_there ∙ p.rises }

      pub then_counted : count ≡ length (joined (rows_in m t₁) (rows_in 1 (one_row n)))
      then_counted = counted ∙ ap (λ (l : List Row). length (joined l (rows_in 1 (one_row n)))) (sym rows_there)

      -- and the tables hold the sum
      pub then_over : {t₂ : Tables} → t₂ ≡ over_rows (joined (rows_in m t₁) (rows_in 1 (one_row n))) t₁
          → t₂ ≡ over_rows (add_row (unknown n) (rows_in m u)) t
      then_over e =
          let sum : joined (rows_in m t₁) (rows_in 1 (one_row n))
          ≡ add_row (unknown n) (rows_in m u) = ap (λ (l : List Row). joined l (rows_in 1 (one_row n))) rows_there ∙ one_joined in
          e ∙ ap (λ (l : List Row). over_rows l t₁) sum ∙ ap (over_rows (add_row (unknown n) (rows_in m u))) there
          ∙ over_over (rows_in m u) (add_row (unknown n) (rows_in m u)) t
          (omega (arith, length_rows p.room, one_more, ap (length {A = Row}) one_joined))
