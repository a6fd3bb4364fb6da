-- A refusal of `repair` is 1, 2 or 10, and changes nothing lent. Assumes nothing.
use Rattle.std.specs.Prelude.{Option, None, Some}
use Prim.Native.Nat.{ℕ}
use mathlib.Core.Path.{◌≡◌, sym, ap}
use mathlib.Core.Logic.{◌⊎◌, inl, inr}
use mathlib.Core.Bool.{Bool, true, false, cond, ◌&&◌}
use mathlib.Core.List.{List, [], ◌∷◌}
use lib.Dec.{leb}
use lib.ListN.{length}
use Rattle.records_spec.specs.Flags.{kind_of_byte}
use Rattle.records_spec.specs.Answers.{room_for}
use Rattle.records_spec.specs.Outcomes.{refused, Answer, ok, leaving, placed}
use Rattle.records_spec.specs.declared.head.Kind.{Kind}
use Rattle.records_spec.specs.Refusals.{number}
use Rattle.records_spec.specs.declared.refusal.Refusal.TheVariants.{NoRoom, WrongSize, UnknownType}
use Rattle.records_spec.proofs.Answers.{refused_not_ok}
use Rattle.records_spec.proofs.Only.{refused_keeps}
use Rattle.codec_spec.specs.Bytes.{head_size, bytes_of}
use Rattle.repair_spec.specs.Repairing.{Repaired, flags_left, lines_of, repaired_as, repaired_byte, repaired}
use Rattle.repair_spec.specs.Calls.{repaired_into, written, placing_repair, sizes_of, RepairLent}
use Rattle.repair_spec.specs.Theorems.{RepairRefusal, unknown_type, wrong_size, no_room}

-- the bytes are refused with 1 or 2
by_bytes : (xs : List ℕ) (n : ℕ) → repaired xs ≡ refused n → RepairRefusal n
unfolding repaired repaired_as
by_bytes [] n e = absurd (refused_not_ok n _ (sym e))
by_bytes (x ∷ xs) n e = by (kind_of_byte x) e
  where
    told : (m : ℕ) → RepairRefusal m → ◌≡◌ {A = Answer Repaired} (refused m) (refused n) → RepairRefusal n
    told m r q = let z : m ≡ n = cc in rw (sym z) r

    by : (b : Option Kind) → repaired_byte b (x ∷ xs) ≡ refused n → RepairRefusal n
    by None q = told (number UnknownType) unknown_type q
    by (Some k) q = as_kind (leb (head_size k) (length (x ∷ xs))) q
      where
        as_kind : (t : Bool) → cond {A = Answer Repaired} t (ok (record { bytes = bytes_of (flags_left k (x ∷ xs)); lines = lines_of k (x ∷ xs) }))
            (refused (number WrongSize)) ≡ refused n → RepairRefusal n
        as_kind true r = absurd (refused_not_ok n _ (sym r))
        as_kind false r = told (number WrongSize) wrong_size r

-- a repair that has no room
by_room : (x : Answer Repaired) (m : RepairLent) (n : ℕ) → (placing_repair x m).answer ≡ refused n → (x ≡ refused n) ⊎ (n ≡ number NoRoom)
unfolding placing_repair leaving
by_room (refused k) m n e = let z : k ≡ n = cc in inl (ap refused z)
by_room (ok r) m n e = by (leb (length r.bytes) (length m.out) && room_for (length r.lines) (length m.offsets) (length m.changes)) e
  where
    by : (t : Bool) → (leaving m (placed t (sizes_of r) (written r m))).answer ≡ refused n
        → (◌≡◌ {A = Answer Repaired} (ok r) (refused n)) ⊎ (n ≡ number NoRoom)
    by true h = absurd (refused_not_ok n _ (sym h))
    by false h = let z : number NoRoom ≡ n = cc in inr (sym z)

-- A REFUSAL IS 1, 2 OR 10
pub refusals : (src : List ℕ) (m : RepairLent) (n : ℕ) → (repaired_into src m).answer ≡ refused n → RepairRefusal n
refusals src m n e =
    elim (by_room (repaired src) m n e) [
      | inl q ↦ by_bytes src n q
      | inr z ↦ rw z no_room
    ]

-- AND CHANGES NOTHING LENT
pub keeps : (src : List ℕ) (m : RepairLent) (n : ℕ) → (repaired_into src m).answer ≡ refused n → (repaired_into src m).lent ≡ m
unfolding placing_repair
keeps src m n e = refused_keeps m _ n e
