-- What a repair that is done leaves in the lent memory: the canonical bytes, and columns that hold its lines. Assumes nothing.
use Prim.Native.Nat.{ℕ}
use native.Mathlib.Omega.{arith}
use mathlib.Core.Path.{◌≡◌, refl, sym, ap, ap₂, ◌∙◌}
use mathlib.Core.Bool.{Bool, true, false, ◌&&◌}
use mathlib.Core.List.{List}
use lib.Dec.{leb}
use lib.ListN.{length}
use Rattle.records_spec.specs.Tables.{over}
use Rattle.records_spec.specs.Answers.{room_for}
use Rattle.records_spec.proofs.Tables.{over_first, over-holds}
use Rattle.repair_spec.specs.Repairing.{Repaired, repaired}
use Rattle.repair_spec.specs.Calls.{offsets_of, changes_of, repaired_into, written, placing_repair, repair_lent, sizes_of, RepairAfter}
use Rattle.records_spec.specs.Outcomes.{refused, Answer, ok, after, leaving, kept, placed}
use Rattle.records_spec.specs.Refusals.{number}
use Rattle.records_spec.specs.declared.refusal.Refusal.TheVariants.{NoRoom}
use Rattle.repair_spec.specs.declared.repairing.Sizes.{Sizes}
use Rattle.repair_spec.proofs.Columns.{length_offsets_of, length_changes_of}
use Rattle.change_lines_spec.specs.Text.{lines_in}
use Rattle.change_lines_spec.specs.Theorems.{RepairStands}
use Rattle.change_lines_spec.proofs.Texts.{lines_back}

-- the two numbers of an answer that is no refusal
abbrev bytes_of : Answer Sizes → ℕ
bytes_of (refused k) = 0
bytes_of (ok s) = s.bytes

abbrev lines_of : Answer Sizes → ℕ
lines_of (refused k) = 0
lines_of (ok s) = s.lines

module _ (b n : ℕ) (out os cs out₀ os₀ cs₀ : List ℕ) where
  -- a call that was done has not been refused
  not_kept : (k : ℕ) → after {A = Answer Sizes} (ok (record { bytes = b; lines = n })) (repair_lent out os cs) ≡ kept k (repair_lent out₀ os₀ cs₀) → ⊥
  not_kept k e =
      let a : ◌≡◌ {A = Answer Sizes} (ok (record { bytes = b; lines = n })) (refused k) = ap (λ (w : RepairAfter). w.answer) e in
      let z : ◌≡◌ {A = ℕ} 0 1 = cc in
      omega arith

  left_placed : (r : Repaired) → after {A = Answer Sizes} (ok (record { bytes = b; lines = n })) (repair_lent out os cs) ≡ after (ok (sizes_of r)) (written r (repair_lent out₀ os₀ cs₀))
      → RepairStands (ok r) b n out os cs
  left_placed r e =
      let p : b ≡ length r.bytes = ap (λ (w : RepairAfter). bytes_of w.answer) e in
      let q : n ≡ length r.lines = ap (λ (w : RepairAfter). lines_of w.answer) e in
      let o : out ≡ over r.bytes out₀ = ap (λ (w : RepairAfter). w.lent.out) e in
      let f : os ≡ over (offsets_of r.lines) os₀ = ap (λ (w : RepairAfter). w.lent.offsets) e in
      let g : cs ≡ over (changes_of r.lines) cs₀ = ap (λ (w : RepairAfter). w.lent.changes) e in
      record {
        what = r;
        is_done = refl;
        bytes_fit = omega (arith, p, ap length o, over-holds r.bytes out₀);
        offsets_fit = omega (arith, q, ap length f, over-holds (offsets_of r.lines) os₀, length_offsets_of r.lines);
        changes_fit = omega (arith, q, ap length g, over-holds (changes_of r.lines) cs₀, length_changes_of r.lines);
        bytes_are = rw o (over_first r.bytes out₀ b (sym p));
        lines_are =
            rw (f, g)
            (ap₂ lines_in (over_first (offsets_of r.lines) os₀ n (length_offsets_of r.lines ∙ sym q))
            (over_first (changes_of r.lines) cs₀ n (length_changes_of r.lines ∙ sym q))
            ∙ lines_back r.lines);
      }

  left_room : (t : Bool) (r : Repaired)
      → after {A = Answer Sizes} (ok (record { bytes = b; lines = n })) (repair_lent out os cs)
      ≡ leaving (repair_lent out₀ os₀ cs₀) (placed t (sizes_of r) (written r (repair_lent out₀ os₀ cs₀)))
      → RepairStands (ok r) b n out os cs
  unfolding leaving
  left_room true r e = left_placed r e
  left_room false r e = absurd (not_kept (number NoRoom) e)

  pub left_after : (x : Answer Repaired) → after {A = Answer Sizes} (ok (record { bytes = b; lines = n })) (repair_lent out os cs) ≡ placing_repair x (repair_lent out₀ os₀ cs₀)
      → RepairStands x b n out os cs
  unfolding placing_repair leaving
  left_after (refused k) e = absurd (not_kept k e)
  left_after (ok r) e = left_room (leb (length r.bytes) (length out₀) && room_for (length r.lines) (length os₀) (length cs₀)) r e

  -- BYTES AND LIST ARE THE DEFINITION'S
  pub left_repair : (src : List ℕ) → after {A = Answer Sizes} (ok (record { bytes = b; lines = n })) (repair_lent out os cs) ≡ repaired_into src (repair_lent out₀ os₀ cs₀)
      → RepairStands (repaired src) b n out os cs
  left_repair src e = left_after (repaired src) e
