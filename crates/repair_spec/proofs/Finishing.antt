-- What settling leaves: the list has no room, or the bytes have none, or both stand at the start of what was lent. Assumes nothing.
use Prim.Native.Nat.{ℕ, ◌≤◌, ◌<◌}
use native.Mathlib.Decide.{dec_lt}
use native.Mathlib.Omega.{arith}
use mathlib.Core.Path.{◌≡◌, refl, sym, ap, ap₂, ◌∙◌}
use mathlib.Core.Bool.{true, false, and-false}
use mathlib.Core.List.{List}
use borrow.Author.Tests.{le-leb, lt-leb}
use lib.ListN.{length}
use Rattle.records_spec.specs.Tables.{over}
use Rattle.records_spec.specs.Flags.{Flags, holding}
use Rattle.records_spec.specs.Answers.{room_for, writing}
use Rattle.records_spec.specs.Outcomes.{refused, Answer, ok, refusing, kept, leaving, after}
use Rattle.records_spec.specs.declared.head.Kind.{Kind}
use Rattle.records_spec.specs.declared.head.Head.{Head}
use Rattle.records_spec.specs.declared.refusal.Refusal.{Refusal}
use Rattle.records_spec.specs.declared.refusal.Refusal.TheVariants.{NoRoom}
use Rattle.records_spec.proofs.Tables.{over_sets}
use Rattle.records_spec.proofs.Answers.{room_both_lem, writing_fits, writing_short}
use Rattle.records_spec.proofs.Only.{left_only, answered_as, answered_back}
use Rattle.codec_spec.specs.Bytes.{head_size, bytes_of}
use Rattle.codec_spec.specs.Calls.{serialized}
use Rattle.codec_spec.proofs.Writings.{serialized_proper}
use Rattle.repair_spec.specs.Repairing.{Repaired, flags_left, lines_of, repaired_as}
use Rattle.repair_spec.specs.Calls.{offsets_of, changes_of, written, placing_repair, repair_lent, sizes_of}
use Rattle.repair_spec.specs.Inner.Steps.{Listed, Ready}
use Rattle.std.specs.Prelude.{Result, Ok, Err}
use Rattle.repair_spec.specs.declared.repairing.Sizes.{Sizes}
use Rattle.records_spec.specs.Outcomes.{answered}
use Rattle.repair_spec.proofs.Columns.{length_offsets_of, length_changes_of}
use Rattle.repair_spec.proofs.CanonicalBack.{repaired_long}

-- ---- what was repaired, by the room for it

module _ (r : Repaired) (out os cs : List ℕ) where
  pub after_placed : length r.bytes ≤ length out → room_for (length r.lines) (length os) (length cs) ≡ true
      → placing_repair (ok r) (repair_lent out os cs) ≡ after (ok (sizes_of r)) (written r (repair_lent out os cs))
  unfolding placing_repair leaving
  after_placed h l = simp (le-leb (length r.bytes) (length out) h, l)

  pub after_long : length out < length r.bytes → placing_repair (ok r) (repair_lent out os cs) ≡ refusing NoRoom (repair_lent out os cs)
  unfolding placing_repair leaving
  after_long h = simp (lt-leb (length r.bytes) (length out) h)

  pub after_crowded : room_for (length r.lines) (length os) (length cs) ≡ false
      → placing_repair (ok r) (repair_lent out os cs) ≡ refusing NoRoom (repair_lent out os cs)
  unfolding placing_repair leaving
  after_crowded l = simp (l, and-false)

pub after_refused : (n : ℕ) (out os cs : List ℕ) → placing_repair (refused n) (repair_lent out os cs) ≡ kept n (repair_lent out os cs)
unfolding placing_repair leaving
after_refused n out os cs = refl

-- ---- what settling leaves

module _ (k : Kind) (src : List ℕ) (long : head_size k ≤ length src) (out os cs : List ℕ) where
  -- what bytes of the kind are repaired to
  abbrev whole : Repaired
  whole = record { bytes = bytes_of (flags_left k src); lines = lines_of k src }

  is_whole_lem : placing_repair (repaired_as k src) (repair_lent out os cs) ≡ placing_repair (ok whole) (repair_lent out os cs)
  is_whole_lem = ap (λ (a : Answer Repaired). placing_repair a (repair_lent out os cs)) (repaired_long k src long)

  pub left_crowded : (lines : ℕ) → lines ≡ length (lines_of k src) → room_for lines (length os) (length cs) ≡ false
      → after (answered {A = Sizes} (Err NoRoom)) (repair_lent out os cs) ≡ placing_repair (repaired_as k src) (repair_lent out os cs)
  left_crowded lines e l = sym (is_whole_lem ∙ after_crowded whole out os cs (ap (λ (n : ℕ). room_for n (length os) (length cs)) (sym e) ∙ l))

  module _ (h : Head) (es ns : List ℕ) (r : Ready k src h es ns) (c : Result ℕ Refusal) (out' : List ℕ)
      (w : after (answered c) out' ≡ serialized (holding h es ns) out) where
    -- the bytes of the flags that are left are written
    is_writing : after (answered c) out' ≡ writing (bytes_of (flags_left k src)) out
    is_writing = w ∙ serialized_proper (holding h es ns) out r.is_proper ∙ ap (λ (f : Flags). writing (bytes_of f) out) r.is_left

    when_long : length out < length (bytes_of (flags_left k src)) → (c ≡ Err NoRoom) × (out' ≡ out)
    when_long l = left_only answered answered_as answered_back c (Err NoRoom) out' out (writing (bytes_of (flags_left k src)) out) is_writing
        (sym (writing_short (bytes_of (flags_left k src)) out l))

    when_fits : length (bytes_of (flags_left k src)) ≤ length out
        → (c ≡ Ok (length (bytes_of (flags_left k src)))) × (out' ≡ over (bytes_of (flags_left k src)) out)
    when_fits l =
        left_only answered answered_as answered_back c (Ok (length (bytes_of (flags_left k src)))) out' (over (bytes_of (flags_left k src)) out)
        (writing (bytes_of (flags_left k src)) out) is_writing
        (sym (writing_fits (bytes_of (flags_left k src)) out l))

    pub left_refused : (x : Refusal) → c ≡ Err x
        → after (answered {A = Sizes} (Err x)) (repair_lent out' os cs) ≡ placing_repair (repaired_as k src) (repair_lent out os cs)
    left_refused x e =
        elim (dec_lt (length out) (length (bytes_of (flags_left k src)))) [
          | yes l ↦
              let q = when_long l in
              let y : x ≡ NoRoom = cc q.0 in
              ap₂ (λ (z : Refusal) (o : List ℕ). after (answered {A = Sizes} (Err z)) (repair_lent o os cs)) y q.1
              ∙ sym (is_whole_lem ∙ after_long whole out os cs l)
          | no l ↦ let q = when_fits (omega arith) in let z : ◌≡◌ {A = ℕ} 0 1 = cc q.0 in absurd (omega arith)
        ]

    pub left_done : (bytes lines : ℕ) (os' cs' : List ℕ) → c ≡ Ok bytes → lines ≡ length (lines_of k src)
        → room_for lines (length os) (length cs) ≡ true
        → (m : ℕ) → Listed (lines_of k src) 0 m os cs os' cs'
        → after (answered (Ok (record { bytes = bytes; lines = lines }))) (repair_lent out' os' cs') ≡ placing_repair (repaired_as k src) (repair_lent out os cs)
    left_done bytes lines os' cs' e n l m p =
        elim (dec_lt (length out) (length (bytes_of (flags_left k src)))) [
          | yes i ↦ let q = when_long i in let z : ◌≡◌ {A = ℕ} 0 1 = cc q.0 in absurd (omega arith)
          | no i ↦
              let q = when_fits (omega arith) in
              let y : bytes ≡ length (bytes_of (flags_left k src)) = cc q.0 in
              let room = room_both_lem lines (length os) (length cs) l in
              let eo : os' ≡ over (offsets_of (lines_of k src)) os = p.offsets_set
              ∙ over_sets (offsets_of (lines_of k src)) os (omega (arith, length_offsets_of (lines_of k src), room.0)) in
              let ec : cs' ≡ over (changes_of (lines_of k src)) cs = p.changes_set
              ∙ over_sets (changes_of (lines_of k src)) cs (omega (arith, length_changes_of (lines_of k src), room.1)) in
              (λ z. after (answered (Ok (record { bytes = (y z); lines = (n z) }))) (repair_lent (q.1 z) (eo z) (ec z)))
              ∙ sym (is_whole_lem ∙ after_placed whole out os cs (omega arith) (ap (λ (j : ℕ). room_for j (length os) (length cs)) (sym n) ∙ l))
        ]
