-- A kept record is re-encoded exactly where its bytes are not those that are written, so one without a line has its old bytes.
-- Assumes nothing.
use Prim.Native.Nat.{ℕ, suc, ◌+◌, ◌≤◌, ◌<◌}
use native.Mathlib.Omega.{arith}
use mathlib.Core.Path.{◌≡◌, refl, sym, ap, ap₂, ◌∙◌}
use mathlib.Core.Logic.{◌↔◌}
use mathlib.Core.Bool.{Bool, true, false}
use mathlib.Core.List.{List, [], ◌∷◌, ◌++◌, cons≢nil}
use borrow.Author.Tests.{ltb-true, ltb-false}
use lib.ListN.{length, take, drop, length-take, length-drop}
use lib.Seq.{take-add}
use Rattle.fields_spec.specs.Big.{said}
use Rattle.fields_spec.specs.Varint.{largest, varint, high, value}
use Rattle.fields_spec.proofs.Places.{value_below, length_below, found_canonical, canonical_whole}
use Rattle.fields_spec.specs.Theorems.{Bytes}
use Rattle.fields_spec.proofs.RoundTrip.{found_written}
use Rattle.records_spec.specs.Tables.{◌⦂◌}
use Rattle.records_spec.specs.declared.head.Kind.{Kind}
use Rattle.codec_spec.specs.Bytes.{record_bytes}
use Rattle.codec_spec.specs.Reading.{base_in}
use Rattle.codec_spec.proofs.RoundTrip.{bytes_drop, field_back}
use Rattle.codec_spec.proofs.Sizing.{length_record}
use Rattle.repair_spec.specs.Olds.{Old}
use Rattle.repair_spec.specs.Changes.{again, line_if}
use Rattle.repair_spec.specs.Repairing.{olds_in, lines_of}
use Rattle.repair_spec.specs.declared.change.Change.TheVariants.{ReEncoded, Moved}
use Rattle.repair_spec.specs.Theorems.{Link, OldFits, longer, lines_at, higher_kept}
use Rattle.repair_spec.proofs.Reading.{old_there, old_inv}
use Rattle.repair_spec.proofs.Told.{record_stands, told_kept}

-- ---- a varint that is not longer than minimal

varint_back : (xs : List ℕ) → Bytes xs → high xs < 10 → high xs < length xs → value (take (suc (high xs)) xs) ≤ largest
    → suc (high xs) ≤ length (varint (value (take (suc (high xs)) xs)))
    → varint (value (take (suc (high xs)) xs)) ≡ take (suc (high xs)) xs
varint_back xs bs ten inside small least =
    let h = high xs in
    let v = value (take (suc h) xs) in
    let most : length (varint v) ≤ suc h = length_below h v (value_below (suc h) (take (suc h) xs) (omega (arith, length-take (suc h) xs))) in
    found_written xs v (suc h) bs (found_canonical xs h refl ten inside ∙ canonical_whole v (suc h) small (omega arith))

-- ---- a record

record_back : (at : ℕ) (xs : List ℕ) → Bytes xs → high (drop 2 xs) < 10 → high (drop 2 xs) < length (drop 2 xs) → 2 ≤ length xs
    → (old_there at xs).count ≤ largest → (old_there at xs).size ≤ length (record_bytes ((old_there at xs).epoch ⦂ (old_there at xs).count))
    → record_bytes ((old_there at xs).epoch ⦂ (old_there at xs).count) ≡ take (old_there at xs).size xs
record_back at xs bs ten inside long small least =
    let h = high (drop 2 xs) in
    let v = value (take (suc h) (drop 2 xs)) in
    let n : 2 + suc h ≡ 3 + h = omega arith in
    ap₂ (λ (a b : List ℕ). a ++ b) (field_back 2 xs bs long)
    (varint_back (drop 2 xs) (bytes_drop 2 xs bs) ten inside small (omega (arith, length_record (said (take 2 xs) ⦂ v))))
    ∙ sym (take-add 2 (suc h) xs)
    ∙ ap (λ (i : ℕ). take i xs) n

module _ (d : List ℕ) (at : ℕ) (o : Old) (l : Link d at o) where
  -- one that is not longer is as it would be written
  link_back : Bytes d → o.count ≤ largest → longer o ≡ false → record_bytes (o.epoch ⦂ o.count) ≡ take o.size (drop at d)
  link_back bs small n =
      let t = old_inv at (drop at d) o l.there in
      let least : o.size ≤ length (record_bytes (o.epoch ⦂ o.count)) = ltb-false (length (record_bytes (o.epoch ⦂ o.count))) o.size n in
      rw t.is (record_back at (drop at d) (bytes_drop at d bs) t.ten t.inside t.long (rw t.is at small) (rw t.is at least))

  -- a longer one is not
  link_other : longer o ≡ true → record_bytes (o.epoch ⦂ o.count) ≡ take o.size (drop at d) → ⊥
  link_other n e =
      let less = ltb-true (length (record_bytes (o.epoch ⦂ o.count))) o.size n in
      omega (arith, ap length e, length-take o.size (drop at d), length-drop at d, l.inside)

-- ---- of bytes of a kind

no_line : (b moved : Bool) (n : ℕ) → line_if b n ReEncoded ++ line_if moved n Moved ≡ [] → b ≡ false
no_line true moved n e = absurd (cons≢nil e)
no_line false moved n e = refl

module _ (k : Kind) (xs : List ℕ) (earlier : List Old) (o : Old) (later : List Old) (split : (olds_in k xs).records ≡ earlier ++ (o ∷ later))
    (bs : Bytes xs) (f : OldFits (base_in k xs) o) where
  -- RE-ENCODED EXACTLY WHERE THE OLD BYTES ARE NOT THOSE THAT ARE WRITTEN
  pub not_longer : (longer o ≡ false) ↔ (record_bytes (o.epoch ⦂ o.count) ≡ take o.size (drop o.offset xs))
  not_longer =
      let l = (record_stands k xs earlier o later split).link in
      (link_back xs o.offset o l bs f.small, λ e. by (longer o) refl (λ n. link_other xs o.offset o l n e))
    where
      by : (b : Bool) → longer o ≡ b → (longer o ≡ true → ⊥) → longer o ≡ false
      by true q n = absurd (n q)
      by false q n = q

  -- A KEPT RECORD WITHOUT A LINE HAS ITS OLD BYTES
  pub old_bytes : again (base_in k xs) o.epoch later ≡ false → lines_at o.offset (lines_of k xs) ≡ []
      → record_bytes (o.epoch ⦂ o.count) ≡ take o.size (drop o.offset xs)
  old_bytes a e =
      not_longer.0 (no_line (longer o) (higher_kept (base_in k xs) o.epoch earlier (o ∷ later)) o.offset
      (sym (told_kept k xs earlier o later split f a) ∙ e))
