-- The lines of a record: those of a kept one as the code lists them, and how many there are. Assumes nothing.
use Prim.Native.Nat.{ℕ, ◌+◌, ◌*◌, ◌≤◌}
use native.Mathlib.Omega.{arith}
use mathlib.Core.Path.{◌≡◌, refl, sym, ap, ◌∙◌}
use mathlib.Core.Bool.{Bool, true, false}
use Rattle.std.specs.Prelude.{Option, None, Some}
use mathlib.Core.List.{List, ◌++◌}
use borrow.Author.Tests.{ltb-true}
use lib.Dec.{ltb}
use lib.ListN.{length}
use Rattle.fields_spec.specs.Varint.{varint}
use Rattle.fields_spec.proofs.Varints.{length_pos}
use Rattle.records_spec.specs.Tables.{◌⦂◌}
use Rattle.codec_spec.specs.Bytes.{record_bytes}
use Rattle.codec_spec.proofs.Sizing.{length_record}
use Rattle.repair_spec.specs.Olds.{Old}
use Rattle.repair_spec.specs.Changes.{line_if, kept_lines, record_lines}
use Rattle.repair_spec.specs.Inner.Steps.{Listed}
use Rattle.repair_spec.specs.declared.change.Change.{Change}
use Rattle.repair_spec.specs.declared.change.Change.TheVariants.{ReEncoded, Moved}
use Rattle.repair_spec.proofs.Columns.{listed_then, line_if_short}

-- the lines of a kept record, where its varint's length and whether it moved are known
pub kept_listed : (o : Old) (len : ℕ) (moved : Bool) {k n m : ℕ} {os cs os' cs' os'' cs'' : List ℕ} → len ≡ length (varint o.count)
    → Listed (line_if (ltb (2 + len) o.size) o.offset ReEncoded) k n os cs os' cs'
    → Listed (line_if moved o.offset Moved) n m os' cs' os'' cs'' → Listed (kept_lines moved o) k m os cs os'' cs''
kept_listed o len moved e p q =
    let s : 2 + len ≡ length (record_bytes (o.epoch ⦂ o.count)) = ap (λ (n : ℕ). 2 + n) e ∙ sym (length_record (o.epoch ⦂ o.count)) in
    listed_then (rw s at p) q

-- a record has at most one line for every two of its bytes: one of three bytes is as short as it would be written
kept_few : (moved : Bool) (o : Old) → 3 ≤ o.size → 2 * length (kept_lines moved o) ≤ o.size
kept_few moved o h = by (ltb (length (record_bytes (o.epoch ⦂ o.count))) o.size) refl
  where
    by : (b : Bool) → ltb (length (record_bytes (o.epoch ⦂ o.count))) o.size ≡ b
        → 2 * length (line_if b o.offset ReEncoded ++ line_if moved o.offset Moved) ≤ o.size
    by true e =
        let l = ltb-true (length (record_bytes (o.epoch ⦂ o.count))) o.size e in
        omega (arith, length_record (o.epoch ⦂ o.count), length_pos o.count, line_if_short moved o.offset Moved)
    by false e = omega (arith, line_if_short moved o.offset Moved)

pub record_few : (x : Option Change) (moved : Bool) (o : Old) → 3 ≤ o.size → 2 * length (record_lines x moved o) ≤ o.size
record_few (Some c) moved o h = omega arith
record_few None moved o h = kept_few moved o h
