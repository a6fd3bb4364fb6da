-- A varint that is written group by group: one more group, and the last. Assumes nothing.
use Rattle.std.proofs.Common.{◌≡◌, sym, ap, ◌∙◌, List, ℕ, ◌+◌, ◌/◌, ◌%◌, ◌≤◌, ◌<◌, arith, set}
use Rattle.std.proofs.Math.Seq.{sets}
use Rattle.fields_spec.specs.Varint.{varint}
use Rattle.fields_spec.specs.Writing.{Put}
use Rattle.fields_spec.proofs.Varints.{varint_last, varint_more, length_last}
use Rattle.fields_spec.proofs.Parts.{Parts, parts_byte}

module _ {all : List ℕ} {at : ℕ} {old : List ℕ} {n i : ℕ} {new : List ℕ} (p : Parts all at old (varint n) i new) where
  -- the place and what is left behind a group
  pub putting_more : (j m : ℕ) → 128 ≤ n → j ≡ i + 1 → m ≡ n / 128 → Parts all at old (varint m) j (set new i (n % 128 + 128))
  putting_more j m h ej em = rw (ej, em) (parts_byte p (varint_more n h))

  pub putting_last : (j : ℕ) → n < 128 → j ≡ i + 1 → Put all at j old (set new i n)
  putting_last j h ej =
      record {
        behind = omega (arith, p.reached, length_last n h);
        wrote = ap (sets new i) (sym (varint_last n h)) ∙ p.to_set;
      }
