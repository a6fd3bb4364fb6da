-- The lines at an offset: a record's lines are all at its own, and none of those behind it are. Assumes nothing.
use Prim.Native.Nat.{ℕ, ◌<◌}
use native.Mathlib.Omega.{arith}
use mathlib.Core.Path.{◌≡◌, refl, sym, ap, ◌∙◌}
use mathlib.Core.Bool.{Bool, true, false}
use Rattle.std.specs.Prelude.{Option, None, Some}
use mathlib.Core.List.{List, [], ◌∷◌, ◌++◌, append-nil, append_assoc}
use borrow.Author.Tests.{eq-eqb, ne_eqb}
use Rattle.records_spec.specs.Tables.{At}
use Rattle.records_spec.specs.Flags.{multi}
use Rattle.records_spec.specs.declared.head.Kind.{Kind}
use Rattle.repair_spec.specs.Olds.{Old}
use Rattle.repair_spec.specs.Changes.{Line, line_if, record_lines}
use Rattle.repair_spec.specs.Repairing.{kind_line}
use Rattle.repair_spec.specs.declared.change.Change.{Change}
use Rattle.repair_spec.specs.declared.change.Change.TheVariants.{ReEncoded, Moved, KindChanged}
use Rattle.repair_spec.specs.Theorems.{longer, Climbs, lines_at}

-- the lines that follow are all behind it
pub at_below : (n a : ℕ) (ls : List Line) → n < a → Climbs a ls → lines_at n ls ≡ []
at_below n a [] h p = refl
at_below n a (l ∷ ls) h p = simp (ne_eqb n l.offset (λ e. omega (arith, p.0))) (at_below n l.offset ls (omega (arith, p.0)) p.1)

-- ---- a line, if there is one

at_if : (b : Bool) (n : ℕ) (c : Change) (ls : List Line) → lines_at n (line_if b n c ++ ls) ≡ line_if b n c ++ lines_at n ls
at_if true n c ls = simp (eq-eqb n n refl)
at_if false n c ls = refl

past_if : (b : Bool) (n m : ℕ) (c : Change) (ls : List Line) → (n ≡ m → ⊥) → lines_at n (line_if b m c ++ ls) ≡ lines_at n ls
past_if true n m c ls h = simp (ne_eqb n m h)
past_if false n m c ls h = refl

-- ---- the lines of a record

at_record : (x : Option Change) (moved : Bool) (o : Old) (ls : List Line)
    → lines_at o.offset (record_lines x moved o ++ ls) ≡ record_lines x moved o ++ lines_at o.offset ls
at_record (Some c) moved o ls = simp (eq-eqb o.offset o.offset refl)
at_record None moved o ls =
    let n = o.offset in
    let one : List Line = line_if (longer o) n ReEncoded in
    let two : List Line = line_if moved n Moved in
    ap (lines_at n) (append_assoc one two ls)
    ∙ at_if (longer o) n ReEncoded (two ++ ls)
    ∙ ap (λ (x : List Line). one ++ x) (at_if moved n Moved ls)
    ∙ sym (append_assoc one two (lines_at n ls))

-- where all behind it are at higher offsets
pub only_record : (x : Option Change) (moved : Bool) (o : Old) (a : ℕ) (ls : List Line) → o.offset < a → Climbs a ls
    → lines_at o.offset (record_lines x moved o ++ ls) ≡ record_lines x moved o
only_record x moved o a ls h p = at_record x moved o ls ∙ rw (at_below o.offset a ls h p) (append-nil (record_lines x moved o))

pub past_record : (n : ℕ) (x : Option Change) (moved : Bool) (o : Old) (ls : List Line) → (n ≡ o.offset → ⊥)
    → lines_at n (record_lines x moved o ++ ls) ≡ lines_at n ls
past_record n (Some c) moved o ls h = simp (ne_eqb n o.offset h)
past_record n None moved o ls h =
    let two : List Line = line_if moved o.offset Moved in
    ap (lines_at n) (append_assoc (line_if (longer o) o.offset ReEncoded) two ls)
    ∙ past_if (longer o) n o.offset ReEncoded (two ++ ls) h
    ∙ past_if moved n o.offset Moved ls h

-- ---- kind changed

pub past_kind : (n : ℕ) (k : Kind) (rs : List At) (ls : List Line) → 0 < n → lines_at n (kind_line k rs ++ ls) ≡ lines_at n ls
past_kind n k [] ls h = past_if (multi k) n 0 KindChanged ls (λ e. omega arith)
past_kind n k (r ∷ rs) ls h = refl

-- where all behind it are at higher offsets
pub only_kind : (k : Kind) (rs : List At) (a : ℕ) (ls : List Line) → 0 < a → Climbs a ls → lines_at 0 (kind_line k rs ++ ls) ≡ kind_line k rs
only_kind k [] a ls h p = at_if (multi k) 0 KindChanged ls ∙ rw (at_below 0 a ls h p) (append-nil (line_if (multi k) 0 KindChanged))
only_kind k (r ∷ rs) a ls h p = at_below 0 a ls h p
