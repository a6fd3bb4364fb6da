-- There are no other lines: each is one of a record that is read, or is the tail's cut, or says that the kind has changed.
-- Assumes nothing.
use Prim.Native.Nat.{ℕ}
use mathlib.Core.Path.{◌≡◌, refl}
use mathlib.Core.Logic.{⊎_elim}
use mathlib.Core.Bool.{Bool, true, false}
use Rattle.std.specs.Prelude.{Option, None, Some}
use mathlib.Core.List.Memᴰ
use mathlib.Core.List.{List, [], ◌∷◌, Memᴰ}
use Rattle.records_spec.specs.Tables.{At}
use Rattle.records_spec.specs.Flags.{multi}
use Rattle.records_spec.specs.declared.head.Kind.{Kind}
use Rattle.codec_spec.specs.Reading.{base_in}
use Rattle.repair_spec.specs.Olds.{Old}
use Rattle.repair_spec.specs.Changes.{Line, line, line_if, again, some_above, dropped, record_lines, keeping, lines_after, cut_line}
use Rattle.repair_spec.specs.Repairing.{olds_in, records_left, kind_line, lines_of}
use Rattle.repair_spec.specs.declared.change.Change.{Change}
use Rattle.repair_spec.specs.declared.change.Change.TheVariants.{ReEncoded, Moved, KindChanged}
use Rattle.repair_spec.specs.Theorems.{Among, longer, LineOf, was_dropped, was_longer, was_moved, Source, kind_changed, of_record, tail_cut}
use Rattle.repair_spec.proofs.Among.{among_first, among_behind}

-- ---- a record's lines

if_line : (b : Bool) (n : ℕ) (c : Change) (l : Line) → Memᴰ l (line_if b n c) → (b ≡ true) × (l ≡ line n c)
if_line true n c l m = (refl, Memᴰ.eq_of_singleton m)
if_line false n c l m = absurd (Memᴰ.not-nil m)

record_line_lem : (base : ℕ) (l : Line) (o : Old) (later : List Old) (x : Option Change) (moved : Bool) → dropped base (again base o.epoch later) o ≡ x
    → Memᴰ l (record_lines x moved o) → LineOf base l o later
record_line_lem base l o later (Some c) moved e m = was_dropped c e (Memᴰ.eq_of_singleton m)
record_line_lem base l o later None moved e m =
    ⊎_elim
    (λ a. let p = if_line (longer o) o.offset ReEncoded l a in was_longer e p.0 p.1)
    (λ a. was_moved e (if_line moved o.offset Moved l a).1)
    (Memᴰ.append_cases (line_if (longer o) o.offset ReEncoded) m)

after_line : (base : ℕ) (before : List ℕ) (os : List Old) (l : Line) → Memᴰ l (lines_after base before os) → Among (LineOf base l) os
unfolding lines_after
after_line base before [] l m = absurd (Memᴰ.not-nil m)
after_line base before (o ∷ os) l m =
    let x : Option Change = dropped base (again base o.epoch os) o in
    let moved : Bool = some_above o.epoch before in
    ⊎_elim
    (λ a. among_first (LineOf base l) o os (record_line_lem base l o os x moved refl a))
    (λ a. among_behind (LineOf base l) o os (after_line base (keeping x o before) os l a))
    (Memᴰ.append_cases (record_lines x moved o) m)

-- ---- all lines

kind_source : (k : Kind) (xs : List ℕ) (l : Line) (rs : List At) → records_left k xs ≡ rs → Memᴰ l (kind_line k rs) → Source k xs l
kind_source k xs l [] e m = let p = if_line (multi k) 0 KindChanged l m in kind_changed p.0 e p.1
kind_source k xs l (r ∷ rs) e m = absurd (Memᴰ.not-nil m)

cut_source : (k : Kind) (xs : List ℕ) (l : Line) (c : Option ℕ) → (olds_in k xs).cut ≡ c → Memᴰ l (cut_line c) → Source k xs l
cut_source k xs l None e m = absurd (Memᴰ.not-nil m)
cut_source k xs l (Some c) e m = tail_cut c e (Memᴰ.eq_of_singleton m)

-- EVERY LINE IS OF A RECORD, OR IS THE CUT, OR SAYS THAT THE KIND HAS CHANGED, which is where nothing is left of kinds 1 and 3
pub source : (k : Kind) (xs : List ℕ) (l : Line) → Memᴰ l (lines_of k xs) → Source k xs l
source k xs l m =
    let os : List Old = (olds_in k xs).records in
    ⊎_elim (kind_source k xs l (records_left k xs) refl)
    (λ a.
    ⊎_elim
    (λ b. of_record (after_line (base_in k xs) [] os l b))
    (cut_source k xs l (olds_in k xs).cut refl)
    (Memᴰ.append_cases (lines_after (base_in k xs) [] os) a))
    (Memᴰ.append_cases (kind_line k (records_left k xs)) m)
