-- All lines of bytes of a kind, as the code lists them: kind changed, those of the records and the cut; or the extra bytes.
-- Assumes nothing.
use Prim.Native.Nat.{ℕ}
use native.Mathlib.Omega.{arith}
use mathlib.Core.Path.{◌≡◌, refl, sym, ap, ap₂, ◌∙◌}
use mathlib.Core.Bool.{Bool, true, false, cond}
use Rattle.std.specs.Prelude.{None, Some}
use mathlib.Core.List.{List, [], ◌∷◌, ◌++◌}
use borrow.Author.Tests.{ne_eqb}
use lib.Dec.{ltb, eqb}
use lib.ListN.{length}
use Rattle.records_spec.specs.Tables.{At}
use Rattle.records_spec.specs.Flags.{multi}
use Rattle.records_spec.specs.declared.head.Kind.{Kind}
use Rattle.codec_spec.specs.Bytes.{head_size}
use Rattle.codec_spec.specs.Reading.{base_in}
use Rattle.repair_spec.specs.Olds.{Olds}
use Rattle.repair_spec.specs.Standing.{map_of, map_onto}
use Rattle.repair_spec.specs.Changes.{Line, line_if, lines_after, cut_line}
use Rattle.repair_spec.specs.Repairing.{olds_in, extra, records_left, kind_line, lines_of}
use Rattle.repair_spec.specs.Inner.Steps.{lines_by, lines_from, Listed, Settled}
use Rattle.repair_spec.specs.declared.change.Change.TheVariants.{TailCut, KindChanged}
use Rattle.repair_spec.proofs.Reading.{rest}
use Rattle.repair_spec.proofs.Columns.{listed_then}

-- kind changed, where nothing is left of kind 1 or 3
kind_line_lem : (k : Kind) (rs : List At) → multi k ≡ true → kind_line k rs ≡ line_if (eqb (length rs) 0) 0 KindChanged
kind_line_lem k [] m = rw m
kind_line_lem k (r ∷ rs) m = rw (ne_eqb (length (r ∷ rs)) 0 (λ e. omega arith))

module _ (k : Kind) (xs ps : List ℕ) (n : ℕ) (s : Settled k xs ps n) where
  module _ (m : multi k ≡ true) where
    -- what is read behind the head
    olds_multi : olds_in k xs ≡ rest xs (head_size k)
    olds_multi = rw m

    lines_multi : lines_of k xs ≡ line_if (eqb n 0) 0 KindChanged ++ lines_from (base_in k xs) ps 0 (head_size k) xs
    lines_multi =
        ap₂ (λ (ks ls : List Line). ks ++ (ls ++ cut_line (olds_in k xs).cut))
        (kind_line_lem k (records_left k xs) m ∙ ap (λ (i : ℕ). line_if (eqb i 0) 0 KindChanged) (sym s.counted))
        (sym (s.told m))
        ∙ ap (λ (p : Olds). line_if (eqb n 0) 0 KindChanged ++ (lines_by (base_in k xs) ps 0 p.records ++ cut_line p.cut)) olds_multi

    pub multi_listed : (base start from next : ℕ) {os cs os' cs' os'' cs'' : List ℕ} → base ≡ base_in k xs → start ≡ head_size k
        → Listed (line_if (eqb n 0) 0 KindChanged) 0 from os cs os' cs'
        → Listed (lines_from base ps 0 start xs) from next os' cs' os'' cs'' → Listed (lines_of k xs) 0 next os cs os'' cs''
    multi_listed base start from next eb es p q = rw lines_multi (listed_then p (rw (eb, es) at q))

  module _ (m : multi k ≡ false) where
    -- only extra bytes
    lines_single : lines_of k xs ≡ line_if (ltb (head_size k) (length xs)) (head_size k) TailCut
    unfolding lines_after map_onto
    lines_single =
        let e : olds_in k xs ≡ extra k xs = rw m in
        ap (λ (p : Olds). kind_line k (map_of (base_in k xs) p.records) ++ (lines_after (base_in k xs) [] p.records ++ cut_line p.cut)) e
        ∙ ap (λ (b : Bool). line_if b 0 KindChanged ++ cut_line (extra k xs).cut) m
        ∙ by (ltb (head_size k) (length xs))
      where
        by : (b : Bool) → cut_line (cond b (Some (head_size k)) None) ≡ line_if b (head_size k) TailCut
        by true = refl
        by false = refl

    pub single_listed : (start next : ℕ) {os cs os' cs' : List ℕ} → start ≡ head_size k
        → Listed (line_if (ltb start (length xs)) start TailCut) 0 next os cs os' cs'
        → Listed (lines_of k xs) 0 next os cs os' cs'
    single_listed start next e p = rw lines_single (rw e at p)
