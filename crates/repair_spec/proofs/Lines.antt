-- The lines of all records from a place of the input on, record by record as the code reads them. Assumes nothing.
use Prim.Native.Nat.{ℕ, ◌+◌, ◌≤◌, ◌<◌}
use mathlib.Core.Path.{◌≡◌, sym, ap, ◌∙◌}
use mathlib.Core.Bool.{not}
use Rattle.std.specs.Prelude.{Option, None, Some}
use mathlib.Core.List.{List, [], ◌∷◌, ◌++◌, append_assoc}
use lib.Dec.{ltb, eqb}
use lib.ListN.{length, get_or, drop}
use Rattle.repair_spec.specs.Olds.{Old, Olds, old_at}
use Rattle.repair_spec.specs.Changes.{line, dropped, record_lines, cut_line}
use Rattle.repair_spec.specs.Inner.Steps.{old_of, higher, lines_by, lines_from}
use Rattle.repair_spec.specs.declared.change.Change.{Change}
use Rattle.repair_spec.specs.declared.change.Change.TheVariants.{TailCut, TooLarge}
use Rattle.repair_spec.proofs.Reading.{rest, rest_end, rest_cut, Turn}
use Rattle.repair_spec.proofs.Getting.{Large, large_turn, Fitting, fitting_turn}
use Rattle.repair_spec.proofs.Fitting.{dropped_large}

module _ (base : ℕ) (ps : List ℕ) (highest : ℕ) (d : List ℕ) (at : ℕ) where
  pub lines_end : length d ≤ at → lines_from base ps highest at d ≡ []
  unfolding lines_by
  lines_end h = ap (λ (p : Olds). lines_by base ps highest p.records ++ cut_line p.cut) (rest_end d at h)

  pub lines_cut : at < length d → old_at at (drop at d) ≡ None → lines_from base ps highest at d ≡ line at TailCut ∷ []
  unfolding lines_by
  lines_cut h q = ap (λ (p : Olds). lines_by base ps highest p.records ++ cut_line p.cut) (rest_cut d at h q)

  -- whether and why a record is dropped, by the table
  abbrev pub dropping : Old → Option Change
  dropping o = dropped base (not (eqb (get_or ps o.epoch 0) o.offset)) o

  lines_more : (o : Old) (next : ℕ) → Turn d at o → next ≡ at + o.size
      → lines_from base ps highest at d ≡ record_lines (dropping o) (ltb o.epoch highest) o ++ lines_from base ps
      (higher (dropping o) o highest) next d
  unfolding lines_by
  lines_more o next t e =
      ap (λ (p : Olds). lines_by base ps highest p.records ++ cut_line p.cut) t.step
      ∙ append_assoc (record_lines (dropping o) (ltb o.epoch highest) o)
      (lines_by base ps (higher (dropping o) o highest) (rest d (at + o.size)).records) (cut_line (rest d (at + o.size)).cut)
      ∙ ap (λ (n : ℕ). record_lines (dropping o) (ltb o.epoch highest) o ++ lines_from base ps (higher (dropping o) o highest) n d) (sym e)

  module _ (more : at < length d) (next : ℕ) where
    -- one whose count is too large
    pub lines_large : (l : Large (old_at at (drop at d)) next)
        → lines_from base ps highest at d ≡ (line at TooLarge ∷ []) ++ lines_from base ps highest next d
    lines_large l =
        let o = l.old in
        let t = large_turn d at more next l in
        let e : dropping o ≡ Some TooLarge = dropped_large base o (not (eqb (get_or ps o.epoch 0) o.offset)) l.large in
        lines_more o next t.0 t.1
        ∙ ap (λ (x : Option Change). record_lines x (ltb o.epoch highest) o ++ lines_from base ps (higher x o highest) next d) e
        ∙ ap (λ (n : ℕ). line n TooLarge ∷ lines_from base ps highest next d) t.0.starts

    -- one whose count fits
    pub lines_fitting : (e c : ℕ) → Fitting (old_at at (drop at d)) e c next
        → lines_from base ps highest at d ≡ record_lines (dropping (old_of at e c next)) (ltb e highest) (old_of at e c next) ++ lines_from base ps
        (higher (dropping (old_of at e c next)) (old_of at e c next) highest) next d
    lines_fitting e c f = let t = fitting_turn d at more e c next f in lines_more (old_of at e c next) next t.0 t.1
