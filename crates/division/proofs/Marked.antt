-- The worked example of docs/DIVISION.md: base 5 and {7:10, 8:9, 9:2}, and the sections of each amount. By computation.
-- Assumes nothing.
use Prim.Native.Nat.{ℕ}
use mathlib.Core.Path.{◌≡◌, refl}
use mathlib.Core.List.{List, [], ◌∷◌, map}
use Rattle.records_spec.specs.Tables.{At, ◌⦂◌}
use Rattle.splitting_spec.specs.Sections.{spare, section, sections, split}

pub examples : List (ℕ × List At)
examples =
    (1, 8 ⦂ 1 ∷ 9 ⦂ 0 ∷ [])
    ∷ (6, 8 ⦂ 6 ∷ 9 ⦂ 0 ∷ [])
    ∷ (7, 7 ⦂ 1 ∷ 8 ⦂ 6 ∷ 9 ⦂ 0 ∷ [])
    ∷ (10, 7 ⦂ 4 ∷ 8 ⦂ 6 ∷ 9 ⦂ 0 ∷ [])
    ∷ (13, 7 ⦂ 7 ∷ 8 ⦂ 6 ∷ 9 ⦂ 0 ∷ [])
    ∷ (14, 5 ⦂ 1 ∷ 7 ⦂ 7 ∷ 8 ⦂ 6 ∷ 9 ⦂ 0 ∷ [])
    ∷ (20, 5 ⦂ 7 ∷ 7 ⦂ 7 ∷ 8 ⦂ 6 ∷ 9 ⦂ 0 ∷ [])
    ∷ []

pub worked : map (λ (x : ℕ × List At). split 5 (7 ⦂ 10 ∷ 8 ⦂ 9 ∷ 9 ⦂ 2 ∷ []) x.0) examples ≡ map (λ (x : ℕ × List At). x.1) examples
unfolding examples spare section sections split
worked = refl
