-- One of several records, between earlier and later ones. Assumes nothing.
use mathlib.Core.Path.{refl, ap}
use mathlib.Core.List.{List, [], ◌∷◌}
use Rattle.repair_spec.specs.Olds.{Old}
use Rattle.repair_spec.specs.Theorems.{Among}

module _ (P : Old → List Old → Type 0) (o : Old) (os : List Old) where
  pub among_first : P o os → Among P (o ∷ os)
  among_first h = record { earlier = []; one = o; later = os; split = refl; holds = h }

  pub among_behind : Among P os → Among P (o ∷ os)
  among_behind a = record {
    earlier = o ∷ a.earlier;
    one = a.one;
    later = a.later;
    split = ap (λ (x : List Old). o ∷ x) a.split;
    holds = a.holds;
  }
