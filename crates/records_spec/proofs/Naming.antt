-- What the conversion of a byte tells of the kind that it names. By cases on what is named. Assumes nothing.
use Rattle.std.proofs.Common.{◌≡◌, ℕ, arith}
use Rattle.std.specs.Prelude.{Option, None, Some, Result, Ok, Err, ok_or}
use Rattle.records_spec.specs.declared.head.Kind.{Kind}
use Rattle.records_spec.specs.declared.refusal.Refusal.{Refusal}
use Rattle.records_spec.specs.declared.refusal.Refusal.TheVariants.{UnknownType}

pub kind_named : (o : Option Kind) (k : Kind) → Ok k ≡ ok_or o UnknownType → o ≡ Some k
kind_named None k e = let z : ◌≡◌ {A = ℕ} 0 1 = cc in absurd (omega arith)
kind_named (Some j) k e = cc

pub kind_unnamed : (o : Option Kind) (r : Refusal) → Err r ≡ ok_or o UnknownType → (o ≡ None) × (r ≡ UnknownType)
kind_unnamed None r e = (refl_none, cc)
  where
    refl_none : ◌≡◌ {A = Option Kind} None None
    refl_none = cc
kind_unnamed (Some j) r e = let z : ◌≡◌ {A = ℕ} 0 1 = cc in absurd (omega arith)
