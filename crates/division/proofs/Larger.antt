-- A LARGER AMOUNT NEVER TAKES LESS FROM ANY EPOCH: of the base, and of each record, no less is asked.
-- Assumes nothing.
use mathlib.Core.Path.{◌≡◌}
use mathlib.Core.Bool.{true}
use mathlib.Core.List.{List}
use Prim.Native.Nat.{ℕ}
use native.Mathlib.Omega.{arith}
use Rattle.records_spec.specs.Tables.{At, epochs_of, ascending}
use Rattle.records_spec.proofs.Alike.{held_none}
use Rattle.splitting_spec.specs.Sections.{split}
use Rattle.division.specs.Fair.{NoLess, NeverLess}
use Rattle.division.proofs.Each.{at_each, at_every}
use Rattle.division.proofs.Split.{split_division, split_amounts}

pub split_never_less : (base : ℕ) (rs : List At) → ascending base (epochs_of rs) ≡ true → NeverLess (split base rs)
split_never_less base rs a m n h =
    let x = split_amounts base rs a m in
    let y = split_amounts base rs a n in
    at_every base rs (NoLess (split base rs m) (split base rs n)) (omega (arith, x.base_gives, y.base_gives))
    (at_each (NoLess (split base rs m) (split base rs n)) (λ r later p q. omega arith) rs x.records_give y.records_give)
    (λ e p q.
    omega (
      arith,
      held_none e (split base rs m) ((split_division base rs a m).nowhere_else e p q),
      held_none e (split base rs n) ((split_division base rs a n).nowhere_else e p q),
    ))
