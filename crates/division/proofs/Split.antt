-- The split is a division; what each epoch gives in it, and where its sections stand.
-- Assumes nothing.
use mathlib.Core.Path.{◌≡◌}
use mathlib.Core.Bool.{true}
use mathlib.Core.List.{List}
use Prim.Native.Nat.{ℕ, min}
use lib.Dec.{ltb}
use Rattle.records_spec.specs.Tables.{At, epochs_of, ascending, has}
use Rattle.splitting_spec.specs.Sections.{above, asked, split}
use Rattle.splitting_spec.proofs.Ascending.{split_ascends}
use Rattle.splitting_spec.proofs.Given.{record_has, record_gives, base_has, base_gives, nowhere_else}
use Rattle.division.specs.Fair.{Division, gives}
use Rattle.division.proofs.Each.{of_each}
use Rattle.division.proofs.Fixed.{Amounts, Standing}

module _ (base : ℕ) (rs : List At) (a : ascending base (epochs_of rs) ≡ true) (n : ℕ) where
  pub split_division : Division base rs (split base rs n)
  split_division = record { ascends = split_ascends base rs n a; nowhere_else = λ e p h. nowhere_else e base rs n p h }

  pub split_amounts : Amounts base rs n (split base rs n)
  split_amounts =
      record {
        base_gives = base_gives base rs n a;
        records_give =
            of_each (λ l. ascending base (epochs_of l) ≡ true) (λ l r later. gives (split base l n) r.epoch ≡ min (asked n later) (above r))
            (λ xs r ys h. record_gives r ys n base xs h) rs a;
      }

  pub split_standing : Standing base rs n (split base rs n)
  split_standing =
      record {
        base_has = base_has base rs n a;
        records_have =
            of_each (λ l. ascending base (epochs_of l) ≡ true) (λ l r later. has r.epoch (split base l n) ≡ ltb 0 (asked n later))
            (λ xs r ys h. record_has r ys n base xs h) rs a;
      }
