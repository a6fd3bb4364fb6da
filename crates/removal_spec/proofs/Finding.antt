-- What stands at an epoch: found around its place in a table, and in a union by theirs first, then ours.
-- Assumes nothing.
use mathlib.Core.Path.{◌≡◌, refl, sym, ap, ◌∙◌}
use mathlib.Core.Bool.{Bool, true, false, cond}
use mathlib.Core.List.{List}
use Prim.Native.Nat.{ℕ}
use lib.Dec.{ltb}
use Rattle.std.specs.Prelude.{Some, None}
use Rattle.std.specs.Bool.{then_some}
use Rattle.std.specs.Option.{option_or}
use Rattle.records_spec.specs.Tables.{At, records_of, has, held, union}
use Rattle.records_spec.specs.Inner.Tables.{Table}
use Rattle.records_spec.specs.Inner.Unions.{spot_of}
use Rattle.records_spec.specs.declared.table.Spot.{Spot}
use Rattle.records_spec.proofs.Around.{spot_has}
use Rattle.records_spec.proofs.Held.{has_union, held_union}
use Rattle.removal_spec.specs.Inner.Findings.{standing_at}

-- around the epoch's place in a table
pub spot_found : {es cs : List ℕ} → Table es cs → (e : ℕ) (s : Spot) → s ≡ spot_of e es cs
    → then_some (ltb s.below s.upto) s.count ≡ standing_at e (records_of es cs)
spot_found {es} {cs} t e s h =
    ap (λ (x : Spot). then_some (ltb x.below x.upto) x.count) h
    ∙ ap (λ (b : Bool). then_some b (held e (records_of es cs))) (sym (spot_has t e))
    ∙ by (has e (records_of es cs)) (held e (records_of es cs))
  where
    by : (b : Bool) (n : ℕ) → then_some b n ≡ cond b (Some n) None
    by true n = refl
    by false n = refl

-- in a union: theirs, else ours
pub found_union : (e : ℕ) (os ts : List At) → option_or (standing_at e ts) (standing_at e os) ≡ standing_at e (union os ts)
found_union e os ts = rw (has_union e os ts, held_union e os ts) (by (has e ts) (held e ts))
  where
    by : (b : Bool) (n : ℕ) → option_or (cond b (Some n) None) (standing_at e os)
        ≡ cond (cond b true (has e os)) (Some (cond b n (held e os))) None
    by true n = refl
    by false n = refl
