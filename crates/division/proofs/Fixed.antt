-- What the five properties fix, of any division: the first four what each epoch gives, and the fifth where sections stand. And sections that give and
-- stand so have the five.
-- Assumes nothing.
use mathlib.Core.Path.{◌≡◌}
use mathlib.Core.Bool.{true}
use mathlib.Core.List.{List}
use Prim.Native.Nat.{ℕ, ◌+◌, ◌<◌}
use native.Mathlib.Omega.{arith}
use lib.Dec.{ltb}
use Rattle.records_spec.specs.Tables.{At, epochs_of, ascending, has}
use Rattle.splitting_spec.specs.Sections.{asked}
use Rattle.division.specs.Fair.{Division, OfEach, gives, together, RightSum, ThreeKept, LatestFirst, BaseLast, SectionIfAsked}
use Rattle.division.specs.Fair.{SectionWhereAsked, Fair}
use Rattle.division.proofs.Sums.{total_gives}
use Rattle.division.proofs.Amounts.{RecordsGive, RecordsHave, each_gives, give_together, keep, latest, base_after, if_asked, asked_if}
use Rattle.division.proofs.Amounts.{each_has, has_each, section_given, each_given}

-- what each epoch gives
pub record Amounts (base : ℕ) (rs : List At) (n : ℕ) (ss : List At) : Type 0 where
  pub base_gives : gives ss base ≡ asked n rs
  pub records_give : RecordsGive ss n rs

-- where sections stand
pub record Standing (base : ℕ) (rs : List At) (n : ℕ) (ss : List At) : Type 0 where
  pub base_has : has base ss ≡ ltb 0 (asked n rs)
  pub records_have : RecordsHave ss n rs

module _ (base : ℕ) (rs : List At) (a : ascending base (epochs_of rs) ≡ true) (n : ℕ) (ss : List At) (d : Division base rs ss) where
  -- the base and the records' epochs give n together
  sum_gives : RightSum ss n → gives ss base + together ss rs ≡ n
  sum_gives s = omega (arith, s, total_gives base rs ss a d)

  -- the first four properties fix what each epoch gives
  pub amounts : RightSum ss n → ThreeKept ss rs → LatestFirst ss rs → BaseLast ss base rs → Amounts base rs n ss
  amounts s k l b =
      let e = sum_gives s in
      let g = each_gives ss n (gives ss base) rs e k l (λ h. b (omega arith)) in
      record { base_gives = omega (arith, give_together ss n rs g); records_give = g }

  -- and the fifth where sections stand
  pub standing : Amounts base rs n ss → SectionWhereAsked ss n base rs → Standing base rs n ss
  standing m w =
      record {
        base_has = if_asked ss n base rs m.records_give w.at_base;
        records_have = each_has ss n rs m.records_give w.at_records;
      }

  -- of epochs that give something the fifth says no more than the sum
  pub sum_places : RightSum ss n
      → (0 < gives ss base → SectionIfAsked ss n base rs) × OfEach (λ r later. 0 < gives ss r.epoch → SectionIfAsked ss n r.epoch later) rs
  sum_places s =
      let e = sum_gives s in
      (section_given ss n base rs 0 (omega arith), each_given ss n (gives ss base) rs e)

  -- sections that give and stand so are fair
  pub fair : Amounts base rs n ss → Standing base rs n ss → Fair base rs n ss
  fair m s =
      let g = m.records_give in
      record {
        right_sum = omega (arith, total_gives base rs ss a d, give_together ss n rs g, m.base_gives);
        three_kept = keep ss n rs g;
        latest_first = latest ss n rs g;
        base_last = base_after ss n base rs m.base_gives g;
        section_where_asked = record { at_base = asked_if ss n base rs g s.base_has; at_records = has_each ss n rs g s.records_have };
      }
