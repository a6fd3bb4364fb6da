-- EXACTLY ONE DIVISION IS FAIR, and it is the split's: what has the five properties gives the same at each epoch and stands at the same epochs, and
-- sections in order that do so are the same.
-- Assumes nothing.
use mathlib.Core.Path.{◌≡◌, sym, ◌∙◌}
use mathlib.Core.Bool.{true}
use mathlib.Core.List.{List}
use Prim.Native.Nat.{ℕ, min}
use lib.Dec.{ltb}
use Rattle.records_spec.specs.Tables.{At, epochs_of, ascending, has, held}
use Rattle.records_spec.proofs.Alike.{held_none, alike}
use Rattle.splitting_spec.specs.Sections.{above, asked, split}
use Rattle.division.specs.Fair.{Division, gives, RightSum, ThreeKept, LatestFirst, BaseLast, Fair, OnlyFair}
use Rattle.division.proofs.Each.{read_alike}
use Rattle.division.proofs.Fixed.{amounts, standing, fair}
use Rattle.division.proofs.Split.{split_division, split_amounts, split_standing}

module _ (base : ℕ) (rs : List At) (a : ascending base (epochs_of rs) ≡ true) (n : ℕ) where
  -- ---- whatever has the properties

  module _ (us : List At) (d : Division base rs us) where
    -- with the first four it takes from each epoch what the split takes
    pub same_amounts : RightSum us n → ThreeKept us rs → LatestFirst us rs → BaseLast us base rs → (e : ℕ) → gives us e ≡ gives (split base rs n) e
    same_amounts s k l b =
        let x = amounts base rs a n us d s k l b in
        let y = split_amounts base rs a n in
        read_alike base rs held (asked n rs) (λ r later. min (asked n later) (above r)) us (split base rs n) x.base_gives y.base_gives
        x.records_give y.records_give
        (λ e p h. held_none e us (d.nowhere_else e p h) ∙ sym (held_none e (split base rs n) ((split_division base rs a n).nowhere_else e p h)))

    -- with all five it stands where the split stands
    same_sections : Fair base rs n us → (e : ℕ) → has e us ≡ has e (split base rs n)
    same_sections f =
        let x = standing base rs a n us d (amounts base rs a n us d f.right_sum f.three_kept f.latest_first f.base_last)
        f.section_where_asked in
        let y = split_standing base rs a n in
        read_alike base rs has (ltb 0 (asked n rs)) (λ r later. ltb 0 (asked n later)) us (split base rs n) x.base_has y.base_has
        x.records_have y.records_have (λ e p h. d.nowhere_else e p h ∙ sym ((split_division base rs a n).nowhere_else e p h))

    -- so it is the split
    fair_is_split : Fair base rs n us → us ≡ split base rs n
    fair_is_split f =
        alike us (split base rs n) d.ascends (split_division base rs a n).ascends (same_sections f)
        (same_amounts f.right_sum f.three_kept f.latest_first f.base_last)

  -- ---- the split

  pub split_only_fair : OnlyFair base rs n (split base rs n)
  split_only_fair =
      record {
        is_division = split_division base rs a n;
        is_fair = fair base rs a n (split base rs n) (split_division base rs a n) (split_amounts base rs a n) (split_standing base rs a n);
        no_other = λ us d f. fair_is_split us d f;
      }
