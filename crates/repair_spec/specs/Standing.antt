-- What stands of old records: document 02 (iv), as a map would read them. Assumes nothing.
use Rattle.std.specs.Prelude.{ℕ, Bool, cond, ◌&&◌, List, [], ◌∷◌, leb, ltb}
use Rattle.fields_spec.specs.Varint.{largest}
use Rattle.records_spec.specs.Tables.{At, ◌⦂◌, put}
use Rattle.repair_spec.specs.Olds.{Old}

-- a count above 32 bits and an epoch at or below the base are dropped; these are the others
abbrev pub old_fits : ℕ → Old → Bool
old_fits base o = leb o.count largest && ltb base o.epoch

-- of the others the later of two records for one epoch stands: each is put into the map m
unfoldable pub map_onto : ℕ → List At → List Old → List At
map_onto base m [] = m
map_onto base m (o ∷ os) = map_onto base (cond (old_fits base o) (put (o.epoch ⦂ o.count) m) m) os

-- what is left
abbrev pub map_of : ℕ → List Old → List At
map_of base os = map_onto base [] os
