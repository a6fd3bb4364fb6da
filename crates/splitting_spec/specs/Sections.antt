-- What each epoch gives of a removal: document 01, "Splitting a removal".
-- Assumes nothing.
use Rattle.std.specs.Prelude.{ℕ, zero, suc, ◌+◌, ◌-◌, min, cond, List, [], ◌∷◌, ◌++◌, leb, eqb}
use Rattle.records_spec.specs.Tables.{At, ◌⦂◌}

-- what a record keeps, if it has as much; with so little left it is dropped
abbrev pub minimum : ℕ
minimum = 3

-- what a record can give: what it holds above 3
abbrev pub above : At → ℕ
above r = r.bytes - minimum

-- what some records can give together
unfoldable pub spare : List At → ℕ
spare [] = 0
spare (r ∷ rs) = above r + spare rs

-- what is asked of an epoch: what the later ones cannot give
abbrev pub asked : ℕ → List At → ℕ
asked n later = n - spare later

-- an epoch of which n bytes are asked gives at most so many: a section exactly where something is asked, and it may be 0
unfoldable pub section : ℕ → ℕ → ℕ → List At
section e zero most = []
section e (suc n) most = e ⦂ min (suc n) most ∷ []

-- the sections at the records; in an ascending table those behind a record are the later ones
unfoldable pub sections : List At → ℕ → List At
sections [] n = []
sections (r ∷ rs) n = section r.epoch (asked n rs) (above r) ++ sections rs n

-- all sections of n bytes: the base gives the rest
unfoldable pub split : ℕ → List At → ℕ → List At
split base rs n = section base (asked n rs) (asked n rs) ++ sections rs n

-- the sections that do not stand at the base
unfoldable pub beside_base : ℕ → List At → List At
beside_base base [] = []
beside_base base (s ∷ ss) = cond (eqb s.epoch base) (beside_base base ss) (s ∷ beside_base base ss)

-- the Rust's loop over the records, the latest first: while bytes are left a record gives all above 3, or all that is left; the base gives the rest
unfoldable pub from_latest : ℕ → List At → ℕ → List At
from_latest base [] left = cond (eqb left 0) [] (base ⦂ left ∷ [])
from_latest base (r ∷ rs) left =
    cond (eqb left 0) []
    (cond (leb r.bytes (left + minimum)) (r.epoch ⦂ above r ∷ from_latest base rs (left - above r)) (r.epoch ⦂ left ∷ []))
