-- The order of lists of numbers from the front, which is that of identifiers byte by byte.
-- Assumes nothing.
use Rattle.std.specs.Prelude.{ℕ, Bool, cond, List, [], ◌∷◌, ltb}
use Rattle.std.specs.Ordering.{is_lt, is_eq, ordering_reverse}
use Rattle.std.specs.declared.cmp.Ordering.{Ordering}
use Rattle.std.specs.declared.cmp.Ordering.TheVariants.{Less, Equal, Greater}

-- by the first numbers, and where these are equal by what comes next
abbrev pub by : ℕ → ℕ → Ordering → Ordering
by x y next = cond (ltb x y) Less (cond (ltb y x) Greater next)

-- by the first place where the lists differ; one that ends first is less
unfoldable pub order : List ℕ → List ℕ → Ordering
order [] [] = Equal
order [] (y ∷ ys) = Less
order (x ∷ xs) [] = Greater
order (x ∷ xs) (y ∷ ys) = by x y (order xs ys)

-- whether the first is less
abbrev pub is_less : Ordering → Bool
is_less o = is_lt o

-- whether they are equal
abbrev pub is_equal : Ordering → Bool
is_equal o = is_eq o

-- how the second stands to the first
abbrev pub flip : Ordering → Ordering
flip o = ordering_reverse o
