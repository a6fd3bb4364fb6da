-- The table of totals: document 02 (vii). A row is an owner, an epoch and a total; rows ascend by owner, then epoch, no pair twice, no total 0.
-- Assumes nothing.
use Rattle.std.specs.Prelude.{ℕ, ◌+◌, ◌-◌, Bool, true, cond, ◌&&◌, List, [], ◌∷◌, ltb}
use Rattle.rows_spec.specs.Rows.{Row, row, compared, ascends}
use Rattle.rows_spec.specs.Order.{is_equal}
use Rattle.std.specs.declared.cmp.Ordering.{Ordering}
use Rattle.std.specs.declared.cmp.Ordering.TheVariants.{Less, Equal, Greater}

-- no total is 0
unfoldable pub all_positive : List Row → Bool
all_positive [] = true
all_positive (r ∷ rs) = ltb 0 r.part.bytes && all_positive rs

-- proper: ascending, no pair twice, no total 0
abbrev pub proper_totals : List Row → Bool
proper_totals rs = ascends rs && all_positive rs

-- the total at a row's owner and epoch; 0 where there is no row
unfoldable pub total_at : Row → List Row → ℕ
total_at r [] = 0
total_at r (b ∷ bs) = cond (is_equal (compared r b)) b.part.bytes (total_at r bs)

-- a row before others, unless its total is 0
abbrev pub row_if : Row → List Row → List Row
row_if r rest = cond (ltb 0 r.part.bytes) (r ∷ rest) rest

-- a row against the first of others: before it, in its place, or among those behind it
abbrev pub put_beside : Ordering → Row → Row → List Row → List Row → List Row
put_beside Less r first others more = row_if r (first ∷ others)
put_beside Equal r first others more = row_if r others
put_beside Greater r first others more = first ∷ more

-- the table with another total at a row's owner and epoch; no row where it is 0
unfoldable pub put_total : Row → List Row → List Row
put_total r [] = row_if r []
put_total r (b ∷ bs) = put_beside (compared r b) r b bs (put_total r bs)

-- the row with another total
abbrev pub with_total : Row → ℕ → Row
with_total r n = row r.identifier r.part.epoch n

-- a count added to its total
abbrev pub add_count : Row → List Row → List Row
add_count r t = put_total (with_total r (total_at r t + r.part.bytes)) t

-- a count taken from its total
abbrev pub take_count : Row → List Row → List Row
take_count r t = put_total (with_total r (total_at r t - r.part.bytes)) t

-- all counts added
unfoldable pub add_counts : List Row → List Row → List Row
add_counts [] t = t
add_counts (r ∷ rs) t = add_count r (add_counts rs t)

-- all counts taken
unfoldable pub take_counts : List Row → List Row → List Row
take_counts [] t = t
take_counts (r ∷ rs) t = take_count r (take_counts rs t)
