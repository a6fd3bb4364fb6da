-- The sum that the inner functions make of the counts.
-- Assumes nothing.
use Rattle.std.specs.Prelude.{ℕ, ◌+◌, List, [], ◌∷◌, length}
use Rattle.fields_spec.specs.Varint.{varint}

-- the bytes of records with these counts
unfoldable pub counts_size : List ℕ → ℕ
counts_size [] = 0
counts_size (c ∷ cs) = 2 + length (varint c) + counts_size cs
