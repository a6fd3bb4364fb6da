-- Big-endian fields, over their width. No power of 256 stands in the definitions, so each step of a proof is linear.
-- Assumes nothing.
use Rattle.std.specs.Prelude.{ℕ, zero, suc, ◌+◌, ◌*◌, ◌/◌, ◌%◌, List, [], ◌∷◌, ◌++◌}

-- n in k bytes, the highest first
unfoldable pub big : ℕ → ℕ → List ℕ
big zero n = []
big (suc k) n = big k (n / 256) ++ (n % 256 ∷ [])

-- the number that the bytes say behind those that say n, the highest first
unfoldable pub said_after : ℕ → List ℕ → ℕ
said_after n [] = n
said_after n (x ∷ xs) = said_after (n * 256 + x) xs

-- the number that the bytes say
abbrev pub said : List ℕ → ℕ
said xs = said_after 0 xs
