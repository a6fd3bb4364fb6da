-- Base-128 varints: seven bits a byte, lowest group first, top bit set on all but the last byte.
-- Assumes nothing.
use Rattle.std.specs.Prelude.{ℕ, zero, suc, ◌+◌, ◌*◌, ◌/◌, ◌%◌, true, false, cond, ◌&&◌, List, [], ◌∷◌, ltb, leb, eqb, length, take}

-- the largest count: 32 bits
abbrev pub largest : ℕ
largest = 4294967295

-- the groups of n, at most f of them before the last
unfoldable pub groups : ℕ → ℕ → List ℕ
groups zero n = n ∷ []
groups (suc f) n = elim (ltb n 128) [ true ↦ n ∷ [] | false ↦ (n % 128 + 128) ∷ groups f (n / 128) ]

-- the minimal varint of n; each group divides by 128, so n groups are more than enough
unfoldable pub varint : ℕ → List ℕ
unfolding groups
varint n = groups n n

-- how many bytes at the start have the top bit set
unfoldable pub high : List ℕ → ℕ
high [] = 0
high (b ∷ bs) = cond (ltb b 128) 0 (suc (high bs))

-- what a run of groups says, over whole numbers
unfoldable pub value : List ℕ → ℕ
value [] = 0
value (b ∷ bs) = b % 128 + 128 * value bs

-- what stands where a varint is to be read; a whole one has what it says and its number of bytes
pub data Found : Type 0 where
  incomplete notCanonical : Found
  whole : ℕ → ℕ → Found

-- a complete varint that says v in used bytes: v fits 32 bits, and the minimal varint of v is as long
abbrev pub canonical : ℕ → ℕ → Found
canonical v used = cond (leb v largest && eqb (length (varint v)) used) (whole v used) notCanonical

-- the varint at the start of xs: at most nine bytes with the top bit set, then one without
unfoldable pub found : List ℕ → Found
found xs =
    cond (ltb (high xs) 10 && ltb (high xs) (length xs))
    (canonical (value (take (suc (high xs)) xs)) (suc (high xs)))
    incomplete
