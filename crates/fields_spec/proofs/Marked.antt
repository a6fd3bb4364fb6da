-- Varints and big-endian fields by examples: each length at its limit, one byte too long, 33 bits, and ten and eleven bytes. By computation.
-- Assumes nothing.
use Rattle.std.proofs.Common.{ℕ, ◌≡◌, refl, List, [], ◌∷◌, ◌++◌, map, replicate}
use Rattle.fields_spec.specs.Big.{big, said_after, said}
use Rattle.fields_spec.specs.Varint.{groups, varint, high, value, Found, incomplete, notCanonical, whole, found}

-- bytes, and what stands there
pub record Example : Type 0 where
  pub bytes : List ℕ
  pub is : Found

abbrev example : List ℕ → Found → Example
example xs f = record { bytes = xs; is = f }

pub examples : List Example
examples =
    example [] incomplete
    ∷ example (0x80 ∷ []) incomplete
    ∷ example (0x7F ∷ 0x01 ∷ []) (whole 127 1)
    ∷ example (0x80 ∷ 0x01 ∷ []) (whole 128 2)
    ∷ example (0xFF ∷ 0x7F ∷ []) (whole 16383 2)
    ∷ example (0x80 ∷ 0x80 ∷ 0x01 ∷ []) (whole 16384 3)
    ∷ example (0xAC ∷ 0x02 ∷ []) (whole 300 2)
    ∷ example (0xFF ∷ 0xFF ∷ 0xFF ∷ 0xFF ∷ 0x0F ∷ []) (whole 4294967295 5)
    ∷ example (0xFF ∷ 0xFF ∷ 0xFF ∷ 0xFF ∷ 0x10 ∷ []) notCanonical
    ∷ example (0x81 ∷ 0x00 ∷ []) notCanonical
    ∷ example (replicate 9 0x80 ++ (0x00 ∷ [])) notCanonical
    ∷ example (replicate 10 0x80 ++ (0x00 ∷ [])) incomplete
    ∷ []

pub marked : map (λ (e : Example). found e.bytes) examples ≡ map (λ (e : Example). e.is) examples
unfolding examples found high value varint groups
marked = refl

-- the highest byte first
pub marked_fields : (big 2 258 ≡ 1 ∷ 2 ∷ []) × (big 4 16909060 ≡ 1 ∷ 2 ∷ 3 ∷ 4 ∷ []) × (said (1 ∷ 2 ∷ []) ≡ 258)
unfolding big said_after
marked_fields = (refl, refl, refl)
