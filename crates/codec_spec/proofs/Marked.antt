-- P1 to P9 of document 01, owned flags, the limits of a varint, and the room, as one table under one statement: bytes, two lent tables, and
-- what reading answers and leaves of them. By computation.
-- Assumes nothing.
use Prim.Native.Nat.{ℕ}
use mathlib.Core.Path.{◌≡◌, refl}
use Rattle.std.specs.Prelude.{None, Some}
use mathlib.Core.List.{List, [], ◌∷◌, ◌++◌, map}
use lib.ListN.{replicate}
use Rattle.fields_spec.specs.Big.{said_after}
use Rattle.fields_spec.specs.Varint.{groups, varint, high, value, found}
use Rattle.records_spec.specs.Tables.{◌⦂◌, epochs_of, counts_of}
use Rattle.records_spec.specs.Flags.{flags, lending, Lent}
use Rattle.records_spec.specs.Answers.{FlagsAfter, placing_if}
use Rattle.records_spec.specs.Outcomes.{leaving}
use Rattle.records_spec.proofs.Expected.{gives_none, gives, refuses}
use Rattle.codec_spec.specs.Reading.{next, parse, read_as, read}
use Rattle.codec_spec.specs.Calls.{deserialized}

-- bytes, two lent tables, and what is left of these
pub record Example : Type 0 where
  pub bytes : List ℕ
  pub out : Lent
  pub left : FlagsAfter

-- an example with n places in each table, and flags or a refusal as the answer
abbrev example : ℕ → List ℕ → (Lent → FlagsAfter) → Example
example n bytes expected =
    let t = lending (replicate n 1) (replicate n 2) in
    record { bytes = bytes; out = t; left = expected t }

-- unowned flags of kind 1 and base 5, by the bytes of their records
abbrev above5 : List ℕ → List ℕ
above5 bytes = 0x01 ∷ 0x00 ∷ 0x05 ∷ bytes

abbrev someone : List ℕ
someone = replicate 32 9

pub examples : List Example
examples =
    -- P1 to P9
    example 2 [] gives_none
    ∷ example 2 (0x00 ∷ 0x00 ∷ 0x05 ∷ []) (gives (flags 5 None []))
    ∷ example 2 (0x00 ∷ 0x05 ∷ []) (refuses 2)
    ∷ example 2 (0x01 ∷ 0x00 ∷ 0x05 ∷ []) (refuses 2)
    ∷ example 2 (0x01 ∷ 0x00 ∷ 0x05 ∷ 0x00 ∷ 0x07 ∷ 0xAC ∷ 0x02 ∷ []) (gives (flags 5 None (7 ⦂ 300 ∷ [])))
    ∷ example 2 (0x01 ∷ 0x00 ∷ 0x05 ∷ 0x00 ∷ 0x05 ∷ 0x01 ∷ []) (refuses 3)
    ∷ example 2 (0x01 ∷ 0x00 ∷ 0x05 ∷ 0x00 ∷ 0x07 ∷ 0x81 ∷ 0x00 ∷ []) (refuses 3)
    ∷ example 2 (0x01 ∷ 0x00 ∷ 0x05 ∷ 0x00 ∷ 0x07 ∷ 0x80 ∷ []) (refuses 2)
    ∷ example 2 (0x04 ∷ []) (refuses 1)
    -- exact room, and one place less
    ∷ example 1 (above5 (0x00 ∷ 0x07 ∷ 0x01 ∷ [])) (gives (flags 5 None (7 ⦂ 1 ∷ [])))
    ∷ example 0 (above5 (0x00 ∷ 0x07 ∷ 0x01 ∷ [])) (refuses 10)
    -- 4,294,967,295 and one more; ten bytes with the top bit, and nine; an epoch twice
    ∷ example 1 (above5 (0x00 ∷ 0x07 ∷ 0xFF ∷ 0xFF ∷ 0xFF ∷ 0xFF ∷ 0x0F ∷ [])) (gives (flags 5 None (7 ⦂ 4294967295 ∷ [])))
    ∷ example 1 (above5 (0x00 ∷ 0x07 ∷ 0x80 ∷ 0x80 ∷ 0x80 ∷ 0x80 ∷ 0x10 ∷ [])) (refuses 3)
    ∷ example 1 (above5 (0x00 ∷ 0x07 ∷ replicate 10 0x80)) (refuses 2)
    ∷ example 1 (above5 (0x00 ∷ 0x07 ∷ (replicate 9 0x80 ++ (0x01 ∷ [])))) (refuses 3)
    ∷ example 2 (above5 (0x00 ∷ 0x07 ∷ 0x01 ∷ 0x00 ∷ 0x07 ∷ 0x01 ∷ [])) (refuses 3)
    -- owned flags
    ∷ example 1 (0x02 ∷ (someone ++ (0x00 ∷ 0x05 ∷ []))) (gives (flags 5 (Some someone) []))
    ∷ example 1 (0x03 ∷ (someone ++ (0x00 ∷ 0x05 ∷ 0x00 ∷ 0x07 ∷ 0x01 ∷ []))) (gives (flags 5 (Some someone) (7 ⦂ 1 ∷ [])))
    ∷ example 1 (0x02 ∷ (someone ++ (0x00 ∷ []))) (refuses 2)
    ∷ []

pub marked : map (λ (e : Example). deserialized e.bytes e.out) examples ≡ map (λ (e : Example). e.left) examples
unfolding examples said_after groups varint high value found epochs_of counts_of placing_if leaving next parse read_as read
marked = refl
