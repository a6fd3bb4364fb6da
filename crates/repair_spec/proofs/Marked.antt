-- Each sentence of document 02 (iv) by an example: old bytes, and what repairing answers. By computation.
-- Assumes nothing.
use Prim.Native.Nat.{ℕ}
use mathlib.Core.Path.{◌≡◌, refl}
use mathlib.Core.List.{List, [], ◌∷◌, ◌++◌, map}
use lib.ListN.{replicate}
use Rattle.fields_spec.specs.Big.{big, said_after}
use Rattle.fields_spec.specs.Varint.{groups, varint, high, value}
use Rattle.records_spec.specs.Tables.{put}
use Rattle.codec_spec.specs.Bytes.{records_bytes, bytes_of}
use Rattle.records_spec.specs.Outcomes.{refused, Answer, ok}
use Rattle.repair_spec.specs.Olds.{old_at, olds}
use Rattle.repair_spec.specs.Standing.{map_onto}
use Rattle.repair_spec.specs.Changes.{Line, line, again, some_above, lines_after}
use Rattle.repair_spec.specs.Repairing.{Repaired, repaired_as, repaired}
use Rattle.repair_spec.specs.declared.change.Change.TheVariants.{ReEncoded, TooLarge, NotAboveBase, Replaced, TailCut, Moved, KindChanged}

-- old bytes, and what repairing answers
pub record Example : Type 0 where
  pub bytes : List ℕ
  pub answer : Answer Repaired

-- old bytes, those that are written, and the lines
abbrev example : List ℕ → List ℕ → List Line → Example
example old new lines = record { bytes = old; answer = ok (record { bytes = new; lines = lines }) }

-- old bytes that are refused
abbrev refusal : List ℕ → ℕ → Example
refusal old n = record { bytes = old; answer = refused n }

-- unowned flags of kind 1 and base 5, by the bytes of their records
abbrev above5 : List ℕ → List ℕ
above5 bytes = 0x01 ∷ 0x00 ∷ 0x05 ∷ bytes

-- unowned flags of kind 0 and base 5
abbrev only5 : List ℕ
only5 = 0x00 ∷ 0x00 ∷ 0x05 ∷ []

abbrev someone : List ℕ
someone = replicate 32 9

pub examples : List Example
examples =
    -- no bytes, and canonical ones
    example [] [] []
    ∷ example only5 only5 []
    ∷ example (above5 (0x00 ∷ 0x07 ∷ 0xAC ∷ 0x02 ∷ 0x00 ∷ 0x09 ∷ 0x01 ∷ [])) (above5 (0x00 ∷ 0x07 ∷ 0xAC ∷ 0x02 ∷ 0x00 ∷ 0x09 ∷ 0x01 ∷ [])) []
    -- moved
    ∷ example (above5 (0x00 ∷ 0x09 ∷ 0x01 ∷ 0x00 ∷ 0x07 ∷ 0x02 ∷ [])) (above5 (0x00 ∷ 0x07 ∷ 0x02 ∷ 0x00 ∷ 0x09 ∷ 0x01 ∷ [])) (line 6 Moved ∷ [])
    -- re-encoded, also from nine continued bytes; and before moved
    ∷ example (above5 (0x00 ∷ 0x07 ∷ 0x81 ∷ 0x00 ∷ [])) (above5 (0x00 ∷ 0x07 ∷ 0x01 ∷ [])) (line 3 ReEncoded ∷ [])
    ∷ example (above5 (0x00 ∷ 0x07 ∷ (replicate 9 0x80 ++ (0x00 ∷ [])))) (above5 (0x00 ∷ 0x07 ∷ 0x00 ∷ [])) (line 3 ReEncoded ∷ [])
    ∷ example (above5 (0x00 ∷ 0x09 ∷ 0x01 ∷ 0x00 ∷ 0x07 ∷ 0x82 ∷ 0x00 ∷ [])) (above5 (0x00 ∷ 0x07 ∷ 0x02 ∷ 0x00 ∷ 0x09 ∷ 0x01 ∷ []))
    (line 6 ReEncoded ∷ line 6 Moved ∷ [])
    -- replaced; a record that is replaced moves none behind it
    ∷ example (above5 (0x00 ∷ 0x07 ∷ 0x01 ∷ 0x00 ∷ 0x07 ∷ 0x02 ∷ [])) (above5 (0x00 ∷ 0x07 ∷ 0x02 ∷ [])) (line 3 Replaced ∷ [])
    ∷ example (above5 (0x00 ∷ 0x09 ∷ 0x01 ∷ 0x00 ∷ 0x07 ∷ 0x02 ∷ 0x00 ∷ 0x09 ∷ 0x03 ∷ [])) (above5 (0x00 ∷ 0x07 ∷ 0x02 ∷ 0x00 ∷ 0x09 ∷ 0x03 ∷ []))
    (line 3 Replaced ∷ [])
    -- below the base and at it
    ∷ example (above5 (0x00 ∷ 0x03 ∷ 0x01 ∷ [])) only5 (line 0 KindChanged ∷ line 3 NotAboveBase ∷ [])
    ∷ example (above5 (0x00 ∷ 0x05 ∷ 0x01 ∷ 0x00 ∷ 0x06 ∷ 0x01 ∷ [])) (above5 (0x00 ∷ 0x06 ∷ 0x01 ∷ [])) (line 3 NotAboveBase ∷ [])
    -- above 32 bits, by five bytes and by ten; also below the base, where it is the first that fits; it replaces none
    ∷ example (above5 (0x00 ∷ 0x07 ∷ 0xFF ∷ 0xFF ∷ 0xFF ∷ 0xFF ∷ 0x10 ∷ [])) only5 (line 0 KindChanged ∷ line 3 TooLarge ∷ [])
    ∷ example (above5 (0x00 ∷ 0x07 ∷ (replicate 9 0x80 ++ (0x01 ∷ [])))) only5 (line 0 KindChanged ∷ line 3 TooLarge ∷ [])
    ∷ example (above5 (0x00 ∷ 0x03 ∷ 0x80 ∷ 0x80 ∷ 0x80 ∷ 0x80 ∷ 0x10 ∷ [])) only5 (line 0 KindChanged ∷ line 3 TooLarge ∷ [])
    ∷ example (above5 (0x00 ∷ 0x07 ∷ 0x01 ∷ 0x00 ∷ 0x07 ∷ 0x80 ∷ 0x80 ∷ 0x80 ∷ 0x80 ∷ 0x10 ∷ [])) (above5 (0x00 ∷ 0x07 ∷ 0x01 ∷ []))
    (line 6 TooLarge ∷ [])
    -- a cut record, ten continued bytes, and extra bytes
    ∷ example (above5 (0x00 ∷ 0x07 ∷ 0x01 ∷ 0x00 ∷ [])) (above5 (0x00 ∷ 0x07 ∷ 0x01 ∷ [])) (line 6 TailCut ∷ [])
    ∷ example (above5 (0x00 ∷ 0x07 ∷ 0x01 ∷ 0x00 ∷ 0x08 ∷ 0x80 ∷ [])) (above5 (0x00 ∷ 0x07 ∷ 0x01 ∷ [])) (line 6 TailCut ∷ [])
    ∷ example (above5 (0x00 ∷ 0x07 ∷ (replicate 10 0x80 ++ (0x01 ∷ [])))) only5 (line 0 KindChanged ∷ line 3 TailCut ∷ [])
    ∷ example (0x00 ∷ 0x00 ∷ 0x05 ∷ 0xFF ∷ []) only5 (line 3 TailCut ∷ [])
    -- nothing left
    ∷ example (above5 []) only5 (line 0 KindChanged ∷ [])
    -- owned flags
    ∷ example (0x02 ∷ (someone ++ (0x00 ∷ 0x05 ∷ 0xFF ∷ []))) (0x02 ∷ (someone ++ (0x00 ∷ 0x05 ∷ []))) (line 35 TailCut ∷ [])
    ∷ example (0x03 ∷ (someone ++ (0x00 ∷ 0x05 ∷ 0x00 ∷ 0x05 ∷ 0x01 ∷ []))) (0x02 ∷ (someone ++ (0x00 ∷ 0x05 ∷ [])))
    (line 0 KindChanged ∷ line 35 NotAboveBase ∷ [])
    -- refused: another kind; owner or base not complete
    ∷ refusal (0x04 ∷ []) 1
    ∷ refusal (0x01 ∷ 0x00 ∷ []) 2
    ∷ refusal (0x03 ∷ (someone ++ (0x00 ∷ []))) 2
    ∷ []

pub marked : map (λ (e : Example). repaired e.bytes) examples ≡ map (λ (e : Example). e.answer) examples
unfolding examples big said_after groups varint high value put records_bytes bytes_of old_at olds map_onto again some_above lines_after repaired_as repaired
marked = refl
