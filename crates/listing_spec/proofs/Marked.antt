-- The marked texts of document 01: P5 as it stands there, and what is printed of P1, P3, P6 and P9; an owner; and the longest input that is read.
-- By computation.
-- Assumes nothing.
use mathlib.Core.Path.{◌≡◌, refl}
use mathlib.Core.List.{[], ◌∷◌, ◌++◌}
use lib.ListN.{replicate}
use Rattle.codec_spec.specs.Reading.{next, parse, read_as, read}
use Rattle.fields_spec.specs.Big.{said_after}
use Rattle.fields_spec.specs.Varint.{found, high, value, varint, groups}
use Rattle.records_spec.specs.Outcomes.{refused}
use Rattle.listing_spec.specs.Text.{ascii, digits, decimal, hex, record_texts}
use Rattle.listing_spec.specs.Listed.{listed}

pub record MarkedTexts : Type 0 where
  pub p1 : listed [] ≡ ascii "none\n"
  pub p3 : listed (0x00 ∷ 0x05 ∷ []) ≡ ascii "refused 2\n"
  pub p5 : listed (0x01 ∷ 0x00 ∷ 0x05 ∷ 0x00 ∷ 0x07 ∷ 0xAC ∷ 0x02 ∷ []) ≡ ascii "kind 1\nbase 5\nepoch 7 bytes 300\nrecords 1\n"
  pub p6 : listed (0x01 ∷ 0x00 ∷ 0x05 ∷ 0x00 ∷ 0x05 ∷ 0x01 ∷ []) ≡ ascii "refused 3\n"
  pub p9 : listed (0x04 ∷ []) ≡ ascii "refused 1\n"

pub marked_texts : MarkedTexts
unfolding listed read read_as parse next found high value varint groups said_after decimal digits record_texts
marked_texts = record { p1 = refl; p3 = refl; p5 = refl; p6 = refl; p9 = refl }

-- an owner's bytes in small letters
pub owned : listed (0x02 ∷ (replicate 32 0xAF ++ (0x00 ∷ 0x05 ∷ [])))
    ≡ ascii "kind 2\nowner afafafafafafafafafafafafafafafafafafafafafafafafafafafafafafafaf\nbase 5\nrecords 0\n"
unfolding listed read read_as parse next found high value varint groups said_after decimal digits hex record_texts
owned = refl

-- 7,203 bytes are read, and one more are too long
pub longest_read : (listed (replicate 7203 0) ≡ ascii "refused 2\n") × (listed (replicate 7204 0) ≡ ascii "too long\n")
unfolding listed read read_as parse next found high value varint groups said_after decimal digits record_texts
longest_read = (refl, refl)
