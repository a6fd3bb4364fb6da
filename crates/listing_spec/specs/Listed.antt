-- What the program lists, and its limits: document 01, "The program".
-- Assumes nothing.
use Rattle.std.specs.Prelude.{ℕ, cond, List, leb, length}
use Rattle.codec_spec.specs.Reading.{read}
use Rattle.codec_spec.specs.Calls.{answer}
use Rattle.listing_spec.specs.Text.{ascii, listing}

-- the most bytes that are listed
abbrev pub most_listed : ℕ
most_listed = 7203

-- the records that have room
abbrev pub record_places : ℕ
record_places = 2400

-- the bytes that have room in the program's output
abbrev pub longest_text : ℕ
longest_text = 69702

-- the text that the program prints of its input
unfoldable pub listed : List ℕ → List ℕ
listed src = cond (leb (length src) most_listed) (listing (answer (read src))) (ascii "too long\n")
