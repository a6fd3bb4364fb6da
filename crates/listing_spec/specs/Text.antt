-- Flags as lines of text: document 01, "The program". Texts are lists of ASCII codes.
-- Assumes nothing.
use Rattle.std.specs.Prelude.{ℕ, zero, suc, ◌+◌, ◌/◌, ◌%◌, true, false, cond, List, [], ◌∷◌, ◌++◌, ltb, length}
use Prim.Native.Char.{code}
use Prim.Native.String.{String, len, char_at}
use Rattle.std.specs.Prelude.{Option, None, Some}
use Rattle.records_spec.specs.Tables.{At}
use Rattle.records_spec.specs.Flags.{Flags, type_byte, kind_of}
use Rattle.records_spec.specs.Outcomes.{refused, Answer, ok}

-- k codes of a text from the place i on
abbrev pub codes : ℕ → ℕ → String → List ℕ
codes zero i s = []
codes (suc k) i s = code (char_at s i) ∷ codes k (suc i) s

-- a text's codes
abbrev pub ascii : String → List ℕ
ascii s = codes (len s) 0 s

-- the decimal digits of n, at most f of them before the last
unfoldable pub digits : ℕ → ℕ → List ℕ
digits zero n = (48 + n) ∷ []
digits (suc f) n = elim (ltb n 10) [ true ↦ (48 + n) ∷ [] | false ↦ digits f (n / 10) ++ ((48 + n % 10) ∷ []) ]

-- n in decimal; each digit divides by 10, so n digits are more than enough
unfoldable pub decimal : ℕ → List ℕ
unfolding digits
decimal n = digits n n

-- a digit below 16, in lower case
abbrev pub hex_digit : ℕ → ℕ
hex_digit d = cond (ltb d 10) (48 + d) (87 + d)

-- two digits a byte
unfoldable pub hex : List ℕ → List ℕ
hex [] = []
hex (b ∷ bs) = hex_digit (b / 16) ∷ hex_digit (b % 16) ∷ hex bs

-- a line of a word and a number
abbrev pub word_line : String → ℕ → List ℕ
word_line word n = ascii word ++ (decimal n ++ ascii "\n")

-- the owner's line, if there is one
abbrev pub owner_line : Option (List ℕ) → List ℕ
owner_line None = []
owner_line (Some o) = ascii "owner " ++ (hex o ++ ascii "\n")

-- a record's line
abbrev pub record_line : At → List ℕ
record_line r = ascii "epoch " ++ (decimal r.epoch ++ (ascii " bytes " ++ (decimal r.bytes ++ ascii "\n")))

-- a line for each record
unfoldable pub record_texts : List At → List ℕ
record_texts [] = []
record_texts (r ∷ rs) = record_line r ++ record_texts rs

-- flags, line by line
abbrev pub flags_text : Flags → List ℕ
flags_text f =
    word_line "kind " (type_byte (kind_of f.owner (length f.records)))
    ++ (owner_line f.owner ++ (word_line "base " f.base ++ (record_texts f.records ++ word_line "records " (length f.records))))

-- what reading answers, as text
abbrev pub listing : Answer (Option Flags) → List ℕ
listing (refused n) = word_line "refused " n
listing (ok None) = ascii "none\n"
listing (ok (Some f)) = flags_text f
