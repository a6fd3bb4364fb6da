-- What the calls of this crate answer and leave.
-- Assumes nothing.
use Rattle.std.specs.Prelude.{ℕ, List, length, Result, Ok, Err}
use Rattle.std.specs.Prelude.{Option, None, Some}
use Rattle.records_spec.specs.Refusals.{number}
use Rattle.records_spec.specs.Outcomes.{Answer, ok, refused, ◌unless◌, leaving, ◌>>◌}
use Rattle.records_spec.specs.Flags.{Flags, Lent, Held, flags_of, head_of, proper}
use Rattle.records_spec.specs.Answers.{FlagsAfter, placing_if, BytesAfter, placed_bytes}
use Rattle.records_spec.specs.declared.head.Kind.{Kind}
use Rattle.records_spec.specs.declared.refusal.Refusal.TheVariants.{BadTable}
use Rattle.codec_spec.specs.Bytes.{bytes_of}
use Rattle.codec_spec.specs.Reading.{Read, no_flags, some_flags, refused_at, fault_at, read_as, read}
use Rattle.records_spec.specs.declared.head.Head.{Head}
use Rattle.codec_spec.specs.declared.judging.Fault.{Fault}

-- what judging answers: flags by their head, or the refusal and its place
abbrev pub judgement : Read → Result (Option Head) Fault
judgement no_flags = Ok None
judgement (some_flags f) = Ok (Some (head_of f))
judgement (refused_at r place) = Err (fault_at r place)

-- what reading answers: the place of a fault is dropped
abbrev pub answer : Read → Answer (Option Flags)
answer no_flags = ok None
answer (some_flags f) = ok (Some f)
answer (refused_at r place) = refused (number r)

-- the four readers by kind
abbrev pub deserialized_as : Kind → List ℕ → Lent → FlagsAfter
deserialized_as k src = placing_if (answer (read_as k src))

-- `deserialize`
abbrev pub deserialized : List ℕ → Lent → FlagsAfter
deserialized src = placing_if (answer (read src))

-- `serialize`
unfoldable pub serialized : Held → List ℕ → BytesAfter
serialized f out = leaving out do
  BadTable unless proper f
  placed_bytes (bytes_of (flags_of f)) out

-- `serialized_size`
unfoldable pub size_of : Held → Answer ℕ
size_of f = do
  BadTable unless proper f
  ok (length (bytes_of (flags_of f)))
