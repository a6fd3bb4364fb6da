-- What the answer of a read means, and what is promised of the bytes that were read. Assumes nothing.
use Rattle.std.specs.Prelude.{ℕ, zero, suc, ◌<◌, List, length, take, Option, None, Some, Result, Ok, Err, IfOk}
use Rattle.std.specs.Io.KnownBytes.{Consumes, IsAtEnd}
use Rattle.io.specs.Counts.{IsPrefixLen}

-- an error is a failure, 0 is the end, and any other answer is how many bytes came
abbrev pub meaning : {E : Type 0} → Result ℕ E → Result (Option ℕ) E
meaning (Err e) = Err e
meaning (Ok zero) = Ok None
meaning (Ok (suc k)) = Ok (Some (suc k))

-- the bytes that were read stand at the start of what was lent
abbrev pub Within : {E : Type 0} → Result ℕ E → List ℕ → Type 0
Within r lent = IfOk r (λ n. IsPrefixLen n lent)

-- where it is known which bytes come, these are the ones that were read, and all of them where what was lent has room for more
abbrev pub ReadsKnown : {E : Type 0} → Option (List ℕ) → Option (List ℕ) → Result ℕ E → List ℕ → Type 0
ReadsKnown old new r lent = IfOk r (λ n. Consumes old new (take n lent) × (n < length lent → IsAtEnd new))
