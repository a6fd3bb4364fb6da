-- What tables of examples expect of a call that answers flags, said of the two tables that were lent.
-- Assumes nothing.
use Prim.Native.Nat.{ℕ}
use mathlib.Core.Bool.{true, false}
use Rattle.records_spec.specs.Outcomes.{ok, after, kept}
use Rattle.records_spec.specs.Flags.{Flags, Lent, blank}
use Rattle.records_spec.specs.Answers.{FlagsAfter, in_tables}

-- these flags, at the start of the tables
abbrev pub gives : Flags → Lent → FlagsAfter
gives f t = after (ok true) (in_tables f t)

-- no flags
abbrev pub gives_none : Lent → FlagsAfter
gives_none t = after (ok false) (blank t)

-- the refusal of this number
abbrev pub refuses : ℕ → Lent → FlagsAfter
refuses n t = kept n (blank t)
