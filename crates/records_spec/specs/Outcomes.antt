-- The one form of what every call leaves: its answer or a refusal's number, and the memory that was lent. Document 01, "Refusal numbers".
-- Assumes nothing.
use Rattle.std.specs.Prelude.{ℕ, Bool, cond, Result, Ok, Err}
use Rattle.records_spec.specs.Refusals.{number}
use Rattle.records_spec.specs.declared.refusal.Refusal.{Refusal}
use Rattle.records_spec.specs.declared.refusal.Refusal.TheVariants.{NoRoom}

infix 10 ◌unless◌
infix 10 ◌if◌
-- ---- answers, read downwards

-- what a call gives back: its answer, or the number of a refusal
pub data Answer (A : Type 0) : Type 0 where
  ok : A → Answer A
  refused : ℕ → Answer A

-- the same, as the code tells it
abbrev pub answered : {A : Type 0} → Result A Refusal → Answer A
answered (Ok a) = ok a
answered (Err r) = refused (number r)

-- a test on the way: the refusal, and when it is given
pub data Test : Type 0 where
  ◌unless◌ ◌if◌ : Refusal → Bool → Test

-- `do`, a line for each test: the first that refuses is the answer
abbrev pub ◌>>◌ : {A : Type 0} → Test → Answer A → Answer A
◌>>◌ (r unless b) rest = cond b rest (refused (number r))
◌>>◌ (r if b) rest = cond b (refused (number r)) rest

-- and `x ← ..`: a refusal is the answer, and else x is what was answered
abbrev pub ◌>>=◌ : {A B : Type 0} → Answer A → (A → Answer B) → Answer B
◌>>=◌ (refused n) rest = refused n
◌>>=◌ (ok a) rest = rest a

-- the number of a refusal, or 0
abbrev pub number_in : {A : Type 0} → Answer A → ℕ
number_in (ok a) = 0
number_in (refused n) = n

-- ---- what is left

-- what a call answers, and the memory that was lent as the call leaves it
pub record After (A M : Type 0) : Type 0 where
  pub answer : A
  pub lent : M

-- of these two
abbrev pub after : {A M : Type 0} → A → M → After A M
after a m = record { answer = a; lent = m }

-- A REFUSAL KEEPS: its number alone, and the memory as it came
abbrev pub kept : {A M : Type 0} → ℕ → M → After (Answer A) M
kept n m = after (refused n) m

-- the same by the refusal's name
abbrev pub refusing : {A M : Type 0} → Refusal → M → After (Answer A) M
refusing r m = kept (number r) m

-- an answer with the memory as it is to be left; or a refusal, and the memory m as it came
unfoldable pub leaving : {A M : Type 0} → M → Answer (A × M) → After (Answer A) M
leaving m (refused n) = kept n m
leaving m (ok x) = after (ok x.0) x.1

-- an answer with the memory that holds it, where it has room
abbrev pub placed : {A M : Type 0} → Bool → A → M → Answer (A × M)
placed room a m = do
  NoRoom unless room
  ok (a, m)
