-- The refusals' numbers: document 01, and 14 of document 02 (vii). No other place has a number of its own.
-- Assumes nothing.
use Rattle.std.specs.Prelude.{ℕ, cond, List, [], ◌∷◌, eqb}
use Rattle.records_spec.specs.declared.refusal.Refusal.{Refusal}
use Rattle.records_spec.specs.declared.refusal.Refusal.TheVariants.{UnknownType, WrongSize, NonCanonical, DifferentBaseEpoch, DifferentOwners}
use Rattle.records_spec.specs.declared.refusal.Refusal.TheVariants.{Overflow, NoStorageAtEpoch, TotalTooLarge, NoRoom, BadTable, IndexMismatch}

-- a refusal's number
abbrev pub number : Refusal → ℕ
number UnknownType = 1
number WrongSize = 2
number NonCanonical = 3
number DifferentBaseEpoch = 4
number DifferentOwners = 5
number Overflow = 6
number NoStorageAtEpoch = 7
-- 8, RemovalTooLarge, is no longer given, and no other refusal gets its number
number TotalTooLarge = 9
number NoRoom = 10
number BadTable = 11
-- 12 and 13 are not given yet
number IndexMismatch = 14

-- all refusals
abbrev pub all_refusals : List Refusal
all_refusals =
    UnknownType ∷ WrongSize ∷ NonCanonical ∷ DifferentBaseEpoch ∷ DifferentOwners ∷ Overflow ∷ NoStorageAtEpoch ∷ TotalTooLarge ∷ NoRoom ∷ BadTable
    ∷ IndexMismatch ∷ []

-- the one of some refusals that a number names; IndexMismatch where it names none
abbrev pub refusal_among : List Refusal → ℕ → Refusal
refusal_among [] n = IndexMismatch
refusal_among (r ∷ rs) n = cond (eqb n (number r)) r (refusal_among rs n)

-- the refusal that a number names
abbrev pub refusal_of : ℕ → Refusal
refusal_of = refusal_among all_refusals
