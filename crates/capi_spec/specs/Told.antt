-- What the calls answer and leave, as C gets it: C's answer, and the lent memory. In a refused answer everything but the number is 0.
-- Assumes nothing.
use Rattle.std.specs.Prelude.{ℕ, Bool, true, false, List, Option, Some, None, Result, Ok, Err}
use Rattle.records_spec.specs.Refusals.{number}
use Rattle.records_spec.specs.Outcomes.{Answer, ok, refused, After, after}
use Rattle.records_spec.specs.Flags.{type_byte, no_head, zeros, Lent, lending}
use Rattle.records_spec.specs.Answers.{FlagsAfter}
use Rattle.records_spec.specs.declared.head.Head.{Head}
use Rattle.records_spec.specs.declared.refusal.Refusal.{Refusal}
use Rattle.flags_spec.specs.declared.owners.Choice.{Choice}
use Rattle.flags_spec.specs.declared.owners.Choice.TheVariants.{Ours, Theirs, Neither}
use Rattle.rows_spec.specs.declared.removed.Removed.{Removed}
use Rattle.rows_spec.specs.declared.removed.Removed.TheVariants.{None as NoRemoval, Basic, Sectioned}
use Rattle.splitting_spec.specs.Calls.{Told}
use Rattle.repair_spec.specs.declared.repairing.Sizes.{Sizes}
use Rattle.capi_spec.specs.declared.types.CHead.{CHead}
use Rattle.capi_spec.specs.declared.types.CFlags.{CFlags}
use Rattle.capi_spec.specs.declared.types.CCount.{CCount}
use Rattle.capi_spec.specs.declared.types.CRemoval.{CRemoval}
use Rattle.capi_spec.specs.declared.types.CSum.{CSum}
use Rattle.capi_spec.specs.declared.types.CValueSplit.{CValueSplit}
use Rattle.capi_spec.specs.declared.types.COwner.{COwner}
use Rattle.capi_spec.specs.declared.types.CMaybeOwner.{CMaybeOwner}
use Rattle.capi_spec.specs.declared.types.CRepaired.{CRepaired}

-- what a call leaves, with its answer told as C gets it
abbrev pub told_as : {A B M : Type 0} → (A → B) → After A M → After B M
told_as f a = after (f a.answer) a.lent

-- yes is 1 and no is 0
abbrev pub truth : Bool → ℕ
truth true = 1
truth false = 0

-- ---- calls that answer flags

-- a head, its kind a byte
abbrev pub head_told : Head → CHead
head_told h = record { kind = type_byte h.kind; base = h.base; owner = h.owner; records = h.records }

-- a refusal's number or 0, whether there are flags, and their head
abbrev pub flags_answer : Answer Bool → Head → CFlags
flags_answer (ok b) h = record { refusal = 0; present = truth b; head = head_told h }
flags_answer (refused n) h = record { refusal = n; present = 0; head = head_told h }

-- the same with the lent tables
abbrev pub flags_told : FlagsAfter → After CFlags Lent
flags_told a = after (flags_answer a.answer a.lent.head) (lending a.lent.epochs a.lent.counts)

-- a head, or a refusal's number
abbrev pub head_answer : Answer Head → CFlags
head_answer (ok h) = record { refusal = 0; present = 1; head = head_told h }
head_answer (refused r) = record { refusal = r; present = 0; head = head_told no_head }

-- ---- calls that answer a number

-- a number, or a refusal's
abbrev pub count_told : Answer ℕ → CCount
count_told (ok n) = record { refusal = 0; count = n }
count_told (refused r) = record { refusal = r; count = 0 }

-- 1 for yes and 0 for no, or a refusal's number
abbrev pub truth_told : Answer Bool → CCount
truth_told (ok b) = record { refusal = 0; count = truth b }
truth_told (refused r) = record { refusal = r; count = 0 }

-- ---- the owner rule

-- 0 none, 1 ours, 2 theirs, or a refusal's number
abbrev pub owner_told : Result Choice Refusal → COwner
owner_told (Ok Neither) = record { refusal = 0; which = 0 }
owner_told (Ok Ours) = record { refusal = 0; which = 1 }
owner_told (Ok Theirs) = record { refusal = 0; which = 2 }
owner_told (Err r) = record { refusal = number r; which = 0 }

-- an owner or none, or a refusal's number
abbrev pub owner_id_told : Answer (Option (List ℕ)) → CMaybeOwner
owner_id_told (ok None) = record { refusal = 0; present = 0; id = record { bytes = zeros } }
owner_id_told (ok (Some o)) = record { refusal = 0; present = 1; id = record { bytes = o } }
owner_id_told (refused r) = record { refusal = r; present = 0; id = record { bytes = zeros } }

-- ---- removals

-- 0 none, 1 basic, 2 sectioned; what a kind does not have is 0
abbrev pub removal_told : Removed → CRemoval
removal_told NoRemoval = record { kind = 0; bytes = 0; rows = 0 }
removal_told (Basic n) = record { kind = 1; bytes = n; rows = 0 }
removal_told (Sectioned n) = record { kind = 2; bytes = 0; rows = n }

-- the removal's state, or a refusal's number
abbrev pub sum_answer : Answer Removed → CSum
sum_answer (ok x) = record { refusal = 0; removal = removal_told x }
sum_answer (refused r) = record { refusal = r; removal = removal_told NoRemoval }

-- the removal's state and the number of records visited, or a refusal's number
abbrev pub split_answer : Answer Told → CValueSplit
split_answer (ok u) = record { refusal = 0; removal = removal_told u.removal; visited = u.visited }
split_answer (refused r) = record { refusal = r; removal = removal_told NoRemoval; visited = 0 }

-- ---- repairs

-- how many bytes and lines, or a refusal's number
abbrev pub repair_answer : Answer Sizes → CRepaired
repair_answer (ok s) = record { refusal = 0; bytes = s.bytes; lines = s.lines }
repair_answer (refused r) = record { refusal = r; bytes = 0; lines = 0 }
