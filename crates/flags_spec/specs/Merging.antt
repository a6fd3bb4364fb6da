-- Merging flags with what was added: document 01, "Merging".
-- Assumes nothing.
use Rattle.std.specs.Prelude.{ℕ, ◌+◌, cond, List, ltb, leb, eqb}
use Rattle.std.specs.Prelude.{Option}
use Rattle.fields_spec.specs.Varint.{largest}
use Rattle.records_spec.specs.Tables.{◌⦂◌, held, put, union}
use Rattle.records_spec.specs.Flags.{Flags, flags}
use Rattle.records_spec.specs.Outcomes.{Answer, ok, ◌unless◌, ◌if◌, ◌>>◌, ◌>>=◌}
use Rattle.records_spec.specs.declared.refusal.Refusal.TheVariants.{DifferentBaseEpoch, Overflow}
use Rattle.flags_spec.specs.Owners.{combined_owner}
use Rattle.flags_spec.specs.declared.owners.MergingOwnersStrategy.{MergingOwnersStrategy}

-- the union, above our base and under an owner
abbrev pub union_under : Flags → Flags → Option (List ℕ) → Flags
union_under ours theirs owner = flags ours.base owner (union ours.records theirs.records)

-- an amount is added to the record at an epoch, or a record is made there
abbrev pub raised : ℕ → ℕ → Flags → Answer Flags
raised e amount f = do
  Overflow unless leb (held e f.records + amount) largest
  ok (flags f.base f.owner (put (e ⦂ (held e f.records + amount)) f.records))

-- equal bases: the union as it is; incoming base higher: the amount is added there
abbrev pub raised_above : ℕ → ℕ → ℕ → Flags → Answer Flags
raised_above ours theirs amount f = cond (eqb ours theirs) (ok f) (raised theirs amount f)

-- the adding merge of proper flags
unfoldable pub added : MergingOwnersStrategy → ℕ → Flags → Flags → Answer Flags
added s amount ours theirs = do
  DifferentBaseEpoch if ltb theirs.base ours.base
  owner ← combined_owner s ours.owner theirs.owner
  raised_above ours.base theirs.base amount (union_under ours theirs owner)
