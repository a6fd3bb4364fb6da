-- Merging flags with what was removed: document 01, "Merging".
-- Assumes nothing.
use Rattle.std.specs.Prelude.{ℕ, ◌-◌, Bool, true, false, cond, ◌&&◌, List, [], ◌∷◌, ◌++◌, ltb, leb, eqb}
use Rattle.records_spec.specs.Tables.{At, ◌⦂◌, has, held}
use Rattle.records_spec.specs.Flags.{Flags, flags, same, id_of}
use Rattle.records_spec.specs.Outcomes.{Answer, ok, ◌unless◌, ◌if◌, ◌>>◌, ◌>>=◌}
use Rattle.records_spec.specs.declared.refusal.Refusal.TheVariants.{DifferentBaseEpoch, DifferentOwners, Overflow, NoStorageAtEpoch}
use Rattle.flags_spec.specs.Owners.{combined_owner}
use Rattle.flags_spec.specs.Merging.{union_under}
use Rattle.flags_spec.specs.declared.owners.MergingOwnersStrategy.{MergingOwnersStrategy}
use Rattle.rows_spec.specs.Rows.{Row, parts_of}
use Rattle.rows_spec.specs.Removals.{Removal, nothing, basic, sectioned}
use Rattle.splitting_spec.specs.Sections.{minimum}

-- ---- whose sections

-- all rows stand under one identifier
unfoldable pub all_under : List ℕ → List Row → Bool
all_under i [] = true
all_under i (r ∷ rs) = same r.identifier i && all_under i rs

-- the rows have one identifier, and it is this; no rows have none
abbrev pub only_under_lem : List ℕ → List Row → Bool
only_under_lem i [] = false
only_under_lem i (r ∷ rs) = all_under i (r ∷ rs)

-- ---- sections taken from records

-- a section is taken from a record that stands at its epoch and holds as much
abbrev pub section_fine : At → List At → Answer (Unit {0})
section_fine s rs = do
  NoStorageAtEpoch unless has s.epoch rs
  Overflow unless leb s.bytes (held s.epoch rs)
  ok tt

-- the base is skipped
abbrev pub fine : ℕ → List At → At → Answer (Unit {0})
fine base rs s = cond (eqb s.epoch base) (ok tt) (section_fine s rs)

-- all sections in ascending epoch order, or the refusal of the first at fault
unfoldable pub all_fine : ℕ → List At → List At → Answer (Unit {0})
all_fine base rs [] = ok tt
all_fine base rs (s ∷ ss) = do
  done ← fine base rs s
  all_fine base rs ss

-- a record with so much left; 3 or less drops it
abbrev pub remainder : ℕ → ℕ → List At
remainder e n = cond (leb n minimum) [] (e ⦂ n ∷ [])

-- a record after its section, if it has one, also one of 0
abbrev pub lessened : List At → At → List At
lessened ss r = cond (has r.epoch ss) (remainder r.epoch (r.bytes - held r.epoch ss)) (r ∷ [])

-- the records after the sections
unfoldable pub minus : List At → List At → List At
minus [] ss = []
minus (r ∷ rs) ss = lessened ss r ++ minus rs ss

-- ---- the removing merge

-- flags less sections, or the refusal of the first at fault
abbrev pub less_sections : List At → Flags → Answer Flags
less_sections ss f = do
  done ← all_fine f.base f.records ss
  ok (flags f.base f.owner (minus f.records ss))

-- flags less a removal, of which only sections are read, and these are this identifier's alone
abbrev pub taken : List ℕ → Removal → Flags → Answer Flags
taken i nothing f = ok f
taken i (basic n) f = ok f
taken i (sectioned rows) f = do
  DifferentOwners unless only_under_lem i rows
  less_sections (parts_of rows) f

-- incoming base higher: ours of kind 0 or 2 comes back unchanged, even where owners differ; else the owner rule, the union, the removal,
-- whose sections are our owner's, or 32 zero bytes' if unowned
abbrev pub removed_above : MergingOwnersStrategy → Removal → Flags → Flags → List At → Answer Flags
removed_above s removal ours theirs [] = ok ours
removed_above s removal ours theirs (r ∷ rs) = do
  owner ← combined_owner s ours.owner theirs.owner
  taken (id_of ours.owner) removal (union_under ours theirs owner)

-- equal bases: the owner rule, then the union; the removal is not read
abbrev pub removed_beside : MergingOwnersStrategy → Flags → Flags → Answer Flags
removed_beside s ours theirs = do
  owner ← combined_owner s ours.owner theirs.owner
  ok (union_under ours theirs owner)

-- the removing merge of proper flags
unfoldable pub removed : MergingOwnersStrategy → Removal → Flags → Flags → Answer Flags
removed s removal ours theirs = do
  DifferentBaseEpoch if ltb theirs.base ours.base
  cond (eqb ours.base theirs.base) (removed_beside s ours theirs) (removed_above s removal ours theirs ours.records)
