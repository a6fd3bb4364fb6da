-- Parts of lent bytes: which bytes they hold, and where these stand. So a statement can say of which encoding an answer is a part.
-- Assumes nothing.
use Rattle.std.specs.Prelude.{ℕ, ◌+◌, List, [], take, drop, Result, Ok, Err}
use Rattle.std.specs.Borrow.{Bor}
use Rattle.records_spec.specs.Flags.{owner_length}
use Rattle.records_spec.specs.declared.refusal.Refusal.{Refusal}
use Rattle.codec_spec.specs.Bytes.{behind_kind}
use Rattle.flags_spec.specs.declared.owners.Choice.{Choice}
use Rattle.flags_spec.specs.declared.owners.Choice.TheVariants.{Ours, Theirs, Neither}

-- a part of memory: its block, the offset there, and the bytes
pub record Part : Type 0 where
  pub block : ℕ
  pub offset : ℕ
  pub bytes : List ℕ

-- the part that a reference lends
abbrev pub lent : Bor (List ℕ) → Part
lent r = record { block = r.ref_ptr.0; offset = r.ref_ptr.1; bytes = r.now }

-- the owner of an encoding: the bytes behind its kind
abbrev pub owner_part : Part → Part
owner_part p = record { block = p.block; offset = behind_kind + p.offset; bytes = take owner_length (drop behind_kind p.bytes) }

-- no bytes, at the start of an encoding
abbrev pub empty_part : Part → Part
empty_part p = record { block = p.block; offset = p.offset; bytes = [] }

-- the chosen owner as a part of the encoding that holds it; else an empty part
abbrev pub handed : Result Choice Refusal → Part → Part → Part
handed (Ok Ours) ours theirs = owner_part ours
handed (Ok Theirs) ours theirs = owner_part theirs
handed (Ok Neither) ours theirs = empty_part ours
handed (Err r) ours theirs = empty_part ours
