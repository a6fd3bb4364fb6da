-- What C gives, as the calls take it. A byte stands for each of a kind, a removal's kind, a strategy and a truth.
-- Assumes nothing.
use Rattle.std.specs.Prelude.{ℕ, Bool, true, false, cond, ◌&&◌, List, leb, ltb, eqb, is_some, Option, Some, None}
use Rattle.records_spec.specs.Flags.{kind_of_byte, Held, holding}
use Rattle.records_spec.specs.declared.head.Kind.{Kind}
use Rattle.records_spec.specs.declared.head.Kind.TheVariants.{SingleEpoch}
use Rattle.records_spec.specs.declared.head.Head.{Head}
use Rattle.codec_spec.specs.declared.sizes.Changes.{Changes}
use Rattle.flags_spec.specs.declared.owners.MergingOwnersStrategy.{MergingOwnersStrategy}
use Rattle.flags_spec.specs.declared.owners.MergingOwnersStrategy.TheVariants.{RaiseIssue, UseOurs, UseTheirs}
use Rattle.rows_spec.specs.Rows.{Tables}
use Rattle.rows_spec.specs.Removals.{HeldRemoval, holding_rows}
use Rattle.rows_spec.specs.declared.removed.Removed.{Removed}
use Rattle.rows_spec.specs.declared.removed.Removed.TheVariants.{None as NoRemoval, Basic, Sectioned}
use Rattle.capi_spec.specs.declared.types.CHead.{CHead}
use Rattle.capi_spec.specs.declared.types.CRemoval.{CRemoval}

-- 0 is no, and any other byte is yes
abbrev pub is_true : ℕ → Bool
is_true b = ltb 0 b

-- ---- flags

-- the kind that was found; where there is none, the call is refused before this one is used
abbrev pub kind_found : Option Kind → Kind
kind_found (Some k) = k
kind_found None = SingleEpoch

-- whether a byte is that of a kind, 0 to 3
abbrev pub is_kind : ℕ → Bool
is_kind b = is_some (kind_of_byte b)

-- the head that C's head stands for
abbrev pub head_given : CHead → Head
head_given h = record { kind = kind_found (kind_of_byte h.kind); base = h.base; owner = h.owner; records = h.records }

-- flags as C gives them: a head, and the two tables beside it
pub record CHeld : Type 0 where
  pub head : CHead
  pub epochs : List ℕ
  pub counts : List ℕ

-- of these three
abbrev pub holding_c : CHead → List ℕ → List ℕ → CHeld
holding_c h es cs = record { head = h; epochs = es; counts = cs }

-- as a head and two slices were when the call began
abbrev pub flags_were_c : CHead → List ℕ → List ℕ → CHeld
flags_were_c h es cs = holding_c h es cs

-- whether their byte is that of a kind
abbrev pub are_kind : CHeld → Bool
are_kind f = is_kind f.head.kind

-- the flags that they stand for
abbrev pub held_given : CHeld → Held
held_given f = holding (head_given f.head) f.epochs f.counts

-- whether flags are absent or their byte is that of a kind; absent ones are not looked at
abbrev pub is_kind_if : Bool → CHead → Bool
is_kind_if present h = cond present (is_kind h.kind) true

-- the changes, if given
abbrev pub changes_given : ℕ → ℕ → ℕ → Option Changes
changes_given given count size = cond (is_true given) (Some (record { count = count; size = size })) None

-- ---- merging

-- whether a byte is that of a strategy
abbrev pub is_strategy : ℕ → Bool
is_strategy b = leb b 2

-- 0 raise, 1 ours, 2 theirs
abbrev pub strategy_given : ℕ → MergingOwnersStrategy
strategy_given b = cond (eqb b 0) RaiseIssue (cond (eqb b 1) UseOurs UseTheirs)

-- whether the bytes that a merge is given are those of kinds and of a strategy; absent ours is not looked at
abbrev pub can_merge : Bool → CHead → CHead → ℕ → Bool
can_merge present ours theirs strategy = cond present (is_kind ours.kind) true && (is_kind theirs.kind && is_strategy strategy)

-- ---- totals

-- whether the bytes of the old and the new flags are those of kinds; absent flags are not looked at
abbrev pub can_replace : ℕ → CHead → ℕ → CHead → Bool
can_replace op old np new = is_kind_if (is_true op) old && is_kind_if (is_true np) new

-- ---- removals

-- whether a byte is that of a removal
abbrev pub is_removal : ℕ → Bool
is_removal b = leb b 2

-- 0 none, 1 basic, 2 sectioned
abbrev pub removed_given : CRemoval → Removed
removed_given r = cond (eqb r.kind 0) NoRemoval (cond (eqb r.kind 1) (Basic r.bytes) (Sectioned r.rows))

-- a removal as C gives it: its state, and the tables that hold its rows
pub record CHeldRemoval : Type 0 where
  pub removal : CRemoval
  pub rows : Tables

-- of these two
abbrev pub holding_rows_c : CRemoval → Tables → CHeldRemoval
holding_rows_c x t = record { removal = x; rows = t }

-- whether its byte is that of a removal
abbrev pub are_removal : CHeldRemoval → Bool
are_removal x = is_removal x.removal.kind

-- the removal that it stands for
abbrev pub removal_given : CHeldRemoval → HeldRemoval
removal_given x = holding_rows (removed_given x.removal) x.rows
