-- The calls that C makes, each the definition of its layer on what C gives, or a refusal where a byte names nothing.
-- Assumes nothing.
use Rattle.std.specs.Prelude.{ℕ, ◌≡◌, Bool, true, cond, ◌&&◌, List, Option, Result, Err}
use Rattle.records_spec.specs.Outcomes.{Answer, ok, ◌unless◌, ◌>>◌, After, after, refusing}
use Rattle.records_spec.specs.Flags.{type_byte, owner_of, with_owner, Lent, blank}
use Rattle.records_spec.specs.Answers.{FlagsAfter, BytesAfter}
use Rattle.records_spec.specs.declared.head.Head.{Head}
use Rattle.records_spec.specs.declared.refusal.Refusal.{Refusal}
use Rattle.records_spec.specs.declared.refusal.Refusal.TheVariants.{BadTable}
use Rattle.codec_spec.specs.Calls.{serialized, size_of}
use Rattle.flags_spec.specs.Calls.{owner_choice, combined_added, optional_combined_added}
use Rattle.flags_spec.specs.declared.owners.Choice.{Choice}
use Rattle.rows_spec.specs.Rows.{Tables}
use Rattle.rows_spec.specs.Calls.{has_removal, total_removed, RemovalAfter}
use Rattle.sums_spec.specs.Calls.{summed}
use Rattle.splitting_spec.specs.Calls.{SplitAfter, split_key, split_value}
use Rattle.totals_spec.specs.Calls.{RowsAfter, given, proper_given, replacing}
use Rattle.totals_index_spec.specs.Calls.{TableAndWork, StructsAfter, beside, replacing_structs}
use Rattle.totals_index_spec.specs.declared.structs.Total.{Total}
use Rattle.removal_spec.specs.Calls.{combined_removed, optional_combined_removed}
use Rattle.capi_spec.specs.Given.{is_true, is_kind, head_given, CHeld, are_kind, held_given, is_strategy, strategy_given, can_merge, can_replace}
use Rattle.capi_spec.specs.Given.{CHeldRemoval, are_removal, removal_given}
use Rattle.capi_spec.specs.Told.{told_as, count_told}
use Rattle.capi_spec.specs.declared.types.CHead.{CHead}
use Rattle.capi_spec.specs.declared.types.CCount.{CCount}
use Rattle.capi_spec.specs.declared.types.CId.{CId}

-- what a call of a layer leaves, where the bytes that C gives name something; else the memory m as it came
abbrev pub where_named : {A M : Type 0} → Bool → M → After (Answer A) M → After (Answer A) M
where_named named m left = cond named left (refusing BadTable m)

-- ---- writing and owners

-- `petasunok_serialize`
abbrev pub serialized_c : CHeld → List ℕ → BytesAfter
serialized_c f out = where_named (are_kind f) out (serialized (held_given f) out)

-- `petasunok_serialized_size`
abbrev pub size_c : CHeld → Answer ℕ
size_c f = do
  BadTable unless are_kind f
  size_of (held_given f)

-- `petasunok_combine_owner_id`
abbrev pub owner_c : ℕ → List ℕ → List ℕ → Result Choice Refusal
owner_c s ours theirs = cond (is_strategy s) (owner_choice (strategy_given s) ours theirs) (Err BadTable)

-- ---- merging

-- `petasunok_combine_added_bytes`
abbrev pub combined_added_c : CHeld → CHeld → ℕ → ℕ → Lent → FlagsAfter
combined_added_c ours theirs amount s out =
    where_named (can_merge true ours.head theirs.head s) (blank out)
    (combined_added (held_given ours) (held_given theirs) amount (strategy_given s) out)

-- `petasunok_optional_combine_added_bytes`
abbrev pub optional_combined_added_c : ℕ → CHeld → CHeld → ℕ → ℕ → Lent → FlagsAfter
optional_combined_added_c present ours theirs amount s out =
    where_named (can_merge (is_true present) ours.head theirs.head s) (blank out)
    (optional_combined_added (is_true present) (held_given ours) (held_given theirs) amount (strategy_given s) out)

-- `petasunok_combine_removed_bytes`
abbrev pub combined_removed_c : CHeld → CHeld → CHeldRemoval → ℕ → Lent → FlagsAfter
combined_removed_c ours theirs removal s out =
    where_named (can_merge true ours.head theirs.head s && are_removal removal) (blank out)
    (combined_removed (held_given ours) (held_given theirs) (removal_given removal) (strategy_given s) out)

-- `petasunok_optional_combine_removed_bytes`
abbrev pub optional_combined_removed_c : ℕ → CHeld → CHeld → CHeldRemoval → ℕ → Lent → FlagsAfter
optional_combined_removed_c present ours theirs removal s out =
    where_named (can_merge (is_true present) ours.head theirs.head s && are_removal removal) (blank out)
    (optional_combined_removed (is_true present) (held_given ours) (held_given theirs) (removal_given removal) (strategy_given s) out)

-- ---- removals

-- `petasunok_split_key_removed_bytes`
abbrev pub split_key_c : CHeld → ℕ → Tables → RemovalAfter
split_key_c f key t = where_named (are_kind f) t (split_key (held_given f) key t)

-- `petasunok_split_value_removed_bytes`
abbrev pub split_value_c : CHeld → ℕ → Tables → SplitAfter
split_value_c f value t = where_named (are_kind f) t (split_value (held_given f) value t)

-- `petasunok_add_assign`
abbrev pub summed_c : ℕ → CHeldRemoval → CHeldRemoval → RemovalAfter
summed_c version lhs rhs = where_named (are_removal lhs && are_removal rhs) lhs.rows (summed version (removal_given lhs) (removal_given rhs))

-- `petasunok_has_removal`
abbrev pub has_removal_c : CHeldRemoval → Answer Bool
has_removal_c x = do
  BadTable unless are_removal x
  has_removal (removal_given x)

-- `petasunok_total_removed_bytes`
abbrev pub total_removed_c : CHeldRemoval → Answer ℕ
total_removed_c x = do
  BadTable unless are_removal x
  total_removed (removal_given x)

-- ---- changes of totals

-- whether the flags of a change are absent or proper
abbrev pub proper_both : ℕ → CHeld → ℕ → CHeld → Bool
proper_both op old np new = proper_given (is_true op) (held_given old) && proper_given (is_true np) (held_given new)

-- `petasunok_totals_replace`
abbrev pub totals_replaced_c : ℕ → Tables → ℕ → CHeld → ℕ → CHeld → RowsAfter
totals_replaced_c n t op old np new =
    where_named (can_replace op old.head np new.head) t
    (replacing n t (proper_both op old np new) (given (is_true op) (held_given old)) (given (is_true np) (held_given new)))

-- `petasunok_totals_replace_structs`
abbrev pub structs_replaced_c : ℕ → List Total → Tables → ℕ → CHeld → ℕ → CHeld → StructsAfter
structs_replaced_c n ts work op old np new =
    where_named (can_replace op old.head np new.head) (beside ts work)
    (replacing_structs n ts work (proper_both op old np new) (given (is_true op) (held_given old)) (given (is_true np) (held_given new)))

-- what the contract of that says of C's answer and of what is left
abbrev pub SaysStructsC : ℕ → List Total → Tables → ℕ → CHeld → ℕ → CHeld → CCount → TableAndWork → Type 0
SaysStructsC n ts work op old np new r m = after r m ≡ told_as count_told (structs_replaced_c n ts work op old np new)

-- ---- the head alone

-- `petasunok_set_owner_id`
abbrev pub with_owner_c : CHead → CId → Answer Head
with_owner_c h i = do
  BadTable unless is_kind h.kind
  ok (with_owner (head_given h) i.bytes)

-- `petasunok_base_epoch`
abbrev pub base_c : CHead → Answer ℕ
base_c h = do
  BadTable unless is_kind h.kind
  ok (head_given h).base

-- `petasunok_owner_id`
abbrev pub owner_id_c : CHead → Answer (Option (List ℕ))
owner_id_c h = do
  BadTable unless is_kind h.kind
  ok (owner_of (head_given h))

-- `petasunok_type_byte`
abbrev pub type_byte_c : CHead → Answer ℕ
type_byte_c h = do
  BadTable unless is_kind h.kind
  ok (type_byte (head_given h).kind)
