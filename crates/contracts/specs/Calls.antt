-- THE TABLE OF PUBLIC CALLS, with their contracts as the crates state them. Beside these stands `contract_c` for C.
-- Assumes nothing.
use Rattle.std.specs.Prelude.{ℕ, ◌&&◌, Bool, List, Option, Result}
use Rattle.records_spec.specs.Flags
use Rattle.records_spec.specs.Flags.{owner_of, head_for, with_owner, lending, holding}
use Rattle.records_spec.specs.Outcomes.{answered}
use Rattle.records_spec.specs.Answers.{writing}
use Rattle.records_spec.specs.declared.head.Head.{Head}
use Rattle.records_spec.specs.declared.refusal.Refusal.{Refusal}
use Rattle.records_spec.specs.declared.head.Kind.TheVariants.{SingleEpoch, MultiEpoch, SingleEpochOwned, MultiEpochOwned}
use Rattle.codec_spec.specs.Reading.{read_as, read}
use Rattle.codec_spec.specs.Sizes.{approximate}
use Rattle.codec_spec.specs.Calls.{judgement, deserialized_as, deserialized, serialized, size_of}
use Rattle.codec_spec.specs.declared.judging.Fault.{Fault}
use Rattle.flags_spec.specs.Owners.{choice, combined_owner}
use Rattle.flags_spec.specs.Parts.{Part, lent}
use Rattle.flags_spec.specs.Calls.{owner_choice, owner_handed, combined_added, optional_combined_added}
use Rattle.flags_spec.specs.declared.owners.Choice.{Choice}
use Rattle.listing_spec.specs.Listed.{listed}
use Rattle.rows_spec.specs.Rows.{tables}
use Rattle.rows_spec.specs.Removals.{holding_rows}
use Rattle.rows_spec.specs.Calls as Removed
use Rattle.rows_spec.specs.Calls.{total_removed, told_removal}
use Rattle.sums_spec.specs.Calls.{summed}
use Rattle.splitting_spec.specs.Calls.{told_split, split_key, split_value}
use Rattle.removal_spec.specs.Calls.{combined_removed, optional_combined_removed}
use Rattle.repair_spec.specs.Calls.{repair_lent, repaired_into}
use Rattle.repair_spec.specs.declared.repairing.Sizes.{Sizes}
use Rattle.totals_spec.specs.Calls.{given, proper_given, replacing}
use Rattle.totals_index_spec.specs.Calls.{beside, replacing_structs}
use Rattle.contracts.specs.Forms.{valued, answering, answering_with, flagged}
use Rattle.contracts.specs.Contract.{Contract, contract_of, answering_alone}
use Rattle.codec.proofs.deserialize.Kinds as deserialize_kinds
use Rattle.codec.proofs.deserialize.Reads as deserialize_reads
use Rattle.codec.proofs.deserialize_single_epoch.Kinds as deserialize_single_epoch_kinds
use Rattle.codec.proofs.deserialize_single_epoch.Reads as deserialize_single_epoch_reads
use Rattle.codec.proofs.deserialize_multi_epoch.Kinds as deserialize_multi_epoch_kinds
use Rattle.codec.proofs.deserialize_multi_epoch.Reads as deserialize_multi_epoch_reads
use Rattle.codec.proofs.deserialize_single_epoch_owned.Kinds as deserialize_single_epoch_owned_kinds
use Rattle.codec.proofs.deserialize_single_epoch_owned.Reads as deserialize_single_epoch_owned_reads
use Rattle.codec.proofs.deserialize_multi_epoch_owned.Kinds as deserialize_multi_epoch_owned_kinds
use Rattle.codec.proofs.deserialize_multi_epoch_owned.Reads as deserialize_multi_epoch_owned_reads
use Rattle.codec.proofs.judge.Kinds as judge_kinds
use Rattle.codec.proofs.judge.Reads as judge_reads
use Rattle.codec.proofs.judge_as.Kinds as judge_as_kinds
use Rattle.codec.proofs.judge_as.Reads as judge_as_reads
use Rattle.listing.proofs.list.Kinds as list_kinds
use Rattle.listing.proofs.list.Reads as list_reads
use Rattle.codec.proofs.serialize.Kinds as serialize_kinds
use Rattle.codec.proofs.serialize.Reads as serialize_reads
use Rattle.codec.proofs.serialized_size.Kinds as serialized_size_kinds
use Rattle.codec.proofs.serialized_size.Reads as serialized_size_reads
use Rattle.codec.proofs.approximate_size.Kinds as approximate_size_kinds
use Rattle.codec.proofs.approximate_size.Reads as approximate_size_reads
use Rattle.records.proofs.new_single_epoch.Kinds as new_single_epoch_kinds
use Rattle.records.proofs.new_single_epoch.Reads as new_single_epoch_reads
use Rattle.records.proofs.set_owner_id.Kinds as set_owner_id_kinds
use Rattle.records.proofs.set_owner_id.Reads as set_owner_id_reads
use Rattle.records.proofs.base_epoch.Kinds as base_epoch_kinds
use Rattle.records.proofs.base_epoch.Reads as base_epoch_reads
use Rattle.records.proofs.owner_id.Kinds as owner_id_kinds
use Rattle.records.proofs.owner_id.Reads as owner_id_reads
use Rattle.records.proofs.type_byte.Kinds as type_byte_kinds
use Rattle.records.proofs.type_byte.Reads as type_byte_reads
use Rattle.flags.proofs.choose_owner.Kinds as choose_owner_kinds
use Rattle.flags.proofs.choose_owner.Reads as choose_owner_reads
use Rattle.flags.proofs.combine_owners.Kinds as combine_owners_kinds
use Rattle.flags.proofs.combine_owners.Reads as combine_owners_reads
use Rattle.flags.proofs.combine_owner_id.Kinds as combine_owner_id_kinds
use Rattle.flags.proofs.combine_owner_id.Reads as combine_owner_id_reads
use Rattle.flags.proofs.choose_owner_id.Kinds as choose_owner_id_kinds
use Rattle.flags.proofs.choose_owner_id.Reads as choose_owner_id_reads
use Rattle.flags.proofs.combine_added_bytes.Kinds as combine_added_bytes_kinds
use Rattle.flags.proofs.combine_added_bytes.Reads as combine_added_bytes_reads
use Rattle.flags.proofs.optional_combine_added_bytes.Kinds as optional_combine_added_bytes_kinds
use Rattle.flags.proofs.optional_combine_added_bytes.Reads as optional_combine_added_bytes_reads
use Rattle.removal.proofs.combine_removed_bytes.Kinds as combine_removed_bytes_kinds
use Rattle.removal.proofs.combine_removed_bytes.Reads as combine_removed_bytes_reads
use Rattle.removal.proofs.optional_combine_removed_bytes.Kinds as optional_combine_removed_bytes_kinds
use Rattle.removal.proofs.optional_combine_removed_bytes.Reads as optional_combine_removed_bytes_reads
use Rattle.rows.proofs.has_removal.Kinds as has_removal_kinds
use Rattle.rows.proofs.has_removal.Reads as has_removal_reads
use Rattle.rows.proofs.total_removed_bytes.Kinds as total_removed_bytes_kinds
use Rattle.rows.proofs.total_removed_bytes.Reads as total_removed_bytes_reads
use Rattle.sums.proofs.add_assign.Kinds as add_assign_kinds
use Rattle.sums.proofs.add_assign.Reads as add_assign_reads
use Rattle.splitting.proofs.split_key_removed_bytes.Kinds as split_key_removed_bytes_kinds
use Rattle.splitting.proofs.split_key_removed_bytes.Reads as split_key_removed_bytes_reads
use Rattle.splitting.proofs.split_value_removed_bytes.Kinds as split_value_removed_bytes_kinds
use Rattle.splitting.proofs.split_value_removed_bytes.Reads as split_value_removed_bytes_reads
use Rattle.repair.proofs.repair.Kinds as repair_kinds
use Rattle.repair.proofs.repair.Reads as repair_reads
use Rattle.totals.proofs.replace.Kinds as totals_replace_kinds
use Rattle.totals.proofs.replace.Reads as totals_replace_reads
use Rattle.totals_index.proofs.replace_structs.Kinds as totals_replace_structs_kinds
use Rattle.totals_index.proofs.replace_structs.Reads as totals_replace_structs_reads

-- the calls by name
pub data PublicCall : Type 0 where
  -- reading and judging
  deserialize deserialize_single_epoch deserialize_multi_epoch deserialize_single_epoch_owned : PublicCall
  deserialize_multi_epoch_owned judge judge_as list : PublicCall
  -- writing and sizes
  serialize serialized_size approximate_size : PublicCall
  -- the head alone
  new_single_epoch set_owner_id base_epoch owner_id type_byte : PublicCall
  -- owners
  choose_owner combine_owners combine_owner_id choose_owner_id : PublicCall
  -- merging
  combine_added_bytes optional_combine_added_bytes combine_removed_bytes optional_combine_removed_bytes : PublicCall
  -- removals
  has_removal total_removed_bytes add_assign split_key_removed_bytes split_value_removed_bytes : PublicCall
  -- repair and totals
  repair totals_replace totals_replace_structs : PublicCall

-- the contract of each
abbrev pub contract : PublicCall → Contract
-- reading and judging
contract deserialize =
    contract_of flagged 3 deserialize_kinds.ps deserialize_kinds.r deserialize_reads.Learnt (λ κs x. x)
    (λ κs src epochs counts. (lending epochs.now counts.now, deserialized src.now))
    (λ κs src epochs counts. lending epochs.now counts.now)
contract deserialize_single_epoch =
    contract_of flagged 3 deserialize_single_epoch_kinds.ps deserialize_single_epoch_kinds.r deserialize_single_epoch_reads.Learnt (λ κs x. x)
    (λ κs src epochs counts. (lending epochs.now counts.now, deserialized_as SingleEpoch src.now))
    (λ κs src epochs counts. lending epochs.now counts.now)
contract deserialize_multi_epoch =
    contract_of flagged 3 deserialize_multi_epoch_kinds.ps deserialize_multi_epoch_kinds.r deserialize_multi_epoch_reads.Learnt (λ κs x. x)
    (λ κs src epochs counts. (lending epochs.now counts.now, deserialized_as MultiEpoch src.now))
    (λ κs src epochs counts. lending epochs.now counts.now)
contract deserialize_single_epoch_owned =
    contract_of flagged 3 deserialize_single_epoch_owned_kinds.ps deserialize_single_epoch_owned_kinds.r deserialize_single_epoch_owned_reads.Learnt
    (λ κs x. x)
    (λ κs src epochs counts. (lending epochs.now counts.now, deserialized_as SingleEpochOwned src.now))
    (λ κs src epochs counts. lending epochs.now counts.now)
contract deserialize_multi_epoch_owned =
    contract_of flagged 3 deserialize_multi_epoch_owned_kinds.ps deserialize_multi_epoch_owned_kinds.r deserialize_multi_epoch_owned_reads.Learnt
    (λ κs x. x)
    (λ κs src epochs counts. (lending epochs.now counts.now, deserialized_as MultiEpochOwned src.now))
    (λ κs src epochs counts. lending epochs.now counts.now)
contract judge =
    answering_alone (valued (Result (Option Head) Fault)) 1 judge_kinds.ps judge_kinds.r judge_reads.Learnt (λ κs x. x)
    (λ κs src. judgement (read src.now))
contract judge_as =
    answering_alone (valued (Result (Option Head) Fault)) 1 judge_as_kinds.ps judge_as_kinds.r judge_as_reads.Learnt (λ κs x. x)
    (λ κs kind src. judgement (read_as kind src.now))
contract list =
    contract_of (answering_with (answered {A = ℕ})) 2 list_kinds.ps list_kinds.r list_reads.Learnt (λ κs x. x)
    (λ κs src out. (out.now, writing (listed src.now)))
    (λ κs src out. out.now)
-- writing and sizes
contract serialize =
    contract_of (answering_with (answered {A = ℕ})) 3 serialize_kinds.ps serialize_kinds.r serialize_reads.Learnt (λ κs x. x)
    (λ κs flags epochs counts out. (out.now, serialized (holding flags epochs.now counts.now)))
    (λ κs flags epochs counts out. out.now)
contract serialized_size =
    answering_alone (answering (answered {A = ℕ})) 2 serialized_size_kinds.ps serialized_size_kinds.r serialized_size_reads.Learnt (λ κs x. x)
    (λ κs flags epochs counts. size_of (holding flags epochs.now counts.now))
contract approximate_size =
    answering_alone (valued ℕ) 0 approximate_size_kinds.ps approximate_size_kinds.r approximate_size_reads.Learnt (λ κs x. x)
    (λ κs has_owner_id changes. approximate has_owner_id changes)
-- the head alone
contract new_single_epoch =
    answering_alone (valued Head) 0 new_single_epoch_kinds.ps new_single_epoch_kinds.r new_single_epoch_reads.Learnt (λ κs x. x)
    (λ κs epoch maybe_owner_id. head_for epoch maybe_owner_id 0)
contract set_owner_id =
    answering_alone (valued Head) 0 set_owner_id_kinds.ps set_owner_id_kinds.r set_owner_id_reads.Learnt (λ κs x. x)
    (λ κs head owner_id. with_owner head owner_id)
contract base_epoch =
    answering_alone (valued ℕ) 0 base_epoch_kinds.ps base_epoch_kinds.r base_epoch_reads.Learnt (λ κs x. x)
    (λ κs head. head.base)
contract owner_id =
    answering_alone (valued (Option (List ℕ))) 0 owner_id_kinds.ps owner_id_kinds.r owner_id_reads.Learnt (λ κs x. x)
    (λ κs head. owner_of head)
contract type_byte =
    answering_alone (valued ℕ) 0 type_byte_kinds.ps type_byte_kinds.r type_byte_reads.Learnt (λ κs x. x)
    (λ κs head. Flags.type_byte head.kind)
-- owners
contract choose_owner =
    answering_alone (valued (Result Choice Refusal)) 0 choose_owner_kinds.ps choose_owner_kinds.r choose_owner_reads.Learnt (λ κs x. x)
    (λ κs ours theirs strategy. choice strategy (owner_of ours) (owner_of theirs))
contract combine_owners =
    answering_alone (answering (answered {A = Option (List ℕ)})) 0 combine_owners_kinds.ps combine_owners_kinds.r combine_owners_reads.Learnt (λ κs x. x)
    (λ κs ours theirs strategy. combined_owner strategy (owner_of ours) (owner_of theirs))
contract combine_owner_id =
    answering_alone (valued Part) 1 combine_owner_id_kinds.ps combine_owner_id_kinds.r combine_owner_id_reads.Learnt (λ κs x. lent x)
    (λ κs ours theirs strategy. owner_handed strategy (lent ours) (lent theirs))
contract choose_owner_id =
    answering_alone (valued (Result Choice Refusal)) 2 choose_owner_id_kinds.ps choose_owner_id_kinds.r choose_owner_id_reads.Learnt (λ κs x. x)
    (λ κs ours theirs strategy. owner_choice strategy ours.now theirs.now)
-- merging
contract combine_added_bytes =
    contract_of flagged 6 combine_added_bytes_kinds.ps combine_added_bytes_kinds.r combine_added_bytes_reads.Learnt (λ κs x. x)
    (λ κs ours our_epochs our_counts theirs their_epochs their_counts added_bytes strategy epochs counts. (
      lending epochs.now counts.now,
      combined_added (holding ours our_epochs.now our_counts.now) (holding theirs their_epochs.now their_counts.now) added_bytes strategy,
    ))
    (λ κs ours our_epochs our_counts theirs their_epochs their_counts added_bytes strategy epochs counts. lending epochs.now counts.now)
contract optional_combine_added_bytes =
    contract_of flagged 6 optional_combine_added_bytes_kinds.ps optional_combine_added_bytes_kinds.r optional_combine_added_bytes_reads.Learnt
    (λ κs x. x)
    (λ κs present ours our_epochs our_counts theirs their_epochs their_counts added_bytes strategy epochs counts. (
      lending epochs.now counts.now,
      optional_combined_added present (holding ours our_epochs.now our_counts.now) (holding theirs their_epochs.now their_counts.now)
          added_bytes strategy,
    ))
    (λ κs present ours our_epochs our_counts theirs their_epochs their_counts added_bytes strategy epochs counts. lending epochs.now counts.now)
contract combine_removed_bytes =
    contract_of flagged 9 combine_removed_bytes_kinds.ps combine_removed_bytes_kinds.r combine_removed_bytes_reads.Learnt (λ κs x. x)
    (λ κs ours our_epochs our_counts theirs their_epochs their_counts removal ids removed_epochs removed_bytes strategy epochs counts. (
      lending epochs.now counts.now,
      combined_removed (holding ours our_epochs.now our_counts.now) (holding theirs their_epochs.now their_counts.now)
          (holding_rows removal.removed (tables ids.now removed_epochs.now removed_bytes.now)) strategy,
    ))
    (λ κs ours our_epochs our_counts theirs their_epochs their_counts removal ids removed_epochs removed_bytes strategy epochs counts.
    lending epochs.now counts.now)
contract optional_combine_removed_bytes =
    contract_of flagged 9 optional_combine_removed_bytes_kinds.ps optional_combine_removed_bytes_kinds.r optional_combine_removed_bytes_reads.Learnt
    (λ κs x. x)
    (λ κs present ours our_epochs our_counts theirs their_epochs their_counts removal ids removed_epochs removed_bytes strategy epochs counts. (
      lending epochs.now counts.now,
      optional_combined_removed present (holding ours our_epochs.now our_counts.now) (holding theirs their_epochs.now their_counts.now)
          (holding_rows removal.removed (tables ids.now removed_epochs.now removed_bytes.now)) strategy,
    ))
    (λ κs present ours our_epochs our_counts theirs their_epochs their_counts removal ids removed_epochs removed_bytes strategy epochs counts.
    lending epochs.now counts.now)
-- removals
contract has_removal =
    answering_alone (answering (answered {A = Bool})) 3 has_removal_kinds.ps has_removal_kinds.r has_removal_reads.Learnt (λ κs x. x)
    (λ κs removal ids epochs bytes. Removed.has_removal (holding_rows removal.removed (tables ids.now epochs.now bytes.now)))
contract total_removed_bytes =
    answering_alone (answering (answered {A = ℕ})) 3 total_removed_bytes_kinds.ps total_removed_bytes_kinds.r total_removed_bytes_reads.Learnt (λ κs x. x)
    (λ κs removal ids epochs bytes. total_removed (holding_rows removal.removed (tables ids.now epochs.now bytes.now)))
contract add_assign =
    contract_of (answering_with told_removal) 6 add_assign_kinds.ps add_assign_kinds.r add_assign_reads.Learnt (λ κs x. x)
    (λ κs lhs ids epochs bytes rhs rhs_ids rhs_epochs rhs_bytes version. (
      tables ids.now epochs.now bytes.now,
      λ m. summed version (holding_rows lhs.removed m) (holding_rows rhs.removed (tables rhs_ids.now rhs_epochs.now rhs_bytes.now)),
    ))
    (λ κs lhs ids epochs bytes rhs rhs_ids rhs_epochs rhs_bytes version. tables ids.now epochs.now bytes.now)
contract split_key_removed_bytes =
    contract_of (answering_with told_removal) 5 split_key_removed_bytes_kinds.ps split_key_removed_bytes_kinds.r split_key_removed_bytes_reads.Learnt
    (λ κs x. x)
    (λ κs flags epochs counts removed_key_bytes ids row_epochs row_bytes.
    (tables ids.now row_epochs.now row_bytes.now, split_key (holding flags epochs.now counts.now) removed_key_bytes))
    (λ κs flags epochs counts removed_key_bytes ids row_epochs row_bytes. tables ids.now row_epochs.now row_bytes.now)
contract split_value_removed_bytes =
    contract_of (answering_with told_split) 5 split_value_removed_bytes_kinds.ps split_value_removed_bytes_kinds.r
    split_value_removed_bytes_reads.Learnt (λ κs x. x)
    (λ κs flags epochs counts removed_value_bytes ids row_epochs row_bytes.
    (tables ids.now row_epochs.now row_bytes.now, split_value (holding flags epochs.now counts.now) removed_value_bytes))
    (λ κs flags epochs counts removed_value_bytes ids row_epochs row_bytes. tables ids.now row_epochs.now row_bytes.now)
-- repair and totals
contract repair =
    contract_of (answering_with (answered {A = Sizes})) 4 repair_kinds.ps repair_kinds.r repair_reads.Learnt (λ κs x. x)
    (λ κs src out offsets changes. (repair_lent out.now offsets.now changes.now, repaired_into src.now))
    (λ κs src out offsets changes. repair_lent out.now offsets.now changes.now)
contract totals_replace =
    contract_of (answering_with (answered {A = ℕ})) 7 totals_replace_kinds.ps totals_replace_kinds.r totals_replace_reads.Learnt (λ κs x. x)
    (λ κs rows owners epochs totals old_present old_flags old_epochs old_counts new_present new_flags new_epochs new_counts. (
      tables owners.now epochs.now totals.now,
      λ m. replacing rows m (proper_given old_present (holding old_flags old_epochs.now old_counts.now) && proper_given new_present
          (holding new_flags new_epochs.now new_counts.now)) (given old_present (holding old_flags old_epochs.now old_counts.now))
          (given new_present (holding new_flags new_epochs.now new_counts.now)),
    ))
    (λ κs rows owners epochs totals old_present old_flags old_epochs old_counts new_present new_flags new_epochs new_counts.
    tables owners.now epochs.now totals.now)
contract totals_replace_structs =
    contract_of (answering_with (answered {A = ℕ})) 8 totals_replace_structs_kinds.ps totals_replace_structs_kinds.r totals_replace_structs_reads.Learnt (λ κs x. x)
    (λ κs rows table owners epochs totals old_present old_flags old_epochs old_counts new_present new_flags new_epochs new_counts. (
      beside table.now (tables owners.now epochs.now totals.now),
      λ m. replacing_structs rows m.table m.work (proper_given old_present (holding old_flags old_epochs.now old_counts.now) && proper_given new_present
          (holding new_flags new_epochs.now new_counts.now)) (given old_present (holding old_flags old_epochs.now old_counts.now))
          (given new_present (holding new_flags new_epochs.now new_counts.now)),
    ))
    (λ κs rows table owners epochs totals old_present old_flags old_epochs old_counts new_present new_flags new_epochs new_counts.
    beside table.now (tables owners.now epochs.now totals.now))
