-- THE TABLE OF THE CALLS FOR C, with their contracts as `capi` states them.
-- Assumes nothing.
use Rattle.std.specs.Prelude.{ℕ}
use Rattle.records_spec.specs.Flags.{owner_if, head_for, lending}
use Rattle.records_spec.specs.declared.head.Kind.TheVariants.{SingleEpoch, MultiEpoch, SingleEpochOwned, MultiEpochOwned}
use Rattle.codec_spec.specs.Sizes.{approximate}
use Rattle.codec_spec.specs.Calls.{deserialized_as, deserialized}
use Rattle.rows_spec.specs.Rows.{tables}
use Rattle.repair_spec.specs.Calls.{repair_lent, repaired_into}
use Rattle.totals_index_spec.specs.Calls.{beside}
use Rattle.capi_spec.specs.Given.{is_true, holding_c, changes_given, holding_rows_c}
use Rattle.capi_spec.specs.Told.{told_as, head_told, flags_told, head_answer, count_told, truth_told, owner_told, owner_id_told}
use Rattle.capi_spec.specs.Told.{sum_answer, split_answer, repair_answer}
use Rattle.capi_spec.specs.Calls.{serialized_c, size_c, owner_c, combined_added_c, optional_combined_added_c, combined_removed_c, optional_combined_removed_c}
use Rattle.capi_spec.specs.Calls.{split_key_c, split_value_c, summed_c, has_removal_c, total_removed_c, totals_replaced_c, structs_replaced_c}
use Rattle.capi_spec.specs.Calls.{with_owner_c, base_c, owner_id_c, type_byte_c}
use Rattle.capi_spec.specs.declared.types.CHead.{CHead}
use Rattle.contracts.specs.Forms.{valued, flagged_c, head_c, counted_c, number_c, choice_c, owner_id_for_c, summed_for_c, split_for_c, repaired_c}
use Rattle.contracts.specs.Contract.{Contract, contract_of, answering_alone}
use Rattle.capi.proofs.petasunok_deserialize.Kinds as petasunok_deserialize_kinds
use Rattle.capi.proofs.petasunok_deserialize.Reads as petasunok_deserialize_reads
use Rattle.capi.proofs.petasunok_deserialize_single_epoch.Kinds as petasunok_deserialize_single_epoch_kinds
use Rattle.capi.proofs.petasunok_deserialize_single_epoch.Reads as petasunok_deserialize_single_epoch_reads
use Rattle.capi.proofs.petasunok_deserialize_multi_epoch.Kinds as petasunok_deserialize_multi_epoch_kinds
use Rattle.capi.proofs.petasunok_deserialize_multi_epoch.Reads as petasunok_deserialize_multi_epoch_reads
use Rattle.capi.proofs.petasunok_deserialize_single_epoch_owned.Kinds as petasunok_deserialize_single_epoch_owned_kinds
use Rattle.capi.proofs.petasunok_deserialize_single_epoch_owned.Reads as petasunok_deserialize_single_epoch_owned_reads
use Rattle.capi.proofs.petasunok_deserialize_multi_epoch_owned.Kinds as petasunok_deserialize_multi_epoch_owned_kinds
use Rattle.capi.proofs.petasunok_deserialize_multi_epoch_owned.Reads as petasunok_deserialize_multi_epoch_owned_reads
use Rattle.capi.proofs.petasunok_serialize.Kinds as petasunok_serialize_kinds
use Rattle.capi.proofs.petasunok_serialize.Reads as petasunok_serialize_reads
use Rattle.capi.proofs.petasunok_serialized_size.Kinds as petasunok_serialized_size_kinds
use Rattle.capi.proofs.petasunok_serialized_size.Reads as petasunok_serialized_size_reads
use Rattle.capi.proofs.petasunok_approximate_size.Kinds as petasunok_approximate_size_kinds
use Rattle.capi.proofs.petasunok_approximate_size.Reads as petasunok_approximate_size_reads
use Rattle.capi.proofs.petasunok_new_single_epoch.Kinds as petasunok_new_single_epoch_kinds
use Rattle.capi.proofs.petasunok_new_single_epoch.Reads as petasunok_new_single_epoch_reads
use Rattle.capi.proofs.petasunok_set_owner_id.Kinds as petasunok_set_owner_id_kinds
use Rattle.capi.proofs.petasunok_set_owner_id.Reads as petasunok_set_owner_id_reads
use Rattle.capi.proofs.petasunok_base_epoch.Kinds as petasunok_base_epoch_kinds
use Rattle.capi.proofs.petasunok_base_epoch.Reads as petasunok_base_epoch_reads
use Rattle.capi.proofs.petasunok_owner_id.Kinds as petasunok_owner_id_kinds
use Rattle.capi.proofs.petasunok_owner_id.Reads as petasunok_owner_id_reads
use Rattle.capi.proofs.petasunok_type_byte.Kinds as petasunok_type_byte_kinds
use Rattle.capi.proofs.petasunok_type_byte.Reads as petasunok_type_byte_reads
use Rattle.capi.proofs.petasunok_combine_owner_id.Kinds as petasunok_combine_owner_id_kinds
use Rattle.capi.proofs.petasunok_combine_owner_id.Reads as petasunok_combine_owner_id_reads
use Rattle.capi.proofs.petasunok_combine_added_bytes.Kinds as petasunok_combine_added_bytes_kinds
use Rattle.capi.proofs.petasunok_combine_added_bytes.Reads as petasunok_combine_added_bytes_reads
use Rattle.capi.proofs.petasunok_optional_combine_added_bytes.Kinds as petasunok_optional_combine_added_bytes_kinds
use Rattle.capi.proofs.petasunok_optional_combine_added_bytes.Reads as petasunok_optional_combine_added_bytes_reads
use Rattle.capi.proofs.petasunok_combine_removed_bytes.Kinds as petasunok_combine_removed_bytes_kinds
use Rattle.capi.proofs.petasunok_combine_removed_bytes.Reads as petasunok_combine_removed_bytes_reads
use Rattle.capi.proofs.petasunok_optional_combine_removed_bytes.Kinds as petasunok_optional_combine_removed_bytes_kinds
use Rattle.capi.proofs.petasunok_optional_combine_removed_bytes.Reads as petasunok_optional_combine_removed_bytes_reads
use Rattle.capi.proofs.petasunok_has_removal.Kinds as petasunok_has_removal_kinds
use Rattle.capi.proofs.petasunok_has_removal.Reads as petasunok_has_removal_reads
use Rattle.capi.proofs.petasunok_total_removed_bytes.Kinds as petasunok_total_removed_bytes_kinds
use Rattle.capi.proofs.petasunok_total_removed_bytes.Reads as petasunok_total_removed_bytes_reads
use Rattle.capi.proofs.petasunok_add_assign.Kinds as petasunok_add_assign_kinds
use Rattle.capi.proofs.petasunok_add_assign.Reads as petasunok_add_assign_reads
use Rattle.capi.proofs.petasunok_split_key_removed_bytes.Kinds as petasunok_split_key_removed_bytes_kinds
use Rattle.capi.proofs.petasunok_split_key_removed_bytes.Reads as petasunok_split_key_removed_bytes_reads
use Rattle.capi.proofs.petasunok_split_value_removed_bytes.Kinds as petasunok_split_value_removed_bytes_kinds
use Rattle.capi.proofs.petasunok_split_value_removed_bytes.Reads as petasunok_split_value_removed_bytes_reads
use Rattle.capi.proofs.petasunok_repair.Kinds as petasunok_repair_kinds
use Rattle.capi.proofs.petasunok_repair.Reads as petasunok_repair_reads
use Rattle.capi.proofs.petasunok_totals_replace.Kinds as petasunok_totals_replace_kinds
use Rattle.capi.proofs.petasunok_totals_replace.Reads as petasunok_totals_replace_reads
use Rattle.capi.proofs.petasunok_totals_replace_structs.Kinds as petasunok_totals_replace_structs_kinds
use Rattle.capi.proofs.petasunok_totals_replace_structs.Reads as petasunok_totals_replace_structs_reads

-- the calls by name
pub data CallForC : Type 0 where
  -- for C: reading and writing
  petasunok_deserialize petasunok_deserialize_single_epoch petasunok_deserialize_multi_epoch : CallForC
  petasunok_deserialize_single_epoch_owned petasunok_deserialize_multi_epoch_owned petasunok_serialize : CallForC
  petasunok_serialized_size petasunok_approximate_size : CallForC
  -- for C: the head alone and owners
  petasunok_new_single_epoch petasunok_set_owner_id petasunok_base_epoch petasunok_owner_id petasunok_type_byte : CallForC
  petasunok_combine_owner_id : CallForC
  -- for C: merging
  petasunok_combine_added_bytes petasunok_optional_combine_added_bytes petasunok_combine_removed_bytes : CallForC
  petasunok_optional_combine_removed_bytes : CallForC
  -- for C: removals, repair and totals
  petasunok_has_removal petasunok_total_removed_bytes petasunok_add_assign petasunok_split_key_removed_bytes : CallForC
  petasunok_split_value_removed_bytes petasunok_repair petasunok_totals_replace petasunok_totals_replace_structs : CallForC

-- the contract of each
abbrev pub contract_c : CallForC → Contract
-- for C: reading and writing
contract_c petasunok_deserialize =
    contract_of flagged_c 3 petasunok_deserialize_kinds.ps petasunok_deserialize_kinds.r petasunok_deserialize_reads.Learnt (λ κs x. x)
    (λ κs src epochs counts. (lending epochs.now counts.now, λ m. flags_told (deserialized src.now m)))
    (λ κs src epochs counts. lending epochs.now counts.now)
contract_c petasunok_deserialize_single_epoch =
    contract_of flagged_c 3 petasunok_deserialize_single_epoch_kinds.ps petasunok_deserialize_single_epoch_kinds.r
    petasunok_deserialize_single_epoch_reads.Learnt (λ κs x. x)
    (λ κs src epochs counts. (lending epochs.now counts.now, λ m. flags_told (deserialized_as SingleEpoch src.now m)))
    (λ κs src epochs counts. lending epochs.now counts.now)
contract_c petasunok_deserialize_multi_epoch =
    contract_of flagged_c 3 petasunok_deserialize_multi_epoch_kinds.ps petasunok_deserialize_multi_epoch_kinds.r
    petasunok_deserialize_multi_epoch_reads.Learnt (λ κs x. x)
    (λ κs src epochs counts. (lending epochs.now counts.now, λ m. flags_told (deserialized_as MultiEpoch src.now m)))
    (λ κs src epochs counts. lending epochs.now counts.now)
contract_c petasunok_deserialize_single_epoch_owned =
    contract_of flagged_c 3 petasunok_deserialize_single_epoch_owned_kinds.ps petasunok_deserialize_single_epoch_owned_kinds.r
    petasunok_deserialize_single_epoch_owned_reads.Learnt (λ κs x. x)
    (λ κs src epochs counts. (lending epochs.now counts.now, λ m. flags_told (deserialized_as SingleEpochOwned src.now m)))
    (λ κs src epochs counts. lending epochs.now counts.now)
contract_c petasunok_deserialize_multi_epoch_owned =
    contract_of flagged_c 3 petasunok_deserialize_multi_epoch_owned_kinds.ps petasunok_deserialize_multi_epoch_owned_kinds.r
    petasunok_deserialize_multi_epoch_owned_reads.Learnt (λ κs x. x)
    (λ κs src epochs counts. (lending epochs.now counts.now, λ m. flags_told (deserialized_as MultiEpochOwned src.now m)))
    (λ κs src epochs counts. lending epochs.now counts.now)
contract_c petasunok_serialize =
    contract_of counted_c 3 petasunok_serialize_kinds.ps petasunok_serialize_kinds.r petasunok_serialize_reads.Learnt (λ κs x. x)
    (λ κs flags epochs counts out.
    (out.now, λ m. told_as count_told (serialized_c (holding_c flags epochs.now counts.now) m)))
    (λ κs flags epochs counts out. out.now)
contract_c petasunok_serialized_size =
    answering_alone number_c 2 petasunok_serialized_size_kinds.ps petasunok_serialized_size_kinds.r petasunok_serialized_size_reads.Learnt (λ κs x. x)
    (λ κs flags epochs counts. count_told (size_c (holding_c flags epochs.now counts.now)))
contract_c petasunok_approximate_size =
    answering_alone (valued ℕ) 0 petasunok_approximate_size_kinds.ps petasunok_approximate_size_kinds.r petasunok_approximate_size_reads.Learnt
    (λ κs x. x)
    (λ κs has_owner_id given changes size. approximate (is_true has_owner_id) (changes_given given changes size))
-- for C: the head alone and owners
contract_c petasunok_new_single_epoch =
    answering_alone (valued CHead) 0 petasunok_new_single_epoch_kinds.ps petasunok_new_single_epoch_kinds.r petasunok_new_single_epoch_reads.Learnt
    (λ κs x. x)
    (λ κs epoch owned owner_id. head_told (head_for epoch (owner_if (is_true owned) owner_id.bytes) 0))
contract_c petasunok_set_owner_id =
    answering_alone head_c 0 petasunok_set_owner_id_kinds.ps petasunok_set_owner_id_kinds.r petasunok_set_owner_id_reads.Learnt (λ κs x. x)
    (λ κs head owner_id. head_answer (with_owner_c head owner_id))
contract_c petasunok_base_epoch =
    answering_alone number_c 0 petasunok_base_epoch_kinds.ps petasunok_base_epoch_kinds.r petasunok_base_epoch_reads.Learnt (λ κs x. x)
    (λ κs head. count_told (base_c head))
contract_c petasunok_owner_id =
    answering_alone owner_id_for_c 0 petasunok_owner_id_kinds.ps petasunok_owner_id_kinds.r petasunok_owner_id_reads.Learnt (λ κs x. x)
    (λ κs head. owner_id_told (owner_id_c head))
contract_c petasunok_type_byte =
    answering_alone number_c 0 petasunok_type_byte_kinds.ps petasunok_type_byte_kinds.r petasunok_type_byte_reads.Learnt (λ κs x. x)
    (λ κs head. count_told (type_byte_c head))
contract_c petasunok_combine_owner_id =
    answering_alone choice_c 2 petasunok_combine_owner_id_kinds.ps petasunok_combine_owner_id_kinds.r petasunok_combine_owner_id_reads.Learnt
    (λ κs x. x)
    (λ κs ours theirs strategy. owner_told (owner_c strategy ours.now theirs.now))
-- for C: merging
contract_c petasunok_combine_added_bytes =
    contract_of flagged_c 6 petasunok_combine_added_bytes_kinds.ps petasunok_combine_added_bytes_kinds.r petasunok_combine_added_bytes_reads.Learnt
    (λ κs x. x)
    (λ κs ours our_epochs our_counts theirs their_epochs their_counts added_bytes strategy epochs counts. (
      lending epochs.now counts.now,
      λ m. flags_told (combined_added_c (holding_c ours our_epochs.now our_counts.now) (holding_c theirs their_epochs.now their_counts.now)
          added_bytes strategy m),
    ))
    (λ κs ours our_epochs our_counts theirs their_epochs their_counts added_bytes strategy epochs counts. lending epochs.now counts.now)
contract_c petasunok_optional_combine_added_bytes =
    contract_of flagged_c 6 petasunok_optional_combine_added_bytes_kinds.ps petasunok_optional_combine_added_bytes_kinds.r
    petasunok_optional_combine_added_bytes_reads.Learnt (λ κs x. x)
    (λ κs present ours our_epochs our_counts theirs their_epochs their_counts added_bytes strategy epochs counts. (
      lending epochs.now counts.now,
      λ m. flags_told (optional_combined_added_c present (holding_c ours our_epochs.now our_counts.now)
          (holding_c theirs their_epochs.now their_counts.now) added_bytes strategy m),
    ))
    (λ κs present ours our_epochs our_counts theirs their_epochs their_counts added_bytes strategy epochs counts. lending epochs.now counts.now)
contract_c petasunok_combine_removed_bytes =
    contract_of flagged_c 9 petasunok_combine_removed_bytes_kinds.ps petasunok_combine_removed_bytes_kinds.r
    petasunok_combine_removed_bytes_reads.Learnt (λ κs x. x)
    (λ κs ours our_epochs our_counts theirs their_epochs their_counts removal ids removed_epochs removed_bytes strategy epochs counts. (
      lending epochs.now counts.now,
      λ m. flags_told (combined_removed_c (holding_c ours our_epochs.now our_counts.now) (holding_c theirs their_epochs.now their_counts.now)
          (holding_rows_c removal (tables ids.now removed_epochs.now removed_bytes.now)) strategy m),
    ))
    (λ κs ours our_epochs our_counts theirs their_epochs their_counts removal ids removed_epochs removed_bytes strategy epochs counts.
    lending epochs.now counts.now)
contract_c petasunok_optional_combine_removed_bytes =
    contract_of flagged_c 9 petasunok_optional_combine_removed_bytes_kinds.ps petasunok_optional_combine_removed_bytes_kinds.r
    petasunok_optional_combine_removed_bytes_reads.Learnt (λ κs x. x)
    (λ κs present ours our_epochs our_counts theirs their_epochs their_counts removal ids removed_epochs removed_bytes strategy epochs
    counts. (
      lending epochs.now counts.now,
      λ m. flags_told (optional_combined_removed_c present (holding_c ours our_epochs.now our_counts.now)
          (holding_c theirs their_epochs.now their_counts.now) (holding_rows_c removal
          (tables ids.now removed_epochs.now removed_bytes.now)) strategy m),
    ))
    (λ κs present ours our_epochs our_counts theirs their_epochs their_counts removal ids removed_epochs removed_bytes strategy epochs
    counts.
    lending epochs.now counts.now)
-- for C: removals, repair and totals
contract_c petasunok_has_removal =
    answering_alone number_c 3 petasunok_has_removal_kinds.ps petasunok_has_removal_kinds.r petasunok_has_removal_reads.Learnt (λ κs x. x)
    (λ κs removal ids epochs bytes.
    truth_told (has_removal_c (holding_rows_c removal (tables ids.now epochs.now bytes.now))))
contract_c petasunok_total_removed_bytes =
    answering_alone number_c 3 petasunok_total_removed_bytes_kinds.ps petasunok_total_removed_bytes_kinds.r petasunok_total_removed_bytes_reads.Learnt
    (λ κs x. x)
    (λ κs removal ids epochs bytes.
    count_told (total_removed_c (holding_rows_c removal (tables ids.now epochs.now bytes.now))))
contract_c petasunok_add_assign =
    contract_of summed_for_c 6 petasunok_add_assign_kinds.ps petasunok_add_assign_kinds.r petasunok_add_assign_reads.Learnt (λ κs x. x)
    (λ κs lhs ids epochs bytes rhs rhs_ids rhs_epochs rhs_bytes version. (
      tables ids.now epochs.now bytes.now,
      λ m. told_as sum_answer (summed_c version (holding_rows_c lhs m) (holding_rows_c rhs (tables rhs_ids.now rhs_epochs.now rhs_bytes.now))),
    ))
    (λ κs lhs ids epochs bytes rhs rhs_ids rhs_epochs rhs_bytes version. tables ids.now epochs.now bytes.now)
contract_c petasunok_split_key_removed_bytes =
    contract_of summed_for_c 5 petasunok_split_key_removed_bytes_kinds.ps petasunok_split_key_removed_bytes_kinds.r
    petasunok_split_key_removed_bytes_reads.Learnt (λ κs x. x)
    (λ κs flags epochs counts removed_key_bytes ids row_epochs row_bytes. (
      tables ids.now row_epochs.now row_bytes.now,
      λ m. told_as sum_answer (split_key_c (holding_c flags epochs.now counts.now) removed_key_bytes m),
    ))
    (λ κs flags epochs counts removed_key_bytes ids row_epochs row_bytes. tables ids.now row_epochs.now row_bytes.now)
contract_c petasunok_split_value_removed_bytes =
    contract_of split_for_c 5 petasunok_split_value_removed_bytes_kinds.ps petasunok_split_value_removed_bytes_kinds.r
    petasunok_split_value_removed_bytes_reads.Learnt (λ κs x. x)
    (λ κs flags epochs counts removed_value_bytes ids row_epochs row_bytes. (
      tables ids.now row_epochs.now row_bytes.now,
      λ m. told_as split_answer (split_value_c (holding_c flags epochs.now counts.now) removed_value_bytes m),
    ))
    (λ κs flags epochs counts removed_value_bytes ids row_epochs row_bytes. tables ids.now row_epochs.now row_bytes.now)
contract_c petasunok_repair =
    contract_of repaired_c 4 petasunok_repair_kinds.ps petasunok_repair_kinds.r petasunok_repair_reads.Learnt (λ κs x. x)
    (λ κs src out offsets changes. (repair_lent out.now offsets.now changes.now, λ m. told_as repair_answer (repaired_into src.now m)))
    (λ κs src out offsets changes. repair_lent out.now offsets.now changes.now)
contract_c petasunok_totals_replace =
    contract_of counted_c 7 petasunok_totals_replace_kinds.ps petasunok_totals_replace_kinds.r petasunok_totals_replace_reads.Learnt (λ κs x. x)
    (λ κs rows owners epochs totals old_present old_flags old_epochs old_counts new_present new_flags new_epochs new_counts. (
      tables owners.now epochs.now totals.now,
      λ m. told_as count_told (totals_replaced_c rows m old_present (holding_c old_flags old_epochs.now old_counts.now) new_present
          (holding_c new_flags new_epochs.now new_counts.now)),
    ))
    (λ κs rows owners epochs totals old_present old_flags old_epochs old_counts new_present new_flags new_epochs new_counts.
    tables owners.now epochs.now totals.now)
contract_c petasunok_totals_replace_structs =
    contract_of counted_c 8 petasunok_totals_replace_structs_kinds.ps petasunok_totals_replace_structs_kinds.r
    petasunok_totals_replace_structs_reads.Learnt (λ κs x. x)
    (λ κs rows table owners epochs totals old_present old_flags old_epochs old_counts new_present new_flags new_epochs new_counts. (
      beside table.now (tables owners.now epochs.now totals.now),
      λ m. told_as count_told (structs_replaced_c rows m.table m.work old_present (holding_c old_flags old_epochs.now old_counts.now) new_present
          (holding_c new_flags new_epochs.now new_counts.now)),
    ))
    (λ κs rows table owners epochs totals old_present old_flags old_epochs old_counts new_present new_flags new_epochs new_counts.
    beside table.now (tables owners.now epochs.now totals.now))
