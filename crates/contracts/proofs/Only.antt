-- ONLY: OF EACH PUBLIC CALL ANY TWO OUTCOMES THAT ITS CONTRACT ALLOWS ARE EQUAL, THE ANSWER AND ALL LENT MEMORY. Where what is told of an answer
-- has a way back, by `left_only`; where the contract has C's answer itself, since both equal the definition.
-- Assumes nothing.
use mathlib.Core.Path.{refl, sym, ◌∙◌}
use Rattle.records_spec.specs.Outcomes.{answered}
use Rattle.records_spec.proofs.Only.{back_only, left_only, answered_as, answered_back, shown_only}
use Rattle.rows_spec.specs.Calls.{told_removal}
use Rattle.rows_spec.proofs.Only.{removal_as, removal_back}
use Rattle.splitting_spec.specs.Calls.{told_split}
use Rattle.splitting_spec.proofs.Only.{split_as, split_back}
use Rattle.contracts.specs.Contract.{Only}
use Rattle.contracts.specs.Calls
use Rattle.contracts.specs.Calls.{PublicCall, contract}
use Rattle.contracts.specs.CallsForC
use Rattle.contracts.specs.CallsForC.{CallForC, contract_c}
use Rattle.contracts.proofs.Laws.{c_only}

pub only : (c : PublicCall) → Only (contract c)
only Calls.deserialize κs i x y e f p q = shown_only x y _ _ _ p q
only Calls.deserialize_single_epoch κs i x y e f p q = shown_only x y _ _ _ p q
only Calls.deserialize_multi_epoch κs i x y e f p q = shown_only x y _ _ _ p q
only Calls.deserialize_single_epoch_owned κs i x y e f p q = shown_only x y _ _ _ p q
only Calls.deserialize_multi_epoch_owned κs i x y e f p q = shown_only x y _ _ _ p q
only Calls.judge κs i x y e f p q = (p ∙ sym q, refl)
only Calls.judge_as κs i x y e f p q = (p ∙ sym q, refl)
only Calls.list κs i x y e f p q = left_only answered answered_as answered_back x y _ _ _ p q
only Calls.serialize κs i x y e f p q = left_only answered answered_as answered_back x y _ _ _ p q
only Calls.serialized_size κs i x y e f p q = (back_only answered answered_as answered_back x y _ p q, refl)
only Calls.approximate_size κs i x y e f p q = (p ∙ sym q, refl)
only Calls.new_single_epoch κs i x y e f p q = (p ∙ sym q, refl)
only Calls.set_owner_id κs i x y e f p q = (p ∙ sym q, refl)
only Calls.base_epoch κs i x y e f p q = (p ∙ sym q, refl)
only Calls.owner_id κs i x y e f p q = (p ∙ sym q, refl)
only Calls.type_byte κs i x y e f p q = (p ∙ sym q, refl)
only Calls.choose_owner κs i x y e f p q = (p ∙ sym q, refl)
only Calls.combine_owners κs i x y e f p q = (back_only answered answered_as answered_back x y _ p q, refl)
only Calls.combine_owner_id κs i x y e f p q = (p ∙ sym q, refl)
only Calls.choose_owner_id κs i x y e f p q = (p ∙ sym q, refl)
only Calls.combine_added_bytes κs i x y e f p q = shown_only x y _ _ _ p q
only Calls.optional_combine_added_bytes κs i x y e f p q = shown_only x y _ _ _ p q
only Calls.combine_removed_bytes κs i x y e f p q = shown_only x y _ _ _ p q
only Calls.optional_combine_removed_bytes κs i x y e f p q = shown_only x y _ _ _ p q
only Calls.has_removal κs i x y e f p q = (back_only answered answered_as answered_back x y _ p q, refl)
only Calls.total_removed_bytes κs i x y e f p q = (back_only answered answered_as answered_back x y _ p q, refl)
only Calls.add_assign κs i x y e f p q = left_only told_removal removal_as removal_back x y _ _ _ p q
only Calls.split_key_removed_bytes κs i x y e f p q = left_only told_removal removal_as removal_back x y _ _ _ p q
only Calls.split_value_removed_bytes κs i x y e f p q = left_only told_split split_as split_back x y _ _ _ p q
only Calls.repair κs i x y e f p q = left_only answered answered_as answered_back x y _ _ _ p q
only Calls.totals_replace κs i x y e f p q = left_only answered answered_as answered_back x y _ _ _ p q
only Calls.totals_replace_structs κs i x y e f p q = left_only answered answered_as answered_back x y _ _ _ p q

pub only_c : (c : CallForC) → Only (contract_c c)
only_c CallsForC.petasunok_deserialize κs i x y e f p q = c_only x y _ _ _ p q
only_c CallsForC.petasunok_deserialize_single_epoch κs i x y e f p q = c_only x y _ _ _ p q
only_c CallsForC.petasunok_deserialize_multi_epoch κs i x y e f p q = c_only x y _ _ _ p q
only_c CallsForC.petasunok_deserialize_single_epoch_owned κs i x y e f p q = c_only x y _ _ _ p q
only_c CallsForC.petasunok_deserialize_multi_epoch_owned κs i x y e f p q = c_only x y _ _ _ p q
only_c CallsForC.petasunok_serialize κs i x y e f p q = c_only x y _ _ _ p q
only_c CallsForC.petasunok_serialized_size κs i x y e f p q = (p ∙ sym q, refl)
only_c CallsForC.petasunok_approximate_size κs i x y e f p q = (p ∙ sym q, refl)
only_c CallsForC.petasunok_new_single_epoch κs i x y e f p q = (p ∙ sym q, refl)
only_c CallsForC.petasunok_set_owner_id κs i x y e f p q = (p ∙ sym q, refl)
only_c CallsForC.petasunok_base_epoch κs i x y e f p q = (p ∙ sym q, refl)
only_c CallsForC.petasunok_owner_id κs i x y e f p q = (p ∙ sym q, refl)
only_c CallsForC.petasunok_type_byte κs i x y e f p q = (p ∙ sym q, refl)
only_c CallsForC.petasunok_combine_owner_id κs i x y e f p q = (p ∙ sym q, refl)
only_c CallsForC.petasunok_combine_added_bytes κs i x y e f p q = c_only x y _ _ _ p q
only_c CallsForC.petasunok_optional_combine_added_bytes κs i x y e f p q = c_only x y _ _ _ p q
only_c CallsForC.petasunok_combine_removed_bytes κs i x y e f p q = c_only x y _ _ _ p q
only_c CallsForC.petasunok_optional_combine_removed_bytes κs i x y e f p q = c_only x y _ _ _ p q
only_c CallsForC.petasunok_has_removal κs i x y e f p q = (p ∙ sym q, refl)
only_c CallsForC.petasunok_total_removed_bytes κs i x y e f p q = (p ∙ sym q, refl)
only_c CallsForC.petasunok_add_assign κs i x y e f p q = c_only x y _ _ _ p q
only_c CallsForC.petasunok_split_key_removed_bytes κs i x y e f p q = c_only x y _ _ _ p q
only_c CallsForC.petasunok_split_value_removed_bytes κs i x y e f p q = c_only x y _ _ _ p q
only_c CallsForC.petasunok_repair κs i x y e f p q = c_only x y _ _ _ p q
only_c CallsForC.petasunok_totals_replace κs i x y e f p q = c_only x y _ _ _ p q
only_c CallsForC.petasunok_totals_replace_structs κs i x y e f p q = c_only x y _ _ _ p q
