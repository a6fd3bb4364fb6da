-- EACH CONTRACT IS ONE EQUATION, AND WHAT THE TABLE CALLS LENT IS WHAT IT SPEAKS OF. By the contracts as they stand.
-- Assumes nothing.
use mathlib.Core.Path.{refl}
use Rattle.contracts.specs.Contract.{OneEquation}
use Rattle.contracts.specs.Calls
use Rattle.contracts.specs.Calls.{PublicCall, contract}
use Rattle.contracts.specs.CallsForC
use Rattle.contracts.specs.CallsForC.{CallForC, contract_c}

pub one_equation : (c : PublicCall) → OneEquation (contract c)
one_equation Calls.deserialize κs i x e = refl
one_equation Calls.deserialize_single_epoch κs i x e = refl
one_equation Calls.deserialize_multi_epoch κs i x e = refl
one_equation Calls.deserialize_single_epoch_owned κs i x e = refl
one_equation Calls.deserialize_multi_epoch_owned κs i x e = refl
one_equation Calls.judge κs i x e = refl
one_equation Calls.judge_as κs i x e = refl
one_equation Calls.list κs i x e = refl
one_equation Calls.serialize κs i x e = refl
one_equation Calls.serialized_size κs i x e = refl
one_equation Calls.approximate_size κs i x e = refl
one_equation Calls.new_single_epoch κs i x e = refl
one_equation Calls.set_owner_id κs i x e = refl
one_equation Calls.base_epoch κs i x e = refl
one_equation Calls.owner_id κs i x e = refl
one_equation Calls.type_byte κs i x e = refl
one_equation Calls.choose_owner κs i x e = refl
one_equation Calls.combine_owners κs i x e = refl
one_equation Calls.combine_owner_id κs i x e = refl
one_equation Calls.choose_owner_id κs i x e = refl
one_equation Calls.combine_added_bytes κs i x e = refl
one_equation Calls.optional_combine_added_bytes κs i x e = refl
one_equation Calls.combine_removed_bytes κs i x e = refl
one_equation Calls.optional_combine_removed_bytes κs i x e = refl
one_equation Calls.has_removal κs i x e = refl
one_equation Calls.total_removed_bytes κs i x e = refl
one_equation Calls.add_assign κs i x e = refl
one_equation Calls.split_key_removed_bytes κs i x e = refl
one_equation Calls.split_value_removed_bytes κs i x e = refl
one_equation Calls.repair κs i x e = refl
one_equation Calls.totals_replace κs i x e = refl
one_equation Calls.totals_replace_structs κs i x e = refl

pub one_equation_c : (c : CallForC) → OneEquation (contract_c c)
one_equation_c CallsForC.petasunok_deserialize κs i x e = refl
one_equation_c CallsForC.petasunok_deserialize_single_epoch κs i x e = refl
one_equation_c CallsForC.petasunok_deserialize_multi_epoch κs i x e = refl
one_equation_c CallsForC.petasunok_deserialize_single_epoch_owned κs i x e = refl
one_equation_c CallsForC.petasunok_deserialize_multi_epoch_owned κs i x e = refl
one_equation_c CallsForC.petasunok_serialize κs i x e = refl
one_equation_c CallsForC.petasunok_serialized_size κs i x e = refl
one_equation_c CallsForC.petasunok_approximate_size κs i x e = refl
one_equation_c CallsForC.petasunok_new_single_epoch κs i x e = refl
one_equation_c CallsForC.petasunok_set_owner_id κs i x e = refl
one_equation_c CallsForC.petasunok_base_epoch κs i x e = refl
one_equation_c CallsForC.petasunok_owner_id κs i x e = refl
one_equation_c CallsForC.petasunok_type_byte κs i x e = refl
one_equation_c CallsForC.petasunok_combine_owner_id κs i x e = refl
one_equation_c CallsForC.petasunok_combine_added_bytes κs i x e = refl
one_equation_c CallsForC.petasunok_optional_combine_added_bytes κs i x e = refl
one_equation_c CallsForC.petasunok_combine_removed_bytes κs i x e = refl
one_equation_c CallsForC.petasunok_optional_combine_removed_bytes κs i x e = refl
one_equation_c CallsForC.petasunok_has_removal κs i x e = refl
one_equation_c CallsForC.petasunok_total_removed_bytes κs i x e = refl
one_equation_c CallsForC.petasunok_add_assign κs i x e = refl
one_equation_c CallsForC.petasunok_split_key_removed_bytes κs i x e = refl
one_equation_c CallsForC.petasunok_split_value_removed_bytes κs i x e = refl
one_equation_c CallsForC.petasunok_repair κs i x e = refl
one_equation_c CallsForC.petasunok_totals_replace κs i x e = refl
one_equation_c CallsForC.petasunok_totals_replace_structs κs i x e = refl
