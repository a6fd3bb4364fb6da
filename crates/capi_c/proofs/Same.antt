-- WHAT C CALLS PROMISES WHAT THE TABLE OF THE CALLS FOR C SAYS: each export's contract is that of the function of `capi` under it, which stands
-- in the table (contracts/specs/CallsForC). By the contracts as they stand.
-- Assumes nothing.
use Prim.Native.Nat.{ℕ}
use mathlib.Core.Path.{◌≡◌, refl}
use mathlib.Core.List.{List}
use borrow.Fn.Kinds.{ParamKind, ResultKind, Out}
use Rattle.capi.proofs.petasunok_deserialize.Kinds as deserialize_kinds
use Rattle.capi.proofs.petasunok_deserialize.Reads as deserialize_below
use Rattle.capi_c.proofs.reading.petasunok_deserialize.Reads as deserialize_here
use Rattle.capi.proofs.petasunok_deserialize_single_epoch.Kinds as deserialize_single_epoch_kinds
use Rattle.capi.proofs.petasunok_deserialize_single_epoch.Reads as deserialize_single_epoch_below
use Rattle.capi_c.proofs.reading.petasunok_deserialize_single_epoch.Reads as deserialize_single_epoch_here
use Rattle.capi.proofs.petasunok_deserialize_multi_epoch.Kinds as deserialize_multi_epoch_kinds
use Rattle.capi.proofs.petasunok_deserialize_multi_epoch.Reads as deserialize_multi_epoch_below
use Rattle.capi_c.proofs.reading.petasunok_deserialize_multi_epoch.Reads as deserialize_multi_epoch_here
use Rattle.capi.proofs.petasunok_deserialize_single_epoch_owned.Kinds as deserialize_single_epoch_owned_kinds
use Rattle.capi.proofs.petasunok_deserialize_single_epoch_owned.Reads as deserialize_single_epoch_owned_below
use Rattle.capi_c.proofs.reading.petasunok_deserialize_single_epoch_owned.Reads as deserialize_single_epoch_owned_here
use Rattle.capi.proofs.petasunok_deserialize_multi_epoch_owned.Kinds as deserialize_multi_epoch_owned_kinds
use Rattle.capi.proofs.petasunok_deserialize_multi_epoch_owned.Reads as deserialize_multi_epoch_owned_below
use Rattle.capi_c.proofs.reading.petasunok_deserialize_multi_epoch_owned.Reads as deserialize_multi_epoch_owned_here
use Rattle.capi.proofs.petasunok_serialize.Kinds as serialize_kinds
use Rattle.capi.proofs.petasunok_serialize.Reads as serialize_below
use Rattle.capi_c.proofs.writing.petasunok_serialize.Reads as serialize_here
use Rattle.capi.proofs.petasunok_serialized_size.Kinds as serialized_size_kinds
use Rattle.capi.proofs.petasunok_serialized_size.Reads as serialized_size_below
use Rattle.capi_c.proofs.writing.petasunok_serialized_size.Reads as serialized_size_here
use Rattle.capi.proofs.petasunok_approximate_size.Kinds as approximate_size_kinds
use Rattle.capi.proofs.petasunok_approximate_size.Reads as approximate_size_below
use Rattle.capi_c.proofs.writing.petasunok_approximate_size.Reads as approximate_size_here
use Rattle.capi.proofs.petasunok_new_single_epoch.Kinds as new_single_epoch_kinds
use Rattle.capi.proofs.petasunok_new_single_epoch.Reads as new_single_epoch_below
use Rattle.capi_c.proofs.heads.petasunok_new_single_epoch.Reads as new_single_epoch_here
use Rattle.capi.proofs.petasunok_set_owner_id.Kinds as set_owner_id_kinds
use Rattle.capi.proofs.petasunok_set_owner_id.Reads as set_owner_id_below
use Rattle.capi_c.proofs.heads.petasunok_set_owner_id.Reads as set_owner_id_here
use Rattle.capi.proofs.petasunok_base_epoch.Kinds as base_epoch_kinds
use Rattle.capi.proofs.petasunok_base_epoch.Reads as base_epoch_below
use Rattle.capi_c.proofs.heads.petasunok_base_epoch.Reads as base_epoch_here
use Rattle.capi.proofs.petasunok_owner_id.Kinds as owner_id_kinds
use Rattle.capi.proofs.petasunok_owner_id.Reads as owner_id_below
use Rattle.capi_c.proofs.heads.petasunok_owner_id.Reads as owner_id_here
use Rattle.capi.proofs.petasunok_type_byte.Kinds as type_byte_kinds
use Rattle.capi.proofs.petasunok_type_byte.Reads as type_byte_below
use Rattle.capi_c.proofs.heads.petasunok_type_byte.Reads as type_byte_here
use Rattle.capi.proofs.petasunok_combine_owner_id.Kinds as combine_owner_id_kinds
use Rattle.capi.proofs.petasunok_combine_owner_id.Reads as combine_owner_id_below
use Rattle.capi_c.proofs.owners.petasunok_combine_owner_id.Reads as combine_owner_id_here
use Rattle.capi.proofs.petasunok_combine_added_bytes.Kinds as combine_added_bytes_kinds
use Rattle.capi.proofs.petasunok_combine_added_bytes.Reads as combine_added_bytes_below
use Rattle.capi_c.proofs.adding.petasunok_combine_added_bytes.Reads as combine_added_bytes_here
use Rattle.capi.proofs.petasunok_optional_combine_added_bytes.Kinds as optional_combine_added_bytes_kinds
use Rattle.capi.proofs.petasunok_optional_combine_added_bytes.Reads as optional_combine_added_bytes_below
use Rattle.capi_c.proofs.adding.petasunok_optional_combine_added_bytes.Reads as optional_combine_added_bytes_here
use Rattle.capi.proofs.petasunok_combine_removed_bytes.Kinds as combine_removed_bytes_kinds
use Rattle.capi.proofs.petasunok_combine_removed_bytes.Reads as combine_removed_bytes_below
use Rattle.capi_c.proofs.removing.petasunok_combine_removed_bytes.Reads as combine_removed_bytes_here
use Rattle.capi.proofs.petasunok_optional_combine_removed_bytes.Kinds as optional_combine_removed_bytes_kinds
use Rattle.capi.proofs.petasunok_optional_combine_removed_bytes.Reads as optional_combine_removed_bytes_below
use Rattle.capi_c.proofs.removing.petasunok_optional_combine_removed_bytes.Reads as optional_combine_removed_bytes_here
use Rattle.capi.proofs.petasunok_has_removal.Kinds as has_removal_kinds
use Rattle.capi.proofs.petasunok_has_removal.Reads as has_removal_below
use Rattle.capi_c.proofs.removals.petasunok_has_removal.Reads as has_removal_here
use Rattle.capi.proofs.petasunok_total_removed_bytes.Kinds as total_removed_bytes_kinds
use Rattle.capi.proofs.petasunok_total_removed_bytes.Reads as total_removed_bytes_below
use Rattle.capi_c.proofs.removals.petasunok_total_removed_bytes.Reads as total_removed_bytes_here
use Rattle.capi.proofs.petasunok_add_assign.Kinds as add_assign_kinds
use Rattle.capi.proofs.petasunok_add_assign.Reads as add_assign_below
use Rattle.capi_c.proofs.removals.petasunok_add_assign.Reads as add_assign_here
use Rattle.capi.proofs.petasunok_split_key_removed_bytes.Kinds as split_key_removed_bytes_kinds
use Rattle.capi.proofs.petasunok_split_key_removed_bytes.Reads as split_key_removed_bytes_below
use Rattle.capi_c.proofs.removals.petasunok_split_key_removed_bytes.Reads as split_key_removed_bytes_here
use Rattle.capi.proofs.petasunok_split_value_removed_bytes.Kinds as split_value_removed_bytes_kinds
use Rattle.capi.proofs.petasunok_split_value_removed_bytes.Reads as split_value_removed_bytes_below
use Rattle.capi_c.proofs.removals.petasunok_split_value_removed_bytes.Reads as split_value_removed_bytes_here
use Rattle.capi.proofs.petasunok_repair.Kinds as repair_kinds
use Rattle.capi.proofs.petasunok_repair.Reads as repair_below
use Rattle.capi_c.proofs.repairing.petasunok_repair.Reads as repair_here
use Rattle.capi.proofs.petasunok_totals_replace.Kinds as totals_replace_kinds
use Rattle.capi.proofs.petasunok_totals_replace.Reads as totals_replace_below
use Rattle.capi_c.proofs.replacing.petasunok_totals_replace.Reads as totals_replace_here
use Rattle.capi.proofs.petasunok_totals_replace_structs.Kinds as totals_replace_structs_kinds
use Rattle.capi.proofs.petasunok_totals_replace_structs.Reads as totals_replace_structs_below
use Rattle.capi_c.proofs.structs.petasunok_totals_replace_structs.Reads as totals_replace_structs_here

-- two contracts over the same parameters and result are one
abbrev pub Same : {n : ℕ} (ps : List (ParamKind n)) (r : ResultKind n) → Out n ps r → Out n ps r → Type 1
Same {n} ps r a b = ◌≡◌ {A = Out n ps r} a b

pub deserialize_same : Same deserialize_kinds.ps deserialize_kinds.r deserialize_here.Learnt deserialize_below.Learnt
deserialize_same = refl

pub deserialize_single_epoch_same
    : Same deserialize_single_epoch_kinds.ps deserialize_single_epoch_kinds.r
    deserialize_single_epoch_here.Learnt deserialize_single_epoch_below.Learnt
deserialize_single_epoch_same = refl

pub deserialize_multi_epoch_same
    : Same deserialize_multi_epoch_kinds.ps deserialize_multi_epoch_kinds.r deserialize_multi_epoch_here.Learnt deserialize_multi_epoch_below.Learnt
deserialize_multi_epoch_same = refl

pub deserialize_single_epoch_owned_same
    : Same deserialize_single_epoch_owned_kinds.ps deserialize_single_epoch_owned_kinds.r
    deserialize_single_epoch_owned_here.Learnt deserialize_single_epoch_owned_below.Learnt
deserialize_single_epoch_owned_same = refl

pub deserialize_multi_epoch_owned_same
    : Same deserialize_multi_epoch_owned_kinds.ps deserialize_multi_epoch_owned_kinds.r
    deserialize_multi_epoch_owned_here.Learnt deserialize_multi_epoch_owned_below.Learnt
deserialize_multi_epoch_owned_same = refl

pub serialize_same : Same serialize_kinds.ps serialize_kinds.r serialize_here.Learnt serialize_below.Learnt
serialize_same = refl

pub serialized_size_same : Same serialized_size_kinds.ps serialized_size_kinds.r serialized_size_here.Learnt serialized_size_below.Learnt
serialized_size_same = refl

pub approximate_size_same : Same approximate_size_kinds.ps approximate_size_kinds.r approximate_size_here.Learnt approximate_size_below.Learnt
approximate_size_same = refl

pub new_single_epoch_same : Same new_single_epoch_kinds.ps new_single_epoch_kinds.r new_single_epoch_here.Learnt new_single_epoch_below.Learnt
new_single_epoch_same = refl

pub set_owner_id_same : Same set_owner_id_kinds.ps set_owner_id_kinds.r set_owner_id_here.Learnt set_owner_id_below.Learnt
set_owner_id_same = refl

pub base_epoch_same : Same base_epoch_kinds.ps base_epoch_kinds.r base_epoch_here.Learnt base_epoch_below.Learnt
base_epoch_same = refl

pub owner_id_same : Same owner_id_kinds.ps owner_id_kinds.r owner_id_here.Learnt owner_id_below.Learnt
owner_id_same = refl

pub type_byte_same : Same type_byte_kinds.ps type_byte_kinds.r type_byte_here.Learnt type_byte_below.Learnt
type_byte_same = refl

pub combine_owner_id_same : Same combine_owner_id_kinds.ps combine_owner_id_kinds.r combine_owner_id_here.Learnt combine_owner_id_below.Learnt
combine_owner_id_same = refl

pub combine_added_bytes_same
    : Same combine_added_bytes_kinds.ps combine_added_bytes_kinds.r combine_added_bytes_here.Learnt combine_added_bytes_below.Learnt
combine_added_bytes_same = refl

pub optional_combine_added_bytes_same
    : Same optional_combine_added_bytes_kinds.ps optional_combine_added_bytes_kinds.r
    optional_combine_added_bytes_here.Learnt optional_combine_added_bytes_below.Learnt
optional_combine_added_bytes_same = refl

pub combine_removed_bytes_same
    : Same combine_removed_bytes_kinds.ps combine_removed_bytes_kinds.r combine_removed_bytes_here.Learnt combine_removed_bytes_below.Learnt
combine_removed_bytes_same = refl

pub optional_combine_removed_bytes_same
    : Same optional_combine_removed_bytes_kinds.ps optional_combine_removed_bytes_kinds.r
    optional_combine_removed_bytes_here.Learnt optional_combine_removed_bytes_below.Learnt
optional_combine_removed_bytes_same = refl

pub has_removal_same : Same has_removal_kinds.ps has_removal_kinds.r has_removal_here.Learnt has_removal_below.Learnt
has_removal_same = refl

pub total_removed_bytes_same
    : Same total_removed_bytes_kinds.ps total_removed_bytes_kinds.r total_removed_bytes_here.Learnt total_removed_bytes_below.Learnt
total_removed_bytes_same = refl

pub add_assign_same : Same add_assign_kinds.ps add_assign_kinds.r add_assign_here.Learnt add_assign_below.Learnt
add_assign_same = refl

pub split_key_removed_bytes_same
    : Same split_key_removed_bytes_kinds.ps split_key_removed_bytes_kinds.r split_key_removed_bytes_here.Learnt split_key_removed_bytes_below.Learnt
split_key_removed_bytes_same = refl

pub split_value_removed_bytes_same
    : Same split_value_removed_bytes_kinds.ps split_value_removed_bytes_kinds.r
    split_value_removed_bytes_here.Learnt split_value_removed_bytes_below.Learnt
split_value_removed_bytes_same = refl

pub repair_same : Same repair_kinds.ps repair_kinds.r repair_here.Learnt repair_below.Learnt
repair_same = refl

pub totals_replace_same : Same totals_replace_kinds.ps totals_replace_kinds.r totals_replace_here.Learnt totals_replace_below.Learnt
totals_replace_same = refl

pub totals_replace_structs_same
    : Same totals_replace_structs_kinds.ps totals_replace_structs_kinds.r totals_replace_structs_here.Learnt totals_replace_structs_below.Learnt
totals_replace_structs_same = refl
