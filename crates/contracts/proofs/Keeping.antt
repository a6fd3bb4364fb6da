-- A REFUSAL'S ANSWER IS ITS NUMBER ALONE, AND WHAT WAS LENT IS AS IT CAME, of each public call. By the laws, since each definition is made by
-- `leaving`.
-- Assumes nothing.
use mathlib.Core.Path.{◌≡◌, refl, sym, ap, ◌∙◌}
use mathlib.Core.Bool.{true, ◌&&◌}
use Prim.Native.Nat.{ℕ}
use Rattle.records_spec.specs.Refusals.{number}
use Rattle.records_spec.specs.declared.refusal.Refusal.{Refusal}
use Rattle.std.specs.Prelude.{List, Option, None, Some, Result, Ok, Err}
use Rattle.records_spec.specs.Outcomes.{answered, ok}
use Rattle.records_spec.specs.Answers.{placing_if, writing}
use Rattle.codec_spec.specs.Calls.{serialized}
use Rattle.flags_spec.specs.Calls.{handed_on, combined_added}
use Rattle.flags_spec.specs.declared.owners.Choice.{Choice}
use Rattle.flags_spec.specs.declared.owners.Choice.TheVariants.{Ours, Theirs, Neither}
use Rattle.rows_spec.specs.Calls.{told_removal}
use Rattle.sums_spec.specs.Calls.{summed}
use Rattle.splitting_spec.specs.Calls.{told_split, split_key, split_value}
use Rattle.removal_spec.specs.Calls.{combined_removed, handed_on_beside}
use Rattle.repair_spec.specs.Calls.{placing_repair}
use Rattle.totals_spec.specs.Calls.{replacing}
use Rattle.totals_index_spec.specs.Calls.{placing_structs, replacing_structs}
use Rattle.rows_spec.specs.Rows.{tables}
use Rattle.capi_spec.specs.Given.{is_true, is_kind, is_removal, can_merge, can_replace, holding_c, holding_rows_c}
use Rattle.capi_spec.specs.Calls.{size_c, with_owner_c, base_c, owner_id_c, type_byte_c, owner_c, has_removal_c, total_removed_c}
use Rattle.capi_spec.specs.Told.{head_answer, count_told, truth_told, owner_told, owner_id_told, sum_answer, split_answer, repair_answer}
use Rattle.capi_spec.specs.declared.types.CFlags.{CFlags}
use Rattle.capi_spec.specs.declared.types.CCount.{CCount}
use Rattle.capi_spec.specs.declared.types.COwner.{COwner}
use Rattle.capi_spec.specs.declared.types.CMaybeOwner.{CMaybeOwner}
use Rattle.capi_spec.specs.declared.types.CSum.{CSum}
use Rattle.capi_spec.specs.declared.types.CValueSplit.{CValueSplit}
use Rattle.capi_spec.specs.declared.types.CRepaired.{CRepaired}
use Rattle.contracts.specs.Contract.{Keeps, begun}
use Rattle.contracts.specs.Calls
use Rattle.contracts.specs.Calls.{PublicCall, contract}
use Rattle.contracts.specs.CallsForC
use Rattle.contracts.specs.CallsForC.{CallForC, contract_c}
use Rattle.contracts.proofs.Laws.{leaving_kept, either_kept, named_kept, told_keeps, told_keeps_with, flags_keeps}
use Rattle.contracts.proofs.Laws.{c_keeps, c_keeps_with, c_flags_keep}

pub keeps : (c : PublicCall) → Keeps (contract c)
unfolding placing_if writing serialized handed_on combined_added combined_removed handed_on_beside summed split_key split_value placing_repair replacing
    replacing_structs placing_structs
keeps Calls.deserialize κs i x e p h = flags_keeps x _ _ _ (leaving_kept _ _) p h
keeps Calls.deserialize_single_epoch κs i x e p h = flags_keeps x _ _ _ (leaving_kept _ _) p h
keeps Calls.deserialize_multi_epoch κs i x e p h = flags_keeps x _ _ _ (leaving_kept _ _) p h
keeps Calls.deserialize_single_epoch_owned κs i x e p h = flags_keeps x _ _ _ (leaving_kept _ _) p h
keeps Calls.deserialize_multi_epoch_owned κs i x e p h = flags_keeps x _ _ _ (leaving_kept _ _) p h
keeps Calls.judge κs i x e p h = absurd (h refl)
keeps Calls.judge_as κs i x e p h = absurd (h refl)
keeps Calls.list κs i x e p h = told_keeps_with answered x _ _ _ (leaving_kept _ _) p h
keeps Calls.serialize κs i x e p h = told_keeps_with answered x _ _ _ (leaving_kept _ _) p h
keeps Calls.serialized_size κs i x e p h = (told_keeps answered x h, refl)
keeps Calls.approximate_size κs i x e p h = absurd (h refl)
keeps Calls.new_single_epoch κs i x e p h = absurd (h refl)
keeps Calls.set_owner_id κs i x e p h = absurd (h refl)
keeps Calls.base_epoch κs i x e p h = absurd (h refl)
keeps Calls.owner_id κs i x e p h = absurd (h refl)
keeps Calls.type_byte κs i x e p h = absurd (h refl)
keeps Calls.choose_owner κs i x e p h = absurd (h refl)
keeps Calls.combine_owners κs i x e p h = (told_keeps answered x h, refl)
keeps Calls.combine_owner_id κs i x e p h = absurd (h refl)
keeps Calls.choose_owner_id κs i x e p h = absurd (h refl)
keeps Calls.combine_added_bytes κs i x e p h = flags_keeps x _ _ _ (leaving_kept _ _) p h
keeps Calls.optional_combine_added_bytes κs i x e p h = flags_keeps x _ _ _ (either_kept _ i.0 _ _ (leaving_kept _ _) (leaving_kept _ _)) p h
keeps Calls.combine_removed_bytes κs i x e p h = flags_keeps x _ _ _ (leaving_kept _ _) p h
keeps Calls.optional_combine_removed_bytes κs i x e p h = flags_keeps x _ _ _ (either_kept _ i.0 _ _ (leaving_kept _ _) (leaving_kept _ _)) p h
keeps Calls.has_removal κs i x e p h = (told_keeps answered x h, refl)
keeps Calls.total_removed_bytes κs i x e p h = (told_keeps answered x h, refl)
keeps Calls.add_assign κs i x e p h = told_keeps_with told_removal x _ _ _ (leaving_kept _ _) p h
keeps Calls.split_key_removed_bytes κs i x e p h = told_keeps_with told_removal x _ _ _ (leaving_kept _ _) p h
keeps Calls.split_value_removed_bytes κs i x e p h = told_keeps_with told_split x _ _ _ (leaving_kept _ _) p h
keeps Calls.repair κs i x e p h = told_keeps_with answered x _ _ _ (leaving_kept _ _) p h
keeps Calls.totals_replace κs i x e p h = told_keeps_with answered x _ _ _ (leaving_kept _ _) p h
keeps Calls.totals_replace_structs κs i x e p h = told_keeps_with answered x _ _ _ (leaving_kept _ _) p h

-- a choice of owners as C gets it
choice_keeps : (x : COwner) (c : Result Choice Refusal) → x ≡ owner_told c → (x.refusal ≡ 0 → ⊥) → x ≡ record { refusal = x.refusal; which = 0 }
choice_keeps x (Ok Ours) e h = absurd (h (ap (λ (a : COwner). a.refusal) e))
choice_keeps x (Ok Theirs) e h = absurd (h (ap (λ (a : COwner). a.refusal) e))
choice_keeps x (Ok Neither) e h = absurd (h (ap (λ (a : COwner). a.refusal) e))
choice_keeps x (Err r) e h =
    let z : x.refusal ≡ number r = ap (λ (a : COwner). a.refusal) e in
    e ∙ ap (λ (n : ℕ). record { refusal = n; which = 0 }) (sym z)

-- an owner that is answered, or none, has no refusal's number
owner_id_number : (o : Option (List ℕ)) → (owner_id_told (ok o)).refusal ≡ 0
owner_id_number None = refl
owner_id_number (Some o) = refl

pub keeps_c : (c : CallForC) → Keeps (contract_c c)
unfolding placing_if writing serialized handed_on combined_added combined_removed handed_on_beside summed split_key split_value placing_repair replacing
    replacing_structs placing_structs
keeps_c CallsForC.petasunok_deserialize κs i x e p h = c_flags_keep x _ _ _ (leaving_kept _ _) p h
keeps_c CallsForC.petasunok_deserialize_single_epoch κs i x e p h = c_flags_keep x _ _ _ (leaving_kept _ _) p h
keeps_c CallsForC.petasunok_deserialize_multi_epoch κs i x e p h = c_flags_keep x _ _ _ (leaving_kept _ _) p h
keeps_c CallsForC.petasunok_deserialize_single_epoch_owned κs i x e p h = c_flags_keep x _ _ _ (leaving_kept _ _) p h
keeps_c CallsForC.petasunok_deserialize_multi_epoch_owned κs i x e p h = c_flags_keep x _ _ _ (leaving_kept _ _) p h
keeps_c CallsForC.petasunok_serialize κs i x e p h =
    c_keeps_with count_told (λ (a : CCount). a.refusal) (λ a. refl) (λ n. refl) x _ _ _ (named_kept _ (is_kind i.0.kind) _ (leaving_kept _ _)) p h
keeps_c CallsForC.petasunok_serialized_size κs i x e p h =
    let answer = begun κs (contract_c CallsForC.petasunok_serialized_size).params
    (λ flags epochs counts. size_c (holding_c flags epochs.now counts.now)) i in
    (c_keeps count_told (λ (a : CCount). a.refusal) (λ a. refl) (λ n. refl) x answer p h, refl)
keeps_c CallsForC.petasunok_approximate_size κs i x e p h = absurd (h refl)
keeps_c CallsForC.petasunok_new_single_epoch κs i x e p h = absurd (h refl)
keeps_c CallsForC.petasunok_set_owner_id κs i x e p h =
    (c_keeps head_answer (λ (a : CFlags). a.refusal) (λ a. refl) (λ n. refl) x (with_owner_c i.0 i.1.0) p h, refl)
keeps_c CallsForC.petasunok_base_epoch κs i x e p h =
    (c_keeps count_told (λ (a : CCount). a.refusal) (λ a. refl) (λ n. refl) x (base_c i.0) p h, refl)
keeps_c CallsForC.petasunok_owner_id κs i x e p h =
    (c_keeps owner_id_told (λ (a : CMaybeOwner). a.refusal) owner_id_number (λ n. refl) x (owner_id_c i.0) p h, refl)
keeps_c CallsForC.petasunok_type_byte κs i x e p h =
    (c_keeps count_told (λ (a : CCount). a.refusal) (λ a. refl) (λ n. refl) x (type_byte_c i.0) p h, refl)
keeps_c CallsForC.petasunok_combine_owner_id κs i x e p h = (choice_keeps x (owner_c i.1.1.0 i.0.now i.1.0.now) p h, refl)
keeps_c CallsForC.petasunok_combine_added_bytes κs i x e p h =
    let named = begun κs (contract_c CallsForC.petasunok_combine_added_bytes).params
    (λ ours _ _ theirs _ _ _ strategy _ _. can_merge true ours theirs strategy) i in
    c_flags_keep x _ _ _ (named_kept _ named _ (leaving_kept _ _)) p h
keeps_c CallsForC.petasunok_optional_combine_added_bytes κs i x e p h =
    let named = begun κs (contract_c CallsForC.petasunok_optional_combine_added_bytes).params
    (λ present ours _ _ theirs _ _ _ strategy _ _. can_merge (is_true present) ours theirs strategy) i in
    c_flags_keep x _ _ _ (named_kept _ named _ (either_kept _ (is_true i.0) _ _ (leaving_kept _ _) (leaving_kept _ _))) p h
keeps_c CallsForC.petasunok_combine_removed_bytes κs i x e p h =
    let named = begun κs (contract_c CallsForC.petasunok_combine_removed_bytes).params
    (λ ours _ _ theirs _ _ removal _ _ _ strategy _ _. can_merge true ours theirs strategy && is_removal removal.kind) i in
    c_flags_keep x _ _ _ (named_kept _ named _ (leaving_kept _ _)) p h
keeps_c CallsForC.petasunok_optional_combine_removed_bytes κs i x e p h =
    let named = begun κs (contract_c CallsForC.petasunok_optional_combine_removed_bytes).params
    (λ present ours _ _ theirs _ _ removal _ _ _ strategy _ _. can_merge (is_true present) ours theirs strategy && is_removal removal.kind) i in
    c_flags_keep x _ _ _ (named_kept _ named _ (either_kept _ (is_true i.0) _ _ (leaving_kept _ _) (leaving_kept _ _))) p h
keeps_c CallsForC.petasunok_has_removal κs i x e p h =
    let answer = begun κs (contract_c CallsForC.petasunok_has_removal).params
    (λ removal ids epochs bytes. has_removal_c (holding_rows_c removal (tables ids.now epochs.now bytes.now))) i in
    (c_keeps truth_told (λ (a : CCount). a.refusal) (λ a. refl) (λ n. refl) x answer p h, refl)
keeps_c CallsForC.petasunok_total_removed_bytes κs i x e p h =
    let answer = begun κs (contract_c CallsForC.petasunok_total_removed_bytes).params
    (λ removal ids epochs bytes. total_removed_c (holding_rows_c removal (tables ids.now epochs.now bytes.now))) i in
    (c_keeps count_told (λ (a : CCount). a.refusal) (λ a. refl) (λ n. refl) x answer p h, refl)
keeps_c CallsForC.petasunok_add_assign κs i x e p h =
    let named = begun κs (contract_c CallsForC.petasunok_add_assign).params
    (λ lhs _ _ _ rhs _ _ _ _. is_removal lhs.kind && is_removal rhs.kind) i in
    c_keeps_with sum_answer (λ (a : CSum). a.refusal) (λ a. refl) (λ n. refl) x _ _ _ (named_kept _ named _ (leaving_kept _ _)) p h
keeps_c CallsForC.petasunok_split_key_removed_bytes κs i x e p h =
    c_keeps_with sum_answer (λ (a : CSum). a.refusal) (λ a. refl) (λ n. refl) x _ _ _ (named_kept _ (is_kind i.0.kind) _ (leaving_kept _ _)) p h
keeps_c CallsForC.petasunok_split_value_removed_bytes κs i x e p h =
    c_keeps_with split_answer (λ (a : CValueSplit). a.refusal) (λ a. refl) (λ n. refl) x _ _ _
    (named_kept _ (is_kind i.0.kind) _ (leaving_kept _ _)) p h
keeps_c CallsForC.petasunok_repair κs i x e p h =
    c_keeps_with repair_answer (λ (a : CRepaired). a.refusal) (λ a. refl) (λ n. refl) x _ _ _ (leaving_kept _ _) p h
keeps_c CallsForC.petasunok_totals_replace κs i x e p h =
    let named = begun κs (contract_c CallsForC.petasunok_totals_replace).params
    (λ _ _ _ _ old_present old_flags _ _ new_present new_flags _ _. can_replace old_present old_flags new_present new_flags) i in
    c_keeps_with count_told (λ (a : CCount). a.refusal) (λ a. refl) (λ n. refl) x _ _ _ (named_kept _ named _ (leaving_kept _ _)) p h
keeps_c CallsForC.petasunok_totals_replace_structs κs i x e p h =
    let named = begun κs (contract_c CallsForC.petasunok_totals_replace_structs).params
    (λ _ _ _ _ _ old_present old_flags _ _ new_present new_flags _ _. can_replace old_present old_flags new_present new_flags) i in
    c_keeps_with count_told (λ (a : CCount). a.refusal) (λ a. refl) (λ n. refl) x _ _ _ (named_kept _ named _ (leaving_kept _ _)) p h
