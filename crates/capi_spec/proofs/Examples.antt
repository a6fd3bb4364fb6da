-- Every call of C by examples, in the structs that C gets: one that is answered, and one where a byte names nothing. By computation.
-- Assumes nothing.
use Prim.Native.Nat.{ℕ}
use mathlib.Core.Path.{◌≡◌, refl}
use mathlib.Core.List.{List, [], ◌∷◌, ◌++◌}
use lib.ListN.{replicate}
use Rattle.fields_spec.specs.Big.{big, said_after}
use Rattle.fields_spec.specs.Varint.{groups, varint, high, value, found}
use Rattle.records_spec.specs.Tables.{records_of, epochs_of, counts_of, ascending, put, union, has, held}
use Rattle.records_spec.specs.Flags.{zeros, same, proper, lending}
use Rattle.codec_spec.specs.Bytes.{records_bytes, bytes_of}
use Rattle.codec_spec.specs.Reading.{next, parse, read_as, read}
use Rattle.codec_spec.specs.Calls.{serialized, size_of}
use Rattle.flags_spec.specs.Merging.{added}
use Rattle.flags_spec.specs.Calls.{handed_on, combined_added}
use Rattle.rows_spec.specs.Order.{order}
use Rattle.rows_spec.specs.Rows.{Tables, tables, ascends, ids_of, parts_of, rows_under, rows_of, proper_rows}
use Rattle.rows_spec.specs.Removals.{total_rows, any_bytes}
use Rattle.sums_spec.specs.Joins.{add_row}
use Rattle.sums_spec.specs.Sums.{any_of_zeros, without_zeros, basic_plus}
use Rattle.sums_spec.specs.Calls.{summed}
use Rattle.splitting_spec.specs.Sections.{spare, section, sections, split}
use Rattle.splitting_spec.specs.Calls.{split_key, split_value}
use Rattle.removal_spec.specs.Removing.{all_under, all_fine, minus, removed}
use Rattle.removal_spec.specs.Calls.{combined_removed, handed_on_beside}
use Rattle.totals_spec.specs.Table.{total_at, put_total, add_counts, take_counts, all_positive}
use Rattle.totals_spec.specs.Replacing.{covered, all_fit}
use Rattle.totals_spec.specs.Calls.{proper_table, replacing}
use Rattle.totals_index_spec.specs.Structs.{owners_of, total_epochs_of, totals_of, structs}
use Rattle.totals_index_spec.specs.Calls.{verdict, replacing_structs, placing_structs, beside}
use Rattle.records_spec.specs.Outcomes.{ok, leaving, after}
use Rattle.capi_spec.specs.Given.{holding_c, holding_rows_c}
use Rattle.totals_index_spec.specs.declared.structs.Total.{Total}
use Rattle.capi_spec.specs.Told.{flags_told, head_answer, count_told, truth_told, owner_told, owner_id_told, repair_answer, told_as, sum_answer}
use Rattle.capi_spec.specs.Told.{split_answer}
use Rattle.capi_spec.specs.Calls.{serialized_c, size_c, owner_c, combined_added_c, optional_combined_added_c, combined_removed_c}
use Rattle.capi_spec.specs.Calls.{optional_combined_removed_c, split_key_c, split_value_c, summed_c, has_removal_c, total_removed_c, totals_replaced_c}
use Rattle.capi_spec.specs.Calls.{structs_replaced_c, with_owner_c, base_c, owner_id_c, type_byte_c}
use Rattle.capi_spec.specs.declared.types.CHead.{CHead}
use Rattle.capi_spec.specs.declared.types.CFlags.{CFlags}
use Rattle.capi_spec.specs.declared.types.CCount.{CCount}
use Rattle.capi_spec.specs.declared.types.CRemoval.{CRemoval}

-- ---- what C gives and gets

-- unowned flags of a kind's byte, a base and a number of records
abbrev head : ℕ → ℕ → ℕ → CHead
head k b n = record { kind = k; base = b; owner = zeros; records = n }

-- an owner, and flags of theirs
abbrev sevens : List ℕ
sevens = replicate 32 7

abbrev theirs : ℕ → ℕ → ℕ → CHead
theirs k b n = record { kind = k; base = b; owner = sevens; records = n }

-- a removal by its kind's byte
abbrev removal : ℕ → ℕ → ℕ → CRemoval
removal k n m = record { kind = k; bytes = n; rows = m }

-- one row
abbrev one : List ℕ → ℕ → ℕ → Tables
one i e n = tables (i ∷ []) (e ∷ []) (n ∷ [])

-- an answered and a refused count
abbrev counts : ℕ → CCount
counts n = record { refusal = 0; count = n }

abbrev refuses : ℕ → CCount
refuses r = record { refusal = r; count = 0 }

-- answered and refused flags
abbrev answers : CHead → CFlags
answers h = record { refusal = 0; present = 1; head = h }

abbrev refuses_flags : ℕ → CFlags
refuses_flags r = record { refusal = r; present = 0; head = head 0 0 0 }

-- ---- writing, sizes and owners

pub writes :
    (told_as count_told (serialized_c (holding_c (head 1 5 1) (7 ∷ []) (300 ∷ [])) (replicate 8 9))
    ≡ after (counts 7) (1 ∷ 0 ∷ 5 ∷ 0 ∷ 7 ∷ 172 ∷ 2 ∷ 9 ∷ []))
    × (told_as count_told (serialized_c (holding_c (head 4 5 1) (7 ∷ []) (300 ∷ [])) (9 ∷ [])) ≡ after (refuses 11) (9 ∷ []))
unfolding serialized bytes_of records_bytes big groups varint records_of epochs_of counts_of ascending put union has held same proper leaving order ascends
    ids_of parts_of rows_under rows_of proper_rows
writes = (refl, refl)

pub sizes : (count_told (size_c (holding_c (head 1 5 1) (7 ∷ []) (300 ∷ []))) ≡ counts 7)
    × (count_told (size_c (holding_c (head 4 5 1) (7 ∷ []) (300 ∷ []))) ≡ refuses 11)
unfolding size_of bytes_of records_bytes big groups varint records_of epochs_of counts_of ascending put union has held same proper leaving order ascends
    ids_of parts_of rows_under rows_of proper_rows
sizes = (refl, refl)

-- the first encoding has an owner, and the second has none
pub owners :
    let x : List ℕ = 2 ∷ (sevens ++ (0 ∷ 5 ∷ [])) in
    let y : List ℕ = 0 ∷ 0 ∷ 5 ∷ [] in
    (owner_told (owner_c 0 x y) ≡ record { refusal = 0; which = 1 }) × (owner_told (owner_c 0 y x) ≡ record { refusal = 0; which = 2 })
    × (owner_told (owner_c 3 x y) ≡ record { refusal = 11; which = 0 })
unfolding read read_as parse next said_after high value found groups varint same
owners = (refl, refl, refl)

-- ---- merges

pub adds :
    (flags_told (combined_added_c (holding_c (head 0 5 0) [] []) (holding_c (head 0 6 0) [] []) 10 0 (lending (0 ∷ []) (0 ∷ [])))
    ≡ after (answers (head 1 5 1)) (lending (6 ∷ []) (10 ∷ [])))
    × (flags_told (combined_added_c (holding_c (head 0 5 0) [] []) (holding_c (head 0 6 0) [] []) 10 3 (lending (0 ∷ []) (0 ∷ [])))
    ≡ after (refuses_flags 11) (lending (0 ∷ []) (0 ∷ [])))
unfolding combined_added added records_of epochs_of counts_of ascending put union has held same proper leaving order ascends ids_of parts_of rows_under
    rows_of proper_rows
adds = (refl, refl)

-- absent flags are not looked at, and the others are handed on
pub adds_optional :
    (flags_told (optional_combined_added_c 0 (holding_c (head 9 0 0) [] []) (holding_c (head 0 6 0) [] []) 10 0 (lending (0 ∷ []) (0 ∷ [])))
    ≡ after (answers (head 0 6 0)) (lending (0 ∷ []) (0 ∷ [])))
    × (flags_told (optional_combined_added_c 1 (holding_c (head 9 0 0) [] []) (holding_c (head 0 6 0) [] []) 10 0 (lending (0 ∷ []) (0 ∷ [])))
    ≡ after (refuses_flags 11) (lending (0 ∷ []) (0 ∷ [])))
unfolding combined_added handed_on added records_of epochs_of counts_of ascending put union has held same proper leaving order ascends ids_of parts_of
    rows_under rows_of proper_rows
adds_optional = (refl, refl)

pub removes :
    (flags_told (combined_removed_c (holding_c (head 1 5 1) (7 ∷ []) (300 ∷ [])) (holding_c (head 0 9 0) [] [])
    (holding_rows_c (removal 2 0 1) (one zeros 7 100)) 0 (lending (0 ∷ []) (0 ∷ [])))
    ≡ after (answers (head 1 5 1)) (lending (7 ∷ []) (200 ∷ [])))
    × (flags_told (combined_removed_c (holding_c (head 1 5 1) (7 ∷ []) (300 ∷ [])) (holding_c (head 0 5 0) [] [])
    (holding_rows_c (removal 3 0 1) (one zeros 7 100)) 0 (lending (0 ∷ []) (0 ∷ [])))
    ≡ after (refuses_flags 11) (lending (0 ∷ []) (0 ∷ [])))
unfolding combined_removed removed all_under all_fine minus records_of epochs_of counts_of ascending put union has held same proper leaving order ascends
    ids_of parts_of rows_under rows_of proper_rows
removes = (refl, refl)

pub removes_optional :
    (flags_told (optional_combined_removed_c 0 (holding_c (head 9 5 0) [] []) (holding_c (head 0 6 0) [] [])
    (holding_rows_c (removal 2 0 1) (one zeros 7 100)) 0 (lending (0 ∷ []) (0 ∷ [])))
    ≡ after (answers (head 0 6 0)) (lending (0 ∷ []) (0 ∷ [])))
    × (flags_told (optional_combined_removed_c 1 (holding_c (head 9 5 0) [] []) (holding_c (head 0 6 0) [] [])
    (holding_rows_c (removal 2 0 1) (one zeros 7 100)) 0 (lending (0 ∷ []) (0 ∷ [])))
    ≡ after (refuses_flags 11) (lending (0 ∷ []) (0 ∷ [])))
unfolding combined_removed handed_on_beside removed all_under all_fine minus records_of epochs_of counts_of ascending put union has held same proper leaving
    order ascends ids_of parts_of rows_under rows_of proper_rows
removes_optional = (refl, refl)

-- ---- removals

pub splits_key :
    (told_as sum_answer (split_key_c (holding_c (head 1 5 1) (7 ∷ []) (300 ∷ [])) 4 (one [] 0 0))
    ≡ after (record { refusal = 0; removal = removal 2 0 1 }) (one zeros 5 4))
    × (told_as sum_answer (split_key_c (holding_c (head 4 5 1) (7 ∷ []) (300 ∷ [])) 4 (one [] 0 0))
    ≡ after (record { refusal = 11; removal = removal 0 0 0 }) (one [] 0 0))
unfolding split_key records_of epochs_of counts_of ascending put union has held same proper leaving order ascends ids_of parts_of rows_under rows_of
    proper_rows
splits_key = (refl, refl)

pub splits_value :
    (told_as split_answer (split_value_c (holding_c (head 1 5 1) (7 ∷ []) (300 ∷ [])) 10 (one [] 0 0))
    ≡ after (record { refusal = 0; removal = removal 2 0 1; visited = 1 }) (one zeros 7 10))
    × (told_as split_answer (split_value_c (holding_c (head 4 5 1) (7 ∷ []) (300 ∷ [])) 10 (one [] 0 0))
    ≡ after (record { refusal = 11; removal = removal 0 0 0; visited = 0 }) (one [] 0 0))
unfolding split_value split sections section spare records_of epochs_of counts_of ascending put union has held same proper leaving order ascends ids_of
    parts_of rows_under rows_of proper_rows
splits_value = (refl, refl)

-- a number and a row of the zero identifier: both are lost at version 0, and neither at version 1
pub sums :
    let t = tables ([] ∷ [] ∷ []) (0 ∷ 0 ∷ []) (0 ∷ 0 ∷ []) in
    (told_as sum_answer (summed_c 0 (holding_rows_c (removal 1 5 0) t) (holding_rows_c (removal 2 0 1) (one zeros 7 100)))
    ≡ after (record { refusal = 0; removal = removal 2 0 0 }) t)
    × (told_as sum_answer (summed_c 1 (holding_rows_c (removal 1 5 0) t) (holding_rows_c (removal 2 0 1) (one zeros 7 100)))
    ≡ after (record { refusal = 0; removal = removal 2 0 2 }) (tables (zeros ∷ zeros ∷ []) (7 ∷ 65535 ∷ []) (100 ∷ 5 ∷ [])))
    × (told_as sum_answer (summed_c 1 (holding_rows_c (removal 3 5 0) t) (holding_rows_c (removal 2 0 1) (one zeros 7 100)))
    ≡ after (record { refusal = 11; removal = removal 0 0 0 }) t)
unfolding summed add_row any_of_zeros without_zeros basic_plus records_of epochs_of counts_of ascending put union has held same proper leaving order ascends
    ids_of parts_of rows_under rows_of proper_rows
sums = (refl, refl, refl)

pub has_removal_lem :
    (truth_told (has_removal_c (holding_rows_c (removal 1 5 0) (tables [] [] []))) ≡ counts 1)
    × (truth_told (has_removal_c (holding_rows_c (removal 1 0 0) (tables [] [] []))) ≡ counts 0)
    × (truth_told (has_removal_c (holding_rows_c (removal 3 5 0) (tables [] [] []))) ≡ refuses 11)
unfolding any_bytes records_of epochs_of counts_of ascending put union has held same proper leaving order ascends ids_of parts_of rows_under rows_of
    proper_rows
has_removal_lem = (refl, refl, refl)

pub totals :
    (count_told (total_removed_c (holding_rows_c (removal 2 9 1) (one zeros 7 100))) ≡ counts 100)
    × (count_told (total_removed_c (holding_rows_c (removal 3 9 1) (one zeros 7 100))) ≡ refuses 11)
unfolding total_rows records_of epochs_of counts_of ascending put union has held same proper leaving order ascends ids_of parts_of rows_under rows_of
    proper_rows
totals = (refl, refl)

-- ---- changes of totals

-- absent flags are not looked at, and new ones make a row
pub replaces :
    (told_as count_told (totals_replaced_c 0 (one [] 0 0) 0 (holding_c (head 9 0 0) [] []) 1 (holding_c (theirs 3 5 1) (7 ∷ []) (300 ∷ [])))
    ≡ after (counts 1) (one sevens 7 300))
    × (told_as count_told (totals_replaced_c 0 (one [] 0 0) 1 (holding_c (head 9 0 0) [] []) 1 (holding_c (theirs 3 5 1) (7 ∷ []) (300 ∷ [])))
    ≡ after (refuses 11) (one [] 0 0))
unfolding replacing proper_table covered all_fit all_positive total_at put_total add_counts take_counts records_of epochs_of counts_of ascending put union has
    held same proper leaving order ascends ids_of parts_of rows_under rows_of proper_rows
replaces = (refl, refl)

pub replaces_structs :
    let ts : List Total = record { owner = []; epoch = 0; total = 0 } ∷ [] in
    (told_as count_told (structs_replaced_c 0 ts (one [] 0 0) 0 (holding_c (head 9 0 0) [] []) 1 (holding_c (theirs 3 5 1) (7 ∷ []) (300 ∷ [])))
    ≡ after (counts 1) (beside (record { owner = sevens; epoch = 7; total = 300 } ∷ []) (one sevens 7 300)))
    × (told_as count_told (structs_replaced_c 0 ts (one [] 0 0) 1 (holding_c (head 9 0 0) [] []) 1 (holding_c (theirs 3 5 1) (7 ∷ []) (300 ∷ [])))
    ≡ after (refuses 11) (beside ts (one [] 0 0)))
unfolding replacing_structs verdict placing_structs owners_of total_epochs_of totals_of structs replacing proper_table covered all_fit all_positive total_at
    put_total add_counts take_counts records_of epochs_of counts_of ascending put union has held same proper leaving order ascends ids_of parts_of rows_under
    rows_of proper_rows
replaces_structs = (refl, refl)

-- ---- the head alone

pub heads :
    (head_answer (with_owner_c (theirs 2 5 0) (record { bytes = zeros })) ≡ answers (head 2 5 0))
    × (head_answer (with_owner_c (theirs 4 5 0) (record { bytes = zeros })) ≡ refuses_flags 11)
    × (count_told (base_c (head 3 5 1)) ≡ counts 5) × (count_told (base_c (head 4 5 1)) ≡ refuses 11)
    × (count_told (type_byte_c (head 3 5 1)) ≡ counts 3) × (count_told (type_byte_c (head 4 5 1)) ≡ refuses 11)
heads = (refl, refl, refl, refl, refl, refl)

pub owner_ids :
    (owner_id_told (owner_id_c (theirs 2 5 0)) ≡ record { refusal = 0; present = 1; id = record { bytes = sevens } })
    × (owner_id_told (owner_id_c (theirs 0 5 0)) ≡ record { refusal = 0; present = 0; id = record { bytes = zeros } })
    × (owner_id_told (owner_id_c (theirs 4 5 0)) ≡ record { refusal = 11; present = 0; id = record { bytes = zeros } })
owner_ids = (refl, refl, refl)

-- ---- repairs

pub repairs : repair_answer (ok (record { bytes = 3; lines = 5 })) ≡ record { refusal = 0; bytes = 3; lines = 5 }
repairs = refl
