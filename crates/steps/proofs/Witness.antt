-- The premises of demand 3 can be met: two owned histories on {7:10, 9:5} above base 5, with tables, rows and output as long as they must be.
-- In one 8 bytes are added at 9 and 15 removed, in six steps with each strategy; so it refunds like one removal of 7. The other is at the limits:
-- 4,294,967,290 added, a removal of 4,294,967,295 and one more; it refunds like one removal of 4,294,967,295. By computation.
-- Assumes nothing.
use mathlib.Core.Path.{◌≡◌, refl}
use mathlib.Core.Logic.{inl, inr}
use Rattle.std.specs.Prelude.{Option, None, Some}
use mathlib.Core.List.{List, [], ◌∷◌, ◌++◌, map}
use Prim.Native.Nat.{ℕ, ◌≤◌, ◌<◌}
use native.Mathlib.Omega.{arith}
use lib.ListN.{replicate}
use Rattle.fields_spec.specs.Big.{big}
use Rattle.fields_spec.specs.Varint.{largest, groups, varint}
use Rattle.records_spec.specs.Tables.{◌⦂◌, records_of, epochs_of, counts_of, ascending, has, held, put, union}
use Rattle.records_spec.specs.Flags.{Flags, flags, same, head_of, proper, flags_of, Held, holding, lending}
use Rattle.codec_spec.specs.Bytes.{records_bytes, bytes_of}
use Rattle.flags_spec.specs.Merging.{added}
use Rattle.flags_spec.specs.Calls.{combined_added}
use Rattle.records_spec.specs.Outcomes.{refused, Answer, ok, leaving}
use Rattle.flags_spec.specs.declared.owners.MergingOwnersStrategy.{MergingOwnersStrategy}
use Rattle.flags_spec.specs.declared.owners.MergingOwnersStrategy.TheVariants.{RaiseIssue, UseOurs, UseTheirs}
use Rattle.rows_spec.specs.Order.{order}
use Rattle.rows_spec.specs.Rows.{ascends, ids_of, parts_of, rows_under, Tables, tables, rows_of, proper_rows}
use Rattle.splitting_spec.specs.Sections.{spare, section, sections, split}
use Rattle.splitting_spec.specs.Calls.{split_value}
use Rattle.removal_spec.specs.Removing.{all_under, all_fine, minus, removed}
use Rattle.removal_spec.specs.Calls.{combined_removed}
use Rattle.steps.specs.History.{Edit, Step, add, remove, State, state, step, run, all_added, all_removed, refund_at}
use Rattle.steps.specs.Demand.{Single, Adds, Removes, Premises, Refunds}
use Rattle.steps.proofs.SmallSteps.{small_steps}

abbrev owner : Option (List ℕ)
owner = Some (replicate 32 1)

-- flags in tables that just hold them
abbrev exactly : Flags → Held
exactly f = holding (head_of f) (epochs_of f.records) (counts_of f.records)

abbrev start : Held
start = exactly (flags 5 owner (7 ⦂ 10 ∷ 9 ⦂ 5 ∷ []))

-- room for n rows
abbrev room : ℕ → Tables
room n = tables (replicate n []) (replicate n 0) (replicate n 0)

-- incoming flags of an owner or none, at an epoch; a strategy; an amount; room for two records and three rows
abbrev edit : Option (List ℕ) → ℕ → MergingOwnersStrategy → ℕ → Edit
edit o e s n =
    record { incoming = exactly (flags e o []); strategy = s; amount = n; out = lending (replicate 2 0) (replicate 2 0); row_tables = room 3 }

abbrev firsts : List Step
firsts = add (edit None 9 UseTheirs 5) ∷ remove (edit owner 6 RaiseIssue 3) ∷ add (edit owner 9 RaiseIssue 3) ∷ remove
    (edit None 65535 UseOurs 5) ∷ []

abbrev laters : List Step
laters = remove (edit None 9 RaiseIssue 1) ∷ remove (edit owner 7 UseOurs 6) ∷ []

abbrev one : Edit
one = edit None 12 RaiseIssue 7

-- incoming flags without an owner, and with ours
unowned : (e : ℕ) → Single start (exactly (flags e None []))
unfolding proper ascending epochs_of counts_of
unowned e = record { are_proper = refl; kind_0_or_2 = refl; no_owner_or_ours = inl refl }

ours : (e : ℕ) → Single start (exactly (flags e owner []))
unfolding proper ascending epochs_of counts_of
ours e = record { are_proper = refl; kind_0_or_2 = refl; no_owner_or_ours = inr refl }

-- additions and removals with incoming flags like these
adds : (o : Option (List ℕ)) (s : MergingOwnersStrategy) (n : ℕ) → Single start (exactly (flags 9 o [])) → Adds start 9 (edit o 9 s n)
adds o s n i = record { single = i; at_e = refl; record_room = record { epochs_long = omega arith; counts_long = omega arith } }

removes : (o : Option (List ℕ)) (e : ℕ) (s : MergingOwnersStrategy) (n : ℕ) → Single start (exactly (flags e o [])) → 5 < e → n ≤ largest
    → Removes start (edit o e s n)
removes o e s n i p q =
    record {
      single = i;
      above_our_base = p;
      at_most = q;
      record_room = record { epochs_long = omega arith; counts_long = omega arith };
      row_room = record { ids_long = omega arith; epochs_long = omega arith; bytes_long = omega arith };
    }

-- THE PREMISES ARE MET
met : Premises start 9 5 firsts laters one (replicate 41 0)
unfolding proper ascending epochs_of counts_of records_of all_added all_removed bytes_of records_bytes big varint groups
met =
    record {
      canonical = refl;
      earlier = 7 ⦂ 10 ∷ [];
      latest = refl;
      four_or_more = omega arith;
      first_steps = (
        adds None UseTheirs 5 (unowned 9),
        omega arith,
        (
          removes owner 6 RaiseIssue 3 (ours 6) (omega arith) (omega arith),
          omega arith,
          (
            adds owner RaiseIssue 3 (ours 9),
            omega arith,
            (removes None 65535 UseOurs 5 (unowned 65535) (omega arith) (omega arith), omega arith, tt),
          ),
        ),
      );
      later_steps = (
        removes None 9 RaiseIssue 1 (unowned 9) (omega arith) (omega arith),
        (removes owner 7 UseOurs 6 (ours 7) (omega arith) (omega arith), tt),
      );
      not_below_0 = omega arith;
      one_amount = refl;
      one_removal = removes None 12 RaiseIssue 7 (unowned 12) (omega arith) (omega arith);
      byte_room = omega arith;
    }

pub refunded : Refunds start 9 firsts laters one (replicate 41 0)
refunded = small_steps start 9 5 firsts laters one (replicate 41 0) met

-- ---- at the limits

-- the count at 9 is then 4,294,967,295
abbrev firsts_most : List Step
firsts_most = add (edit owner 9 RaiseIssue 4294967290) ∷ []

abbrev laters_most : List Step
laters_most = remove (edit None 9 UseOurs 4294967295) ∷ remove (edit owner 6 RaiseIssue 4294967290) ∷ []

abbrev one_most : Edit
one_most = edit owner 12 UseTheirs 4294967295

-- THE PREMISES ARE MET AT THE LIMITS
met_most : Premises start 9 5 firsts_most laters_most one_most (replicate 41 0)
unfolding proper ascending epochs_of counts_of records_of all_added all_removed bytes_of records_bytes big varint groups
met_most =
    record {
      canonical = refl;
      earlier = 7 ⦂ 10 ∷ [];
      latest = refl;
      four_or_more = omega arith;
      first_steps = (adds owner RaiseIssue 4294967290 (ours 9), omega arith, tt);
      later_steps = (
        removes None 9 UseOurs 4294967295 (unowned 9) (omega arith) (omega arith),
        (removes owner 6 RaiseIssue 4294967290 (ours 6) (omega arith) (omega arith), tt),
      );
      not_below_0 = omega arith;
      one_amount = refl;
      one_removal = removes owner 12 UseTheirs 4294967295 (ours 12) (omega arith) (omega arith);
      byte_room = omega arith;
    }

pub refunded_most : Refunds start 9 firsts_most laters_most one_most (replicate 41 0)
refunded_most = small_steps start 9 5 firsts_most laters_most one_most (replicate 41 0) met_most

-- ---- the same histories, computed

-- what a run ends in: the flags, and the refunds of the owner at the base, at 7 and at 9
abbrev ended : Answer State → Option (Flags × ℕ × ℕ × ℕ)
ended (refused n) = None
ended (ok st) = Some (
  flags_of st.flags,
  refund_at (replicate 32 1) 5 st.rows,
  refund_at (replicate 32 1) 7 st.rows,
  refund_at (replicate 32 1) 9 st.rows,
)

-- BOTH LEAVE {7:5}; ALL STEPS TOGETHER REFUND 8 MORE AT 9
pub ended_alike : map ended (run (state start []) (firsts ++ laters) ∷ run (state start []) (remove one ∷ []) ∷ [])
    ≡ Some (flags 5 owner (7 ⦂ 5 ∷ []), 0, 5, 10) ∷ Some (flags 5 owner (7 ⦂ 5 ∷ []), 0, 5, 2) ∷ []
unfolding run step all_added all_removed refund_at records_of epochs_of counts_of ascending has held put union same proper leaving added combined_added order
    ascends ids_of parts_of rows_under rows_of proper_rows spare section sections split split_value all_under all_fine minus removed combined_removed
ended_alike = refl

-- BOTH LEAVE NO RECORD; ALL STEPS TOGETHER REFUND 4,294,967,290 MORE AT 9
pub ended_most : map ended (run (state start []) (firsts_most ++ laters_most) ∷ run (state start []) (remove one_most ∷ []) ∷ [])
    ≡ Some (flags 5 owner [], 4294967286, 7, 4294967292) ∷ Some (flags 5 owner [], 4294967286, 7, 2) ∷ []
unfolding run step all_added all_removed refund_at records_of epochs_of counts_of ascending has held put union same proper leaving added combined_added order
    ascends ids_of parts_of rows_under rows_of proper_rows spare section sections split split_value all_under all_fine minus removed combined_removed
ended_most = refl
