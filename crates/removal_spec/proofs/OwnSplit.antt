-- The merge with the removal that a split of the same flags made: no section of a split is at fault, all stand under the owner, and there is
-- one wherever there are bytes. So the merge is never refused, and with room for our records it is placed.
-- Assumes nothing.
use mathlib.Core.Path.{◌≡◌, refl, sym, ap, ◌∙◌}
use mathlib.Core.Bool.{true}
use Rattle.std.specs.Prelude.{Option, None, Some}
use mathlib.Core.List.{List, [], ◌∷◌, ◌++◌}
use Prim.Native.Nat.{ℕ, zero, suc, ◌≤◌, ◌<◌, min}
use native.Mathlib.Omega.{arith}
use native.Mathlib.Decide.{dec_lt}
use lib.ListN.{length}
use Rattle.records_spec.specs.Tables.{At, ◌⦂◌, epochs_of, ascending, union}
use Rattle.records_spec.specs.Flags.{Flags, flags, id_of, flags_of, head_of, proper, Lent, Held}
use Rattle.records_spec.specs.Answers.{placing, in_tables}
use Rattle.records_spec.specs.Outcomes.{after, Answer, ok}
use Rattle.records_spec.specs.declared.head.Kind.TheVariants.{SingleEpoch, SingleEpochOwned}
use Rattle.records_spec.proofs.Tables.{epochs_cons}
use Rattle.records_spec.proofs.Rising.{asc_head, asc_tail}
use Rattle.records_spec.proofs.Held.{has_none}
use Rattle.records_spec.proofs.Unions.{union_none}
use Rattle.records_spec.proofs.Proper.{proper_inv, proper_ascends, proper_long}
use Rattle.records_spec.proofs.Answers.{placing_fits}
use Rattle.flags_spec.specs.declared.owners.MergingOwnersStrategy.{MergingOwnersStrategy}
use Rattle.flags_spec.proofs.Choosing.{owner_stays}
use Rattle.rows_spec.specs.Rows.{Tables, rows_under}
use Rattle.rows_spec.specs.Removals.{Removal, total_rows, holding_rows, proper_removal, removal_of, HeldRemoval}
use Rattle.rows_spec.proofs.Under.{parts_under, total_none}
use Rattle.splitting_spec.specs.Sections.{asked, section, sections, split}
use Rattle.splitting_spec.specs.Calls.{value_part, value_removal, Told, split_value}
use Rattle.splitting_spec.proofs.Sections.{section_none, section_one, split_parts, split_none}
use Rattle.splitting_spec.proofs.Ascending.{sections_ascend}
use Rattle.splitting_spec.proofs.Given.{Within, sections_within}
use Rattle.splitting_spec.proofs.Sums.{split_sum}
use Rattle.splitting_spec.proofs.Accepted.{flags_proper, value_stands, value_removes}
use Rattle.removal_spec.specs.Removing.{only_under_lem, all_fine, minus, taken, removed_above, removed}
use Rattle.removal_spec.specs.Calls.{combined_removed}
use Rattle.removal_spec.specs.Theorems.{less_own_split, Incoming}
use Rattle.removal_spec.proofs.Faults.{fault_base, fault_within, fault_none, fault_on}
use Rattle.removal_spec.proofs.Lessening.{minus_none, minus_cons, minus_long}
use Rattle.removal_spec.proofs.Under.{only_under}
use Rattle.removal_spec.proofs.Merging.{removed_above_lem, above_owned, taken_under, less_fine, combined_proper}

-- ---- no section is at fault

-- sections above the base and within the records
within_fine : (base b : ℕ) (rs ss : List At) → base ≤ b → ascending b (epochs_of ss) ≡ true → Within rs ss → all_fine base rs ss ≡ ok tt
within_fine base b rs [] p h w = fault_none base rs
within_fine base b rs (s ∷ ss) p h w =
    let k : ascending b (s.epoch ∷ epochs_of ss) ≡ true = rw (epochs_cons s ss) at h in
    let q : b < s.epoch = asc_head b s.epoch (epochs_of ss) k in
    fault_on base rs s ss (fault_within base rs s.epoch s.bytes (λ e. omega arith) w.0 w.1)
    ∙ within_fine base s.epoch rs ss (omega arith) (asc_tail b s.epoch (epochs_of ss) k) w.2

-- a section at the base before them
base_fine : (base n most : ℕ) (rs ss : List At) → all_fine base rs ss ≡ ok tt → all_fine base rs (section base n most ++ ss) ≡ ok tt
base_fine base n most rs ss h =
    elim (dec_lt 0 n) [
      | yes p ↦ rw (section_one base n most p) (fault_on base rs (base ⦂ min n most) ss (fault_base base rs base (min n most) refl) ∙ h)
      | no p ↦ let z : n ≡ 0 = omega arith in rw (z, section_none base most) h
    ]

-- NO SECTION OF A SPLIT OF ASCENDING RECORDS ABOVE THE BASE IS AT FAULT
pub split_fine : (base : ℕ) (rs : List At) (n : ℕ) → ascending base (epochs_of rs) ≡ true → all_fine base rs (split base rs n) ≡ ok tt
split_fine base rs n h =
    ap (all_fine base rs) (split_parts base rs n)
    ∙ base_fine base (asked n rs) (asked n rs) rs (sections rs n)
    (within_fine base base rs (sections rs n) (omega arith) (sections_ascend base rs n h) (sections_within base rs n h))

-- ---- the merge

pub minus_nothing : (rs : List At) → minus rs [] ≡ rs
minus_nothing [] = minus_none []
minus_nothing (r ∷ rs) = minus_cons r rs [] ∙ rw (has_none r.epoch, minus_nothing rs)

-- sections of some bytes are at least one
some_section : (i : List ℕ) (ss : List At) (n : ℕ) → total_rows (rows_under i ss) ≡ suc n → only_under_lem i (rows_under i ss) ≡ true
some_section i [] n h = absurd (omega (arith, total_none i))
some_section i (s ∷ ss) n h = only_under i s ss

-- flags less the removal that their own split made
less_own : (o : Option (List ℕ)) (base : ℕ) (rs : List At) (n : ℕ) → ascending base (epochs_of rs) ≡ true
    → taken (id_of o) (value_part (id_of o) base rs n) (flags base o rs) ≡ ok (flags base o (minus rs (split base rs n)))
less_own o base rs zero h = ap (λ (l : List At). ok (flags base o l)) (sym (ap (minus rs) (split_none base rs) ∙ minus_nothing rs))
less_own o base rs (suc n) h =
    taken_under (id_of o) (rows_under (id_of o) (split base rs (suc n))) (flags base o rs) (split base rs (suc n))
    (some_section (id_of o) (split base rs (suc n)) n (split_sum (id_of o) base rs (suc n))) (parts_under (id_of o) (split base rs (suc n)))
    ∙ less_fine (split base rs (suc n)) (flags base o rs) (split_fine base rs (suc n) h)

module _ (s : MergingOwnersStrategy) (f theirs : Flags) (n : ℕ) (h : ascending f.base (epochs_of f.records) ≡ true) (w : Incoming f theirs) where
  -- by whether ours has records
  above_own : (rs : List At) → f.records ≡ rs → removed_above s (value_removal f n) f theirs rs ≡ ok (less_own_split f n)
  above_own [] e = ap (λ (l : List At). ok (flags f.base f.owner l))
      (e ∙ sym (ap (λ (l : List At). minus l (split f.base f.records n)) e ∙ minus_none _))
  above_own (r ∷ rs) e =
      above_owned s (value_removal f n) f theirs (r ∷ rs) (omega arith) f.owner (owner_stays s f.owner theirs.owner w.owner)
      ∙ ap (λ (l : List At). taken (id_of f.owner) (value_removal f n) (flags f.base f.owner l))
      (ap (union f.records) w.bare ∙ union_none f.records)
      ∙ less_own f.owner f.base f.records n h

  -- THE SPLIT'S OWN MERGE IS NEVER REFUSED, FOR NO STRATEGY
  pub own_merge : removed s (value_removal f n) f theirs ≡ ok (less_own_split f n)
  own_merge = removed_above_lem s (value_removal f n) f theirs w.higher ∙ above_own f.records refl

  -- with room for our records it is placed
  pub own_placed : (out : Lent) → length f.records ≤ length out.epochs → length f.records ≤ length out.counts
      → placing (removed s (value_removal f n) f theirs) out ≡ after (ok true) (in_tables (less_own_split f n) out)
  own_placed out p q =
      let l = minus_long f.records (split f.base f.records n) in
      ap (λ (x : Answer Flags). placing x out) own_merge ∙ placing_fits (less_own_split f n) out (omega arith) (omega arith)

-- the same of the call: ours, theirs and a removal that stands for the split's are proper, and our records have room
module _ (ours theirs : Held) (removal : HeldRemoval) (s : MergingOwnersStrategy) (out : Lent) (n : ℕ) where
  own_call : proper ours ≡ true → proper theirs ≡ true → proper_removal removal ≡ true
      → removal_of removal ≡ value_removal (flags_of ours) n → Incoming (flags_of ours) (flags_of theirs)
      → ours.head.records ≤ length out.epochs → ours.head.records ≤ length out.counts
      → combined_removed ours theirs removal s out ≡ after (ok true) (in_tables (less_own_split (flags_of ours) n) out)
  own_call p q r e w he hc =
      let f : Flags = flags_of ours in
      let i = proper_inv ours.head ours.epochs ours.counts p in
      let l = proper_long i in
      let h = proper_ascends i in
      combined_proper ours theirs removal s out p q r
      ∙ ap (λ (y : Removal). placing (removed s y f (flags_of theirs)) out) e
      ∙ own_placed s f (flags_of theirs) n h w out (omega arith) (omega arith)

-- THE MERGE OF WHAT AN ACCEPTED VALUE SPLIT LEFT IS NEVER REFUSED: state and rows are handed on as the split left them
module _ (ours : Held) (n : ℕ) (t : Tables) (u : Told) (theirs : Held) (s : MergingOwnersStrategy) (out : Lent) where
  pub split_merged_lem : (split_value ours n t).answer ≡ ok u → proper theirs ≡ true
      → Incoming (flags_of ours) (flags_of theirs) → ours.head.records ≤ length out.epochs → ours.head.records ≤ length out.counts
      → combined_removed ours theirs (holding_rows u.removal (split_value ours n t).lent) s out
      ≡ after (ok true) (in_tables (less_own_split (flags_of ours) n) out)
  split_merged_lem a q w he hc =
      own_call ours theirs (holding_rows u.removal (split_value ours n t).lent) s out n
      (flags_proper ours n t u a) q (value_removes ours n t u a).is_proper (value_stands ours n t u a) w he hc

-- ---- no record left

-- NO RECORD LEFT: KIND 0 OR 2
pub none_left : (base : ℕ) (rs : List At) → rs ≡ [] → (head_of (flags base None rs)).kind ≡ SingleEpoch
none_left base rs e = rw e

pub none_left_owned : (base : ℕ) (o : List ℕ) (rs : List At) → rs ≡ [] → (head_of (flags base (Some o) rs)).kind ≡ SingleEpochOwned
none_left_owned base o rs e = rw e
