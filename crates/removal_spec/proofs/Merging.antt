-- The removing merge by the tests of the code: the bases, our records, the owner, the removal, and whether all is proper.
-- Assumes nothing.
use mathlib.Core.Path.{◌≡◌, refl, ◌∙◌}
use mathlib.Core.Bool.{Bool, true, false, and-false}
use Rattle.std.specs.Prelude.{Option}
use mathlib.Core.List.{List, [], ◌∷◌}
use Prim.Native.Nat.{ℕ, ◌<◌}
use native.Mathlib.Omega.{arith}
use lib.ListN.{length}
use borrow.Author.Tests.{lt-ltb, le-ltb, eq-eqb, ne_eqb}
use Rattle.records_spec.specs.Tables.{At}
use Rattle.records_spec.specs.Flags.{Flags, flags, id_of, flags_of, proper, blank, Lent, Held}
use Rattle.records_spec.specs.Answers.{placing}
use Rattle.records_spec.specs.Outcomes.{refused, ok, ◌>>=◌, refusing, leaving}
use Rattle.records_spec.specs.Refusals.{number}
use Rattle.records_spec.specs.declared.refusal.Refusal.TheVariants.{BadTable, DifferentBaseEpoch}
use Rattle.flags_spec.specs.Owners.{combined_owner}
use Rattle.flags_spec.specs.Merging.{union_under}
use Rattle.flags_spec.specs.Calls.{handed_on}
use Rattle.flags_spec.specs.declared.owners.MergingOwnersStrategy.{MergingOwnersStrategy}
use Rattle.rows_spec.specs.Rows.{Row, parts_of}
use Rattle.rows_spec.specs.Removals.{Removal, sectioned, proper_removal, removal_of, HeldRemoval}
use Rattle.removal_spec.specs.Removing.{only_under_lem, all_fine, minus, less_sections, taken, removed_above, removed_beside, removed}
use Rattle.removal_spec.specs.Calls.{combined_removed, optional_combined_removed, handed_on_beside}

-- ---- by the bases

module _ (s : MergingOwnersStrategy) (x : Removal) (ours theirs : Flags) where
  pub removed_lower : theirs.base < ours.base → removed s x ours theirs ≡ refused (number DifferentBaseEpoch)
  unfolding removed
  removed_lower p = rw (lt-ltb theirs.base ours.base p)

  pub removed_beside_lem : ours.base ≡ theirs.base → removed s x ours theirs ≡ removed_beside s ours theirs
  unfolding removed
  removed_beside_lem e = simp (le-ltb theirs.base ours.base (omega arith), eq-eqb ours.base theirs.base e)

  pub removed_above_lem : ours.base < theirs.base → removed s x ours theirs ≡ removed_above s x ours theirs ours.records
  unfolding removed
  removed_above_lem p = simp (le-ltb theirs.base ours.base (omega arith), ne_eqb ours.base theirs.base (λ e. omega arith))

-- ---- incoming base higher

module _ (s : MergingOwnersStrategy) (x : Removal) (ours theirs : Flags) where
  -- ours without records comes back
  pub above_single : (rs : List At) → length rs ≡ 0 → removed_above s x ours theirs rs ≡ ok ours
  above_single [] e = refl
  above_single (r ∷ rs) e = absurd (omega arith)

  -- else the owner rule decides first
  pub above_some : (rs : List At) → 0 < length rs → removed_above s x ours theirs rs
      ≡ ◌>>=◌ (combined_owner s ours.owner theirs.owner) (λ owner. taken (id_of ours.owner) x (union_under ours theirs owner))
  above_some [] p = absurd (omega arith)
  above_some (r ∷ rs) p = refl

  pub above_owned : (rs : List At) → 0 < length rs → (owner : Option (List ℕ)) → combined_owner s ours.owner theirs.owner ≡ ok owner
      → removed_above s x ours theirs rs ≡ taken (id_of ours.owner) x (union_under ours theirs owner)
  above_owned rs p owner e = above_some rs p ∙ rw e

-- ---- the removal

pub taken_under : (i : List ℕ) (rows : List Row) (f : Flags) (ss : List At) → only_under_lem i rows ≡ true → parts_of rows ≡ ss
    → taken i (sectioned rows) f ≡ less_sections ss f
taken_under i rows f ss h e = rw (h, e)

pub less_fine : (ss : List At) (f : Flags) → all_fine f.base f.records ss ≡ ok tt
    → less_sections ss f ≡ ok (flags f.base f.owner (minus f.records ss))
less_fine ss f e = rw e

-- ---- whether all is proper

module _ (ours theirs : Held) (removal : HeldRemoval) (s : MergingOwnersStrategy) (out : Lent) where
  pub combined_proper : proper ours ≡ true → proper theirs ≡ true → proper_removal removal ≡ true
      → combined_removed ours theirs removal s out ≡ placing (removed s (removal_of removal) (flags_of ours) (flags_of theirs)) out
  unfolding combined_removed placing
  combined_proper p q r = simp (p, q, r)

  pub combined_removal_bad : proper_removal removal ≡ false → combined_removed ours theirs removal s out ≡ refusing BadTable (blank out)
  unfolding combined_removed leaving
  combined_removal_bad r = simp (r, and-false)

  pub combined_theirs_bad : proper theirs ≡ false → combined_removed ours theirs removal s out ≡ refusing BadTable (blank out)
  unfolding combined_removed leaving
  combined_theirs_bad q = simp (q, and-false)

  pub combined_ours_bad : proper ours ≡ false → combined_removed ours theirs removal s out ≡ refusing BadTable (blank out)
  unfolding combined_removed leaving
  combined_ours_bad p = simp p

  module _ (present : Bool) where
    pub optional_absent : present ≡ false → proper_removal removal ≡ true
        → optional_combined_removed present ours theirs removal s out ≡ handed_on theirs out
    unfolding handed_on_beside handed_on
    optional_absent e r = simp (e, r)

    pub optional_bad : present ≡ false → proper_removal removal ≡ false
        → optional_combined_removed present ours theirs removal s out ≡ refusing BadTable (blank out)
    unfolding handed_on_beside leaving
    optional_bad e r = simp (e, r)
