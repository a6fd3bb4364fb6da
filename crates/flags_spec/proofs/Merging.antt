-- The adding merge by the tests of the code: the bases, the owner, the limit, and whether the flags are proper.
-- Assumes nothing.
use mathlib.Core.Path.{◌≡◌}
use mathlib.Core.Bool.{true, false, and-false}
use Rattle.std.specs.Prelude.{Option}
use mathlib.Core.List.{List, ◌∷◌}
use Prim.Native.Nat.{ℕ, ◌+◌, ◌≤◌, ◌<◌}
use borrow.Author.Tests.{le-leb, lt-leb, lt-ltb, le-ltb, eq-eqb, ne_eqb}
use Rattle.fields_spec.specs.Varint.{largest}
use Rattle.records_spec.specs.Tables.{At, ◌⦂◌, epochs_of, ascending, held, union}
use Rattle.records_spec.specs.Flags.{Flags, flags, flags_of, proper, blank, Lent, Held}
use Rattle.records_spec.specs.Answers.{placing}
use Rattle.records_spec.specs.Outcomes.{refused, ok, refusing, leaving}
use Rattle.records_spec.specs.Refusals.{number}
use Rattle.records_spec.specs.declared.refusal.Refusal.TheVariants.{Overflow, BadTable, DifferentBaseEpoch}
use Rattle.records_spec.proofs.Unions.{union_put}
use Rattle.records_spec.proofs.Held.{held_beside}
use Rattle.flags_spec.specs.Owners.{combined_owner}
use Rattle.flags_spec.specs.Merging.{union_under, raised, raised_above, added}
use Rattle.flags_spec.specs.Calls.{handed_on, combined_added}
use Rattle.flags_spec.specs.declared.owners.MergingOwnersStrategy.{MergingOwnersStrategy}

-- ---- by the bases and the owner

module _ (s : MergingOwnersStrategy) (amount : ℕ) (ours theirs : Flags) where
  pub added_lower : theirs.base < ours.base → added s amount ours theirs ≡ refused (number DifferentBaseEpoch)
  unfolding added
  added_lower p = rw (lt-ltb theirs.base ours.base p)

  module _ (p : ours.base ≤ theirs.base) where
    pub added_disputed : (n : ℕ) → combined_owner s ours.owner theirs.owner ≡ refused n → added s amount ours theirs ≡ refused n
    unfolding added
    added_disputed n e = simp (le-ltb theirs.base ours.base p, e)

    pub added_owned : (owner : Option (List ℕ)) → combined_owner s ours.owner theirs.owner ≡ ok owner
        → added s amount ours theirs ≡ raised_above ours.base theirs.base amount (union_under ours theirs owner)
    unfolding added
    added_owned owner e = simp (le-ltb theirs.base ours.base p, e)

module _ (ours theirs amount : ℕ) (f : Flags) where
  pub raised_same : ours ≡ theirs → raised_above ours theirs amount f ≡ ok f
  raised_same e = rw (eq-eqb ours theirs e)

  pub raised_higher : (ours ≡ theirs → ⊥) → raised_above ours theirs amount f ≡ raised theirs amount f
  raised_higher d = rw (ne_eqb ours theirs d)

-- ---- the amount at an epoch that theirs are above

module _ (e amount base : ℕ) (owner : Option (List ℕ)) (os ts : List At) (h : ascending e (epochs_of ts) ≡ true) where
  pub raised_over : largest < held e os + amount → raised e amount (flags base owner (union os ts)) ≡ refused (number Overflow)
  raised_over p = simp (held_beside e os ts h, lt-leb (held e os + amount) largest p)

  pub raised_made : held e os + amount ≤ largest
      → raised e amount (flags base owner (union os ts)) ≡ ok (flags base owner (union os (e ⦂ (held e os + amount) ∷ ts)))
  raised_made p = simp (held_beside e os ts h, le-leb (held e os + amount) largest p, union_put)

-- ---- whether the flags are proper

module _ (ours theirs : Held) (amount : ℕ) (s : MergingOwnersStrategy) (out : Lent) where
  pub combined_proper : proper ours ≡ true → proper theirs ≡ true
      → combined_added ours theirs amount s out ≡ placing (added s amount (flags_of ours) (flags_of theirs)) out
  unfolding combined_added placing
  combined_proper p q = simp (p, q)

  pub combined_theirs_bad : proper theirs ≡ false → combined_added ours theirs amount s out ≡ refusing BadTable (blank out)
  unfolding combined_added leaving
  combined_theirs_bad q = simp (q, and-false)

  pub combined_ours_bad : proper ours ≡ false → combined_added ours theirs amount s out ≡ refusing BadTable (blank out)
  unfolding combined_added leaving
  combined_ours_bad p = simp p

module _ (f : Held) (out : Lent) where
  pub handed_proper : proper f ≡ true → handed_on f out ≡ placing (ok (flags_of f)) out
  unfolding handed_on placing
  handed_proper p = rw p

  pub handed_bad : proper f ≡ false → handed_on f out ≡ refusing BadTable (blank out)
  unfolding handed_on leaving
  handed_bad p = rw p
