-- Where the judging of a change starts, by each of the tests there: whether the table has n places and the flags are proper.
-- Assumes nothing.
use mathlib.Core.Path.{◌≡◌, refl}
use mathlib.Core.Logic.{◌⊎◌, inl, inr}
use mathlib.Core.Bool.{Bool, true, false, cond, ◌&&◌, and-false}
use mathlib.Core.List.{List}
use Prim.Native.Nat.{ℕ, ◌≤◌, ◌<◌}
use lib.Dec.{leb}
use lib.ListN.{take}
use borrow.Author.Tests.{le-leb, lt-leb}
use Rattle.records_spec.specs.Flags.{holding}
use Rattle.records_spec.specs.declared.head.Head.{Head}
use Rattle.totals_spec.specs.Calls.{proper_given}
use Rattle.totals_spec.specs.Inner.Steps.{named_by}
use Rattle.totals_spec.specs.declared.replacing.Named.{Named}
use Rattle.totals_index_spec.specs.Inner.Judging.{positives, beginning, unjudged, started}
use Rattle.totals_index_spec.specs.declared.judging.Judging.{Judging}

module _ (n size : ℕ) (op : Bool) (old : Head) (oes ocs : List ℕ) (np : Bool) (new : Head) (nes ncs : List ℕ) where
  abbrev all_proper : Bool
  all_proper = leb n size && (proper_given op (holding old oes ocs) && proper_given np (holding new nes ncs))

  abbrev first : Judging
  first =
      beginning n (named_by op old) (named_by np new) (positives (take (named_by op old).records ocs)) (positives (take (named_by np new).records ncs))

  -- it starts with every row, or with none
  pub started_cases : (P : Judging → Type 0) → (all_proper ≡ true → P first) → (all_proper ≡ false → P (unjudged n))
      → P (started n size op (holding old oes ocs) np (holding new nes ncs))
  unfolding started
  started_cases P every none = go all_proper refl
    where
      go : (x : Bool) → all_proper ≡ x → P (cond x first (unjudged n))
      go true e = every e
      go false e = none e

  pub started_good : {o w : Named} {p q : ℕ} → n ≤ size → proper_given op (holding old oes ocs) ≡ true → proper_given np (holding new nes ncs) ≡ true
      → o ≡ named_by op old → w ≡ named_by np new → p ≡ positives (take o.records ocs) → q ≡ positives (take w.records ncs)
      → beginning n o w p q ≡ started n size op (holding old oes ocs) np (holding new nes ncs)
  unfolding started
  started_good h g k e f i j = rw (le-leb n size h, g, k, i, j, e, f)

  -- 11 is known
  pub started_bad : (size < n) ⊎ ((proper_given op (holding old oes ocs) ≡ false) ⊎ (proper_given np (holding new nes ncs) ≡ false))
      → unjudged n ≡ started n size op (holding old oes ocs) np (holding new nes ncs)
  unfolding started
  started_bad (inl h) = rw (lt-leb n size h)
  started_bad (inr (inl h)) = rw (h, and-false (leb n size))
  started_bad (inr (inr h)) = rw (h, and-false (proper_given op (holding old oes ocs)), and-false (leb n size))
