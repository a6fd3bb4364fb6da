-- What bytes stand for, and what a refused answer is, case by case and by computation.
-- Assumes nothing.
use Prim.Native.Nat.{ℕ}
use mathlib.Core.Path.{◌≡◌, refl}
use mathlib.Core.Bool.{true, false}
use Rattle.records_spec.specs.Flags.{kind_of_byte, zeros, blank, Lent}
use Rattle.records_spec.specs.Outcomes.{refused, kept, Answer, after}
use Rattle.records_spec.specs.declared.head.Kind.TheVariants.{SingleEpoch, MultiEpoch, SingleEpochOwned, MultiEpochOwned}
use Rattle.flags_spec.specs.declared.owners.MergingOwnersStrategy.TheVariants.{RaiseIssue, UseOurs, UseTheirs}
use Rattle.rows_spec.specs.declared.removed.Removed.TheVariants.{None, Basic, Sectioned}
use Rattle.capi_spec.specs.Given.{is_true, is_kind, kind_found, is_strategy, strategy_given, is_removal, removed_given}
use Rattle.capi_spec.specs.Told.{told_as, flags_told, count_told, truth_told, sum_answer, split_answer, repair_answer}

-- 0 to 3 are the four kinds, and no other byte is one
pub kinds :
    (kind_found (kind_of_byte 0) ≡ SingleEpoch) × (kind_found (kind_of_byte 1) ≡ MultiEpoch) × (kind_found (kind_of_byte 2) ≡ SingleEpochOwned)
    × (kind_found (kind_of_byte 3) ≡ MultiEpochOwned) × (is_kind 3 ≡ true) × (is_kind 4 ≡ false) × (is_kind 255 ≡ false)
kinds = (refl, refl, refl, refl, refl, refl, refl)

-- 0 raise, 1 ours, 2 theirs, and no other
pub strategies :
    (strategy_given 0 ≡ RaiseIssue) × (strategy_given 1 ≡ UseOurs) × (strategy_given 2 ≡ UseTheirs) × (is_strategy 2 ≡ true) × (is_strategy 3 ≡ false)
strategies = (refl, refl, refl, refl, refl)

-- 0 none, 1 basic, 2 sectioned, and no other; what a kind does not have is not read
pub removals :
    (n m : ℕ) → (removed_given (record { kind = 0; bytes = n; rows = m }) ≡ None) × (removed_given (record { kind = 1; bytes = n; rows = m }) ≡ Basic n)
    × (removed_given (record { kind = 2; bytes = n; rows = m }) ≡ Sectioned m) × (is_removal 2 ≡ true) × (is_removal 3 ≡ false)
removals n m = (refl, refl, refl, refl, refl)

-- 0 is no, and 1, 2 and 255 are yes
pub truths : (is_true 0 ≡ false) × (is_true 1 ≡ true) × (is_true 2 ≡ true) × (is_true 255 ≡ true)
truths = (refl, refl, refl, refl)

-- a refused answer is its number and zeros, and nothing lent has changed
module _ (n : ℕ) where
  pub flags_refused :
      (t : Lent) → flags_told (kept n (blank t)) ≡ after
      (record { refusal = n; present = 0; head = record { kind = 0; base = 0; owner = zeros; records = 0 } }) t
  flags_refused t = refl

  pub count_refused : (count_told (refused n) ≡ record { refusal = n; count = 0 }) × (truth_told (refused n) ≡ record { refusal = n; count = 0 })
  count_refused = (refl, refl)

  pub sum_refused : sum_answer (refused n) ≡ record { refusal = n; removal = record { kind = 0; bytes = 0; rows = 0 } }
  sum_refused = refl

  pub split_refused : split_answer (refused n) ≡ record { refusal = n; removal = record { kind = 0; bytes = 0; rows = 0 }; visited = 0 }
  split_refused = refl

  pub repair_refused : repair_answer (refused n) ≡ record { refusal = n; bytes = 0; lines = 0 }
  repair_refused = refl

  -- of each of these what was lent is left
  pub others_kept : {A B M : Type 0} (f : Answer A → B) (m : M) → told_as f (kept n m) ≡ after (f (refused n)) m
  others_kept f m = refl
