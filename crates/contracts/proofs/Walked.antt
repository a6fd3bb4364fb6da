-- THE SAME OF THE TWO CALLS OVER STRUCTS, `totals_index::replace_structs` and `petasunok_totals_replace_structs`, said of the propositions that
-- their contracts name, `SaysStructs` and `SaysStructsC`: any two outcomes are equal, and a refusal is its number alone and keeps the table and the
-- work area.
-- Assumes nothing.
use mathlib.Core.Path.{◌≡◌, refl}
use mathlib.Core.Bool.{Bool}
use Rattle.std.specs.Prelude.{Option, Result}
use mathlib.Core.List.{List}
use Prim.Native.Nat.{ℕ}
use Rattle.records_spec.specs.Outcomes.{refused, answered, number_in}
use Rattle.records_spec.specs.Flags.{Flags}
use Rattle.records_spec.specs.declared.refusal.Refusal.{Refusal}
use Rattle.records_spec.proofs.Only.{left_only, answered_as, answered_back}
use Rattle.rows_spec.specs.Rows.{Tables}
use Rattle.totals_index_spec.specs.Calls.{TableAndWork, beside, placing_structs, replacing_structs, SaysStructs}
use Rattle.totals_index_spec.specs.declared.structs.Total.{Total}
use Rattle.capi_spec.specs.Given.{CHeld, can_replace}
use Rattle.capi_spec.specs.Told.{count_told}
use Rattle.capi_spec.specs.Calls.{SaysStructsC}
use Rattle.capi_spec.specs.declared.types.CCount.{CCount}
use Rattle.contracts.proofs.Laws.{leaving_kept, named_kept, told_keeps_with, c_keeps_with, c_only}

module _ (n : ℕ) (ts : List Total) (work : Tables) where
  -- `totals_index::replace_structs`
  module _ (good : Bool) (old new : Option Flags) where
    pub structs_only : (r s : Result ℕ Refusal) (m k : TableAndWork) → SaysStructs n ts work good old new r m → SaysStructs n ts work good old new s k
        → (r ≡ s) × (m ≡ k)
    structs_only r s m k p q = left_only answered answered_as answered_back r s m k _ p q

    pub structs_keeps : (r : Result ℕ Refusal) (m : TableAndWork) → SaysStructs n ts work good old new r m → (number_in (answered r) ≡ 0 → ⊥)
        → (answered r ≡ refused (number_in (answered r))) × (m ≡ beside ts work)
    unfolding replacing_structs placing_structs
    structs_keeps r m p h = told_keeps_with answered r (beside ts work) m _ (leaving_kept _ _) p h

  -- `petasunok_totals_replace_structs`
  module _ (op : ℕ) (old : CHeld) (np : ℕ) (new : CHeld) where
    pub structs_only_c : (r s : CCount) (m k : TableAndWork) → SaysStructsC n ts work op old np new r m → SaysStructsC n ts work op old np new s k
        → (r ≡ s) × (m ≡ k)
    structs_only_c r s m k p q = c_only r s m k _ p q

    pub structs_keeps_c : (r : CCount) (m : TableAndWork) → SaysStructsC n ts work op old np new r m → (r.refusal ≡ 0 → ⊥)
        → (r ≡ count_told (refused r.refusal)) × (m ≡ beside ts work)
    unfolding replacing_structs placing_structs
    structs_keeps_c r m p h =
        c_keeps_with count_told (λ (a : CCount). a.refusal) (λ a. refl) (λ n. refl) r (beside ts work) m _
        (named_kept _ (can_replace op old.head np new.head) _ (leaving_kept _ _)) p h
