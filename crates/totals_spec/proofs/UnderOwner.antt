-- Records under one owner: their rows place by place, in order, and the total at an owner and epoch.
-- Assumes nothing.
use mathlib.Core.Path.{◌≡◌, refl, sym, ap, ◌∙◌}
use mathlib.Core.Bool.{Bool, true, false, cond, true≢false}
use mathlib.Core.List.{List, [], ◌∷◌, ◌++◌}
use Prim.Native.Nat.{ℕ, zero, suc, ◌+◌, ◌-◌, ◌≤◌, ◌<◌}
use lib.Dec.{eqb}
use lib.ListN.{length, take, drop, get_or}
use lib.Seq.{take-add}
use borrow.Author.Tests.{eq-eqb, ne_eqb}
use native.Mathlib.Omega.{arith}
use Rattle.records_spec.specs.Tables.{At, records_of, held}
use Rattle.records_spec.specs.Inner.Tables.{Table}
use Rattle.records_spec.specs.Flags.{same}
use Rattle.records_spec.proofs.Owners.{same_self, same_equal}
use Rattle.records_spec.proofs.Tables.{length_records_of, epochs_records}
use Rattle.records_spec.proofs.Unions.{record_on, table_end}
use Rattle.rows_spec.specs.Order.{by, is_equal}
use Rattle.rows_spec.specs.Rows.{Row, row, compared, ascends, rows_under}
use Rattle.std.specs.declared.cmp.Ordering.{Ordering}
use Rattle.std.specs.declared.cmp.Ordering.TheVariants.{Less, Equal, Greater}
use Rattle.rows_spec.proofs.Comparing.{compared_under, compared_same, by_less, by_greater, by_next}
use Rattle.rows_spec.proofs.Under.{under_none, under_cons, length_under, asc_under}
use Rattle.totals_spec.specs.Table.{total_at}
use Rattle.totals_spec.specs.Inner.Steps.{under}

drop_under : (o : List ℕ) (i : ℕ) (rs : List At) → drop i (rows_under o rs) ≡ rows_under o (drop i rs)
unfolding rows_under
drop_under o zero rs = refl
drop_under o (suc i) [] = refl
drop_under o (suc i) (r ∷ rs) = drop_under o i rs

module _ (o : List ℕ) {es cs : List ℕ} (t : Table es cs) where
  pub under_on : (i : ℕ) → i < length es → drop i (under o es cs) ≡ row o (get_or es i 0) (get_or cs i 0) ∷ drop (i + 1) (under o es cs)
  under_on i h =
      drop_under o i (records_of es cs) ∙ ap (rows_under o) (record_on t i h) ∙ under_cons o _ (drop (i + 1) (records_of es cs))
      ∙ ap (λ (l : List Row). row o (get_or es i 0) (get_or cs i 0) ∷ l) (sym (drop_under o (i + 1) (records_of es cs)))

  -- the first i: the row at the last of their places comes behind the others
  pub under_last : (i : ℕ) → 0 < i → i ≤ length es
      → take i (under o es cs) ≡ take (i - 1) (under o es cs) ++ (row o (get_or es (i - 1) 0) (get_or cs (i - 1) 0) ∷ [])
  under_last i p h =
      let e : i ≡ i - 1 + 1 = omega arith in
      ap (λ (k : ℕ). take k (under o es cs)) e ∙ take-add (i - 1) 1 (under o es cs)
      ∙ ap (λ (l : List Row). take (i - 1) (under o es cs) ++ take 1 l) (under_on (i - 1) (omega arith))

  pub under_end : (i : ℕ) → length es ≤ i → drop i (under o es cs) ≡ []
  under_end i h = drop_under o i (records_of es cs) ∙ ap (rows_under o) (table_end t i h) ∙ under_none o

  pub under_long : length (under o es cs) ≡ length es
  under_long = length_under o (records_of es cs) ∙ length_records_of es cs t.even

  pub under_ascends : ascends (under o es cs) ≡ true
  under_ascends = asc_under o (records_of es cs) (rw (epochs_records es cs t.even) t.rises)

-- ---- the total at an owner and epoch

equal_by : (x y : ℕ) → is_equal (by x y Equal) ≡ eqb x y
equal_by x y =
    elim (native.Mathlib.Decide.dec_lt x y) [
      | yes p ↦ ap is_equal (by_less x y Equal p) ∙ sym (ne_eqb x y (λ e. omega arith))
      | no p ↦
          elim (native.Mathlib.Decide.dec_lt y x) [
            | yes q ↦ ap is_equal (by_greater x y Equal q) ∙ sym (ne_eqb x y (λ e. omega arith))
            | no q ↦ ap is_equal (by_next x y Equal (omega arith) (omega arith)) ∙ sym (eq-eqb x y (omega arith))
          ]
    ]

-- under the same owner it is the record's count
total_under : (o : List ℕ) (e n : ℕ) (rs : List At) → total_at (row o e n) (rows_under o rs) ≡ held e rs
unfolding rows_under held total_at
total_under o e n [] = refl
total_under o e n (r ∷ rs) =
    let q : is_equal (compared (row o e n) (row o r.epoch r.bytes)) ≡ eqb e r.epoch = ap is_equal (compared_under o e r.epoch n r.bytes)
    ∙ equal_by e r.epoch in
    rw (q, total_under o e n rs)

not_equal : (a b : Row) → (a.identifier ≡ b.identifier → ⊥) → (o : Ordering) → compared a b ≡ o → is_equal o ≡ false
not_equal a b d Less e = refl
not_equal a b d Equal e = absurd (d (compared_same a b e).0)
not_equal a b d Greater e = refl

-- under another it is 0
total_other : (p o : List ℕ) (e n : ℕ) (rs : List At) → (p ≡ o → ⊥) → total_at (row p e n) (rows_under o rs) ≡ 0
unfolding rows_under total_at
total_other p o e n [] d = refl
total_other p o e n (r ∷ rs) d =
    rw (not_equal (row p e n) (row o r.epoch r.bytes) d _ refl) (total_other p o e n rs d)

-- by whether the owners are the same
pub total_of : (s : Bool) (o p : List ℕ) (e n : ℕ) (rs : List At) → s ≡ same o p → total_at (row p e n) (rows_under o rs) ≡ cond s (held e rs) 0
total_of true o p e n rs h = rw (same_equal o p (sym h)) (total_under p e n rs)
total_of false o p e n rs h = total_other p o e n rs (λ q. true≢false (sym (same_self o) ∙ rw q at (sym h)))
