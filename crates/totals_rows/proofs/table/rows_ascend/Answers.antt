-- The rows ascend where each, from the second on, stands behind the one before it. By induction on the places that are left. Assumes nothing.
use Rattle.std.proofs.Common.{◌≡◌, ℕ, zero, suc, ◌+◌, ◌-◌, Bool, drop, ◌∙◌, refl, arith, rules, tests, sym}
use Rattle.std.specs.List.{list_all, range_with_len}
use Rattle.std.proofs.lemmas.Iterator.{YieldsList-from_range}
use Rattle.std.proofs.lemmas.Iterator.Search.{all_from_yields_List}
use Rattle.rows_spec.specs.Order.{is_less}
use Rattle.rows_spec.specs.Rows.{compared, ascends, Tables, tables, rows_in, row_at, Room}
use Rattle.rows_spec.proofs.Rows.{asc_at, asc_last}
use Rattle.totals_rows.proofs.table.rows_ascend.Goals as goal

-- the row at a place stands behind the one before it
abbrev behind : Tables → ℕ → Bool
behind t i = is_less (compared (row_at t (i - 1)) (row_at t i))

-- the rows from a place on, where m rows stand behind that place
ascends_from : {n : ℕ} {t : Tables} → Room n t → (m i : ℕ) → i + m ≡ n - 1
    → list_all (behind t) (range_with_len (i + 1) m) ≡ ascends (drop i (rows_in n t))
ascends_from r zero i e = sym (asc_last r i (omega arith))
ascends_from {n} {t} r (suc m) i e =
    let here : i + 1 - 1 ≡ i = omega arith in
    let rest = ascends_from r m (i + 1) (omega arith) in
    rw (here, rest) (sym (asc_at r i (omega arith)))

pub returns : goal.returns
returns c =
    let a = c.args in
    let t = tables a.owners.now a.epochs.now a.totals.now in
    all_from_yields_List (behind t) _ _ _ c.all.ensures.ran (YieldsList-from_range 1 a.n (a.n - 1) refl refl)
    (λ x b q k. search (rules, tests))
    ∙ ascends_from c.requires (a.n - 1) 0 (omega arith)
