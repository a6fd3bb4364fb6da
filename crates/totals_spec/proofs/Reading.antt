-- What a call of `replace` leaves: an accepted one the rows of the change, which are proper and read back; a refused one the table as it was.
-- Assumes nothing.
use mathlib.Core.Path.{◌≡◌, refl, sym, ap, ap₂, ◌∙◌}
use mathlib.Core.Bool.{Bool, true, false, ◌&&◌, and-eq-true_iff}
use Rattle.std.specs.Prelude.{Option}
use mathlib.Core.List.{List, ◌∷◌, ◌++◌}
use Prim.Native.Nat.{ℕ}
use lib.ListN.{length}
use Rattle.records_spec.specs.Flags.{Flags, Held}
use Rattle.records_spec.specs.Outcomes.{refused, Answer, ok, leaving, ◌unless◌, ◌>>◌, ◌>>=◌}
use Rattle.records_spec.specs.Refusals.{number}
use Rattle.records_spec.specs.declared.refusal.Refusal.TheVariants.{BadTable}
use Rattle.records_spec.proofs.Answers.{refused_not_ok}
use Rattle.records_spec.proofs.Rising.{asc_rises}
use Rattle.records_spec.proofs.Proper.{proper_inv, proper_ascends}
use Rattle.rows_spec.specs.Rows.{Row, Tables, rows_in, room_in, proper_rows, over_rows}
use Rattle.rows_spec.proofs.Rows.{length_rows, proper_rows_lem, proper_room}
use Rattle.rows_spec.proofs.Columns.{over_rows_lem, rows_back}
use Rattle.totals_spec.specs.Table.{all_positive}
use Rattle.totals_spec.specs.Recount.{named, recount}
use Rattle.totals_spec.specs.Replacing.{replaced}
use Rattle.totals_spec.specs.Calls.{RowsAfter, placed_rows, proper_table, given, proper_given, replacing}
use Rattle.records_spec.proofs.Guarded.{accepted as placed-accepted}
use Rattle.records_spec.proofs.Only.{refused_keeps}
use Rattle.totals_spec.specs.Theorems.{not_named, rises, ChangeStands}
use Rattle.totals_spec.proofs.Accepted.{accepted, IsProper, proper_is, accepted_proper}
use Rattle.totals_spec.proofs.Recounted.{stays_recount}
use Rattle.totals_spec.proofs.OnlyNamed.{only_named}
use Rattle.totals_spec.proofs.Commuting.{replaced_commute}

-- proper flags, or none, have ascending epochs
pub given_rises : (here : Bool) (f : Held) → proper_given here f ≡ true → rises (given here f) ≡ true
given_rises true f p = asc_rises f.head.base _ (proper_ascends (proper_inv f.head f.epochs f.counts p))
given_rises false f p = refl

-- ---- proper rows of totals

table_proper : (n : ℕ) (t : Tables) → proper_table n t ≡ true → IsProper (rows_in n t)
unfolding proper_table
table_proper n t h =
    let p = (and-eq-true_iff (proper_rows n t) (all_positive (rows_in n t))).0 h in
    record { rises = (proper_rows_lem n t p.0).rises; full = p.1 }

table_long : (n : ℕ) (t : Tables) → proper_table n t ≡ true → length (rows_in n t) ≡ n
unfolding proper_table
table_long n t h = length_rows (proper_rows_lem n t ((and-eq-true_iff (proper_rows n t) (all_positive (rows_in n t))).0 h).0).room

over_table : (rs : List Row) (t : Tables) → IsProper rs → proper_table (length rs) (over_rows rs t) ≡ true
unfolding proper_table
over_table rs t p = rw (proper_room (over_rows_lem rs t), rows_back rs t, p.rises, p.full)

-- ---- accepted calls

-- WHAT IS LEFT IS THE CHANGED TABLE, AND PROPER
pub replace_read : (n : ℕ) (t : Tables) (good : Bool) (old new : Option Flags) (m : ℕ) → (replacing n t good old new).answer ≡ ok m
    → ChangeStands n t good old new m (replacing n t good old new)
unfolding replacing leaving
replace_read n t good old new m h = go (proper_table n t) refl good refl (replaced old new (rows_in n t)) refl h
  where
    left : Bool → Bool → Answer (List Row) → RowsAfter
    left p g x = leaving t do
      BadTable unless p && g
      rs ← x
      placed_rows rs t

    go : (p : Bool) → proper_table n t ≡ p → (g : Bool) → good ≡ g → (x : Answer (List Row)) → replaced old new (rows_in n t) ≡ x
        → (left p g x).answer ≡ ok m → ChangeStands n t good old new m (left p g x)
    go true p true g (ok rs) e k =
        let a = placed-accepted t (length rs) (over_rows rs t) true (room_in (length rs) t) m k in
        let i = accepted_proper (accepted (named old) (named new) (rows_in n t) rs e) (table_proper n t p) in
        record {
          was_proper = p;
          was_good = g;
          is_replaced = e ∙ ap ok (sym (rows_back rs t) ∙ ap₂ rows_in a.answered (sym a.is_left));
          still_proper = sym (ap₂ proper_table a.answered (sym a.is_left)) ∙ over_table rs t i;
        }
    go true p true g (refused r) e k = absurd (refused_not_ok r m k)
    go true p false g x e k = absurd (refused_not_ok (number BadTable) m k)
    go false p g f x e k = absurd (refused_not_ok (number BadTable) m k)

-- A REFUSED CALL LEAVES THE TABLE AS IT WAS
pub replace_kept : (n : ℕ) (t : Tables) (good : Bool) (old new : Option Flags) (r : ℕ) → (replacing n t good old new).answer ≡ refused r
    → (replacing n t good old new).lent ≡ t
unfolding replacing
replace_kept n t good old new r h = refused_keeps t _ r h

-- ---- the theorems, of calls

module _ (n : ℕ) (t : Tables) (good : Bool) (old new : Option Flags) (m : ℕ) (h : (replacing n t good old new).answer ≡ ok m) where
  -- A TABLE THAT WAS THE RECOUNT IS AFTERWARDS THE RECOUNT WITH THE NEW FLAGS
  pub call_recount : (xs ys : List (Option Flags)) → rows_in n t ≡ recount (xs ++ (old ∷ ys))
      → rows_in m (replacing n t good old new).lent ≡ recount (xs ++ (new ∷ ys))
  call_recount xs ys e = stays_recount xs ys old new (rows_in n t) (rows_in m (replacing n t good old new).lent) e
      (replace_read n t good old new m h).is_replaced

  -- ONLY ROWS NAMED BY EITHER CHANGE
  pub call_named : not_named (named old ++ named new) (rows_in m (replacing n t good old new).lent) ≡ not_named (named old ++ named new) (rows_in n t)
  call_named =
      let l = replace_read n t good old new m h in
      only_named old new (rows_in n t) (rows_in m (replacing n t good old new).lent) (proper_is (rows_in n t) (table_proper n t l.was_proper))
      l.is_replaced

-- TWO CALLS IN EITHER ORDER LEAVE THE SAME ROWS
pub calls_commute : (n : ℕ) (t : Tables) (good₁ good₂ : Bool) (old₁ new₁ old₂ new₂ : Option Flags) (m p m' p' : ℕ) → rises old₁ ≡ true
    → rises old₂ ≡ true
    → (replacing n t good₁ old₁ new₁).answer ≡ ok m → (replacing m (replacing n t good₁ old₁ new₁).lent good₂ old₂ new₂).answer ≡ ok p
    → (replacing n t good₂ old₂ new₂).answer ≡ ok m' → (replacing m' (replacing n t good₂ old₂ new₂).lent good₁ old₁ new₁).answer ≡ ok p'
    → (p ≡ p')
    × (rows_in p (replacing m (replacing n t good₁ old₁ new₁).lent good₂ old₂ new₂).lent
    ≡ rows_in p' (replacing m' (replacing n t good₂ old₂ new₂).lent good₁ old₁ new₁).lent)
calls_commute n t good₁ good₂ old₁ new₁ old₂ new₂ m p m' p' s₁ s₂ a b c d =
    let a-left = replace_read n t good₁ old₁ new₁ m a in
    let b-left = replace_read m (replacing n t good₁ old₁ new₁).lent good₂ old₂ new₂ p b in
    let c-left = replace_read n t good₂ old₂ new₂ m' c in
    let d-left = replace_read m' (replacing n t good₂ old₂ new₂).lent good₁ old₁ new₁ p' d in
    let e = replaced_commute old₁ new₁ old₂ new₂ _ _ _ _ _ s₁ s₂ (proper_is (rows_in n t) (table_proper n t a-left.was_proper))
    a-left.is_replaced b-left.is_replaced c-left.is_replaced d-left.is_replaced in
    (sym (table_long p _ b-left.still_proper) ∙ ap (length {A = Row}) e ∙ table_long p' _ d-left.still_proper, e)
