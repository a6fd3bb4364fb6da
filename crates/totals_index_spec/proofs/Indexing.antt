-- Taking apart, changing and putting together is what the statement of `replace_structs` says, once the table was judged. By whether the change is
-- accepted and has room: then the work area holds the table's rows, and `totals::replace` accepts there too; else nothing is written.
-- Assumes nothing.
use mathlib.Core.Path.{◌≡◌, refl, sym, ap, ◌∙◌}
use mathlib.Core.Bool.{Bool, true, false, cond, ◌&&◌, and-eq-true_iff}
use Rattle.std.specs.Prelude.{Option}
use mathlib.Core.List.{List}
use Prim.Native.Nat.{ℕ, ◌+◌, ◌≤◌}
use native.Mathlib.Omega.{arith}
use lib.Dec.{leb, eqb}
use lib.ListN.{length}
use borrow.Author.Tests.{leb-true}
use Rattle.records_spec.specs.Tables.{over}
use Rattle.records_spec.specs.Flags.{Flags}
use Rattle.records_spec.proofs.Answers.{refused_not_ok}
use Rattle.rows_spec.specs.Rows.{Row, Tables, rows_in, room_in, proper_rows, over_rows, Room}
use Rattle.rows_spec.proofs.Columns.{rows_back, over_rows_lem, room_over, over_nothing}
use Rattle.rows_spec.proofs.Rows.{length_rows, room_in_lem}
use Rattle.totals_spec.specs.Calls.{RowsAfter, proper_table, replacing}
use Rattle.totals_spec.specs.Replacing.{replaced}
use Rattle.totals_spec.specs.Inner.Steps.{counted_rows}
use Rattle.records_spec.specs.Outcomes.{refused, Answer, ok, refusing, leaving, kept, after, answered}
use Rattle.records_spec.specs.Refusals.{number}
use Rattle.records_spec.specs.declared.refusal.Refusal.TheVariants.{BadTable, NoRoom, Overflow, IndexMismatch}
use Rattle.std.specs.Prelude.{Result}
use Rattle.records_spec.specs.declared.refusal.Refusal.{Refusal}
use Rattle.totals_index_spec.specs.Structs.{columns, structs}
use Rattle.totals_index_spec.specs.Calls.{beside, verdict, placing_structs, replacing_structs}
use Rattle.totals_index_spec.specs.Inner.Judging.{verdict_of, refusal_for}
use Rattle.totals_index_spec.specs.Inner.Steps.{rows_told, fitted_in, replacing_in}
use Rattle.totals_index_spec.specs.declared.judging.Judging.{Judging}
use Rattle.totals_index_spec.specs.declared.structs.Total.{Total}
use Rattle.totals_index_spec.proofs.Columns.{length_owners}

-- ---- a verdict that has a number has rows

module _ (v : Answer (List Row)) where
  pub record HasRows (k : ℕ) : Type 0 where
    pub found : List Row
    pub is_ok : v ≡ ok found
    pub counted : k ≡ length found

has_rows : (v : Answer (List Row)) (k : ℕ) → ok k ≡ counted_rows v → HasRows v k
has_rows (ok rs) k e = record { found = rs; is_ok = refl; counted = cc }
has_rows (refused m) k e = absurd (refused_not_ok m k (sym e))

has_none : (v : Answer (List Row)) (m : ℕ) → refused m ≡ counted_rows v → v ≡ refused m
has_none (ok rs) m e = absurd (refused_not_ok m (length rs) e)
has_none (refused k) m e = let z : m ≡ k = cc in ap (λ (x : ℕ). refused x) (sym z)

module _ (n : ℕ) (ts : List Total) (good : Bool) (old new : Option Flags) where
  -- the table and the flags are proper
  pub record Good (rs : List Row) : Type 0 where
    pub table_proper : proper_table n (columns ts) ≡ true
    pub flags_proper : good ≡ true
    pub changes : replaced old new (rows_in n (columns ts)) ≡ ok rs

  verdict_good : (rs : List Row) → verdict n ts good old new ≡ ok rs → Good rs
  unfolding verdict
  verdict_good rs e = go (proper_table n (columns ts)) refl good refl e
    where
      go : (p : Bool) → proper_table n (columns ts) ≡ p → (g : Bool) → good ≡ g
          → cond (p && g) (replaced old new (rows_in n (columns ts))) (refused (number BadTable)) ≡ ok rs → Good rs
      go true p true g h = record { table_proper = p; flags_proper = g; changes = h }
      go true p false g h = absurd (refused_not_ok (number BadTable) rs h)
      go false p g q h = absurd (refused_not_ok (number BadTable) rs h)

-- the rows of a proper table stand in it
proper_room : (n : ℕ) (t : Tables) → proper_table n t ≡ true → Room n t
unfolding proper_table proper_rows
proper_room n t h = room_in_lem n t ((and-eq-true_iff (room_in n t) _).0 ((and-eq-true_iff (proper_rows n t) _).0 h).0).0

-- what is proper depends on the rows alone, where they have room
same_proper : (n : ℕ) (s t : Tables) → room_in n s ≡ true → rows_in n s ≡ rows_in n t → proper_table n t ≡ true → proper_table n s ≡ true
unfolding proper_table proper_rows
same_proper n s t r e h =
    let p = (and-eq-true_iff (proper_rows n t) _).0 h in
    let q = (and-eq-true_iff (room_in n t) _).0 p.0 in
    rw (r, e, q.1, p.1) refl

-- where the rows and the flags are proper and the new rows have room, `totals::replace` accepts
accepts : (n : ℕ) (w : Tables) (good : Bool) (old new : Option Flags) (rs : List Row) → proper_table n w ≡ true → good ≡ true
    → replaced old new (rows_in n w) ≡ ok rs → room_in (length rs) w ≡ true
    → replacing n w good old new ≡ after (ok (length rs)) (over_rows rs w)
unfolding replacing leaving
accepts n w good old new rs p g c r = rw (p, g, c, r) refl

-- no rows over a table leave it
nothing_over : (ts : List Total) (m : ℕ) (t : Tables) → m ≡ 0 → over (structs (rows_in m t)) ts ≡ ts
unfolding structs
nothing_over ts m t z = ap (λ (x : ℕ). over (structs (rows_in x t)) ts) z

-- ---- the call

module _ (j : Judging) (ts : List Total) (work : Tables) (good : Bool) (old new : Option Flags)
    (judged : verdict_of j ≡ counted_rows (verdict j.rows ts good old new)) where
  abbrev n : ℕ
  n = j.rows

  abbrev k : ℕ
  k = j.left + j.made

  -- how many rows are taken apart, and the work area then
  abbrev pub taken : ℕ
  taken = cond (fitted_in j (length ts) work) n 0

  abbrev pub apart : Tables
  apart = over_rows (rows_in taken (columns ts)) work

  -- ---- where the change is accepted and has room

  record Accepted : Type 0 where
    is_ok : ok k ≡ counted_rows (verdict n ts good old new)
    in_table : leb k (length ts) ≡ true
    before : room_in n work ≡ true
    after : room_in k work ≡ true

  module _ (h : fitted_in j (length ts) work ≡ true) where
    accepted : Accepted
    accepted =
        let a = (and-eq-true_iff (j.good && (eqb j.owed 0 && j.fits)) _).0 h in
        let b = (and-eq-true_iff j.good _).0 a.0 in
        let c = (and-eq-true_iff (eqb j.owed 0) j.fits).0 b.1 in
        let d = (and-eq-true_iff (leb k (length ts)) _).0 a.1 in
        let e = (and-eq-true_iff (room_in n work) (room_in k work)).0 d.1 in
        record {
          is_ok = rw (b.0, c.0, c.1) at judged;
          in_table = d.0;
          before = e.0;
          after = e.1;
        }

    rows_after : HasRows (verdict n ts good old new) k
    rows_after = has_rows _ k accepted.is_ok

    abbrev rs : List Row
    rs = rows_after.found

    is_good : Good n ts good old new rs
    is_good = verdict_good n ts good old new rs rows_after.is_ok

    long : length (rows_in n (columns ts)) ≡ n
    long = length_rows (proper_room n (columns ts) is_good.table_proper)

    rows_fit : n ≤ length ts
    rows_fit = omega (arith, (proper_room n (columns ts) is_good.table_proper).ids_long, length_owners ts)

    -- the table's rows over the work area
    abbrev stood : Tables
    stood = over_rows (rows_in n (columns ts)) work

    same_room : (m : ℕ) → room_in m stood ≡ room_in m work
    same_room m = room_over (rows_in n (columns ts)) work m (rw long (room_in_lem n work accepted.before))

    rows_stand : rows_in n stood ≡ rows_in n (columns ts)
    rows_stand = ap (λ (m : ℕ). rows_in m stood) (sym long) ∙ rows_back (rows_in n (columns ts)) work

    room_after : room_in (length rs) stood ≡ true
    room_after = same_room (length rs) ∙ ap (λ (m : ℕ). room_in m work) (sym rows_after.counted) ∙ accepted.after

    -- `totals::replace` accepts there too
    done : replacing n stood good old new ≡ after (ok (length rs)) (over_rows rs stood)
    done =
        accepts n stood good old new rs
        (same_proper n stood (columns ts) (same_room n ∙ accepted.before) rows_stand is_good.table_proper)
        is_good.flags_proper
        (ap (replaced old new) rows_stand ∙ is_good.changes)
        room_after

    -- and so does the statement
    stated : replacing_structs n ts work good old new ≡ after (ok (length rs)) (beside (over (structs rs) ts) (over_rows rs stood))
    unfolding replacing_structs placing_structs leaving
    stated = rw (rows_after.is_ok, ← rows_after.counted, accepted.in_table, accepted.before, accepted.after) refl

  -- ---- where it is not

  module _ (h : fitted_in j (length ts) work ≡ false) where
    no_room : (v : Answer (List Row)) → ok k ≡ counted_rows v → (leb k (length ts) && (room_in n work && room_in k work)) ≡ false
        → placing_structs n v ts work ≡ refusing NoRoom (beside ts work)
    unfolding placing_structs leaving
    no_room v e f = let r = has_rows v k e in rw (r.is_ok, ← r.counted, f) refl

    refused_so : (v : Answer (List Row)) (m : ℕ) → refused m ≡ counted_rows v → placing_structs n v ts work ≡ kept m (beside ts work)
    unfolding placing_structs leaving
    refused_so v m e = rw (has_none v m e) refl

    stated_not : replacing_structs n ts work good old new ≡ refusing (refusal_for j) (beside ts work)
    unfolding replacing_structs
    stated_not = go j.good refl (eqb j.owed 0) refl j.fits refl
      where
        go : (g : Bool) → j.good ≡ g → (o : Bool) → eqb j.owed 0 ≡ o → (f : Bool) → j.fits ≡ f
            → placing_structs n (verdict n ts good old new) ts work ≡ refusing (refusal_for j) (beside ts work)
        go true p true q true r = rw (p, q, r) (no_room _ (rw (p, q, r) at judged) (rw (p, q, r) at h))
        go true p true q false r = rw (p, q, r) (refused_so _ (number Overflow) (rw (p, q, r) at judged))
        go true p false q f r = rw (p, q) (refused_so _ (number IndexMismatch) (rw (p, q) at judged))
        go false p o q f r = rw p (refused_so _ (number BadTable) (rw p at judged))

  -- ---- what the functions ask, and what they leave

  taking : (b : Bool) → fitted_in j (length ts) work ≡ b → (taken ≤ length ts) × Room taken work
  taking true h =
      let e : taken ≡ n = ap (λ (b : Bool). cond b n 0) h in
      rw e (rows_fit h, room_in_lem n work (accepted h).before)
  taking false h =
      let e : taken ≡ 0 = ap (λ (b : Bool). cond b n 0) h in
      rw e (omega arith, record { ids_long = omega arith; epochs_long = omega arith; bytes_long = omega arith })

  -- what `take_apart` asks
  pub can_take : (taken ≤ length ts) × Room taken work
  can_take = taking (fitted_in j (length ts) work) refl

  module _ (r : Result ℕ Refusal) (then : Tables) where
    -- what `put_together` asks, and what is left behind it
    pub record Put : Type 0 where
      pub count_fits : rows_told (answered r) ≤ length ts
      pub rows_there : Room (rows_told (answered r)) then
      pub all_left : after (answered r) (beside (over (structs (rows_in (rows_told (answered r)) then)) ts) then)
          ≡ replacing_structs n ts work good old new

    put_by : (b : Bool) → fitted_in j (length ts) work ≡ b → after (answered r) then ≡ replacing_in (length ts) j apart good old new → Put
    put_by true h e =
        let all : apart ≡ stood h = ap (λ (b : Bool). over_rows (rows_in (cond b n 0) (columns ts)) work) h in
        let fits : fitted_in j (length ts) (stood h) ≡ true = rw (same_room h n, same_room h k) h in
        let end : after (answered r) then ≡ after (ok (length (rs h))) (over_rows (rs h) (stood h)) =
        e ∙ ap (λ (w : Tables). replacing_in (length ts) j w good old new) all ∙ rw fits (done h) in
        let p : answered r ≡ ok (length (rs h)) = ap (λ (a : RowsAfter). a.answer) end in
        let q : then ≡ over_rows (rs h) (stood h) = ap (λ (a : RowsAfter). a.lent) end in
        let z : rows_told (answered r) ≡ length (rs h) = ap rows_told p in
        let back : rows_in (rows_told (answered r)) then ≡ rs h = ap (λ (m : ℕ). rows_in m then) z ∙ ap (rows_in (length (rs h))) q
        ∙ rows_back (rs h) (stood h) in
        record {
          count_fits = omega (arith, z, (rows_after h).counted, leb-true k (length ts) (accepted h).in_table);
          rows_there = rw (z, q) (over_rows_lem (rs h) (stood h));
          all_left = (λ i. after (p i) (beside (over (structs (back i)) ts) (q i))) ∙ sym (stated h);
        }
    put_by false h e =
        let none : apart ≡ work = ap (λ (b : Bool). over_rows (rows_in (cond b n 0) (columns ts)) work) h ∙ over_nothing work in
        let end : after (answered r) then ≡ refusing (refusal_for j) work = e ∙ ap (λ (w : Tables). replacing_in (length ts) j w good old new) none
        ∙ rw h refl in
        let p : answered r ≡ refused (number (refusal_for j)) = ap (λ (a : RowsAfter). a.answer) end in
        let q : then ≡ work = ap (λ (a : RowsAfter). a.lent) end in
        let z : rows_told (answered r) ≡ 0 = ap rows_told p in
        record {
          count_fits = omega (arith, z);
          rows_there = record { ids_long = omega (arith, z); epochs_long = omega (arith, z); bytes_long = omega (arith, z) };
          all_left = (λ i. after (p i) (beside (nothing_over ts (rows_told (answered r)) then z i) (q i))) ∙ sym (stated_not h);
        }

    -- WHAT WAS TAKEN APART AND CHANGED CAN BE PUT TOGETHER, AND IS WHAT THE STATEMENT SAYS
    pub can_put : after (answered r) then ≡ replacing_in (length ts) j apart good old new → Put
    can_put = put_by (fitted_in j (length ts) work) refl
