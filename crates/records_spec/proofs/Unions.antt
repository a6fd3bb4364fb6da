-- The next record of a union, from the tests that find it, and what the loops over a union keep.
-- A record below all that is left goes to the front; of two at one epoch the incoming one stands.
-- Assumes nothing.
use mathlib.Core.Path.{◌≡◌, refl, sym, ap, ◌∙◌}
use mathlib.Core.List.{List, [], ◌∷◌}
use mathlib.Core.Bool.{Bool, true, false}
use Prim.Native.Nat.{ℕ, ◌+◌, ◌≤◌, ◌<◌}
use native.Mathlib.Omega.{arith}
use lib.Dec.{ltb, eqb}
use lib.ListN.{length, take, drop, get_or, length-drop, drop_of_length-le}
use lib.Seq.{take_all}
use borrow.Author.Tests.{ltb-true, ltb-false, lt-ltb, le-ltb, eqb-true, eqb-false, eq-eqb, ne_eqb}
use Rattle.fields_spec.specs.Inner.Selects.{Selected}
use Rattle.records_spec.specs.Tables.{At, ◌⦂◌, records_of, epochs_of, ascending, put, union}
use Rattle.records_spec.specs.Inner.Tables.{Table, Above}
use Rattle.records_spec.specs.Inner.Unions.{InBoth, Stepped}
use Rattle.records_spec.specs.declared.table.NextRecord.{NextRecord}
use Rattle.records_spec.proofs.Tables.{length_records_of, epochs_records, drop_records, records_on}
use Rattle.records_spec.proofs.Rising.{Side, side, lower, equal, higher, asc_none, asc_head, asc_tail, asc_cons, asc_lower, asc_rises}
use Rattle.records_spec.proofs.Rising.{asc_behind, asc_from}

-- the records' epochs ascend strictly and are above b
abbrev above : ℕ → List At → Type 0
above b rs = ascending b (epochs_of rs) ≡ true

-- ---- put

pub put_front : (r : At) (rs : List At) → above r.epoch rs → put r rs ≡ r ∷ rs
unfolding put epochs_of
put_front r [] h = refl
put_front r (s ∷ ss) h = rw (lt-ltb r.epoch s.epoch (asc_head r.epoch s.epoch (epochs_of ss) h))

pub put_past : (r s : At) (ss : List At) → s.epoch < r.epoch → put r (s ∷ ss) ≡ s ∷ put r ss
unfolding put
put_past r s ss p =
    simp (le-ltb r.epoch s.epoch (omega arith), ne_eqb r.epoch s.epoch (λ e. omega arith))

pub put_at : (r s : At) (ss : List At) → r.epoch ≡ s.epoch → put r (s ∷ ss) ≡ r ∷ ss
unfolding put
put_at r s ss p = simp (le-ltb r.epoch s.epoch (omega arith), eq-eqb r.epoch s.epoch p)

-- by the tests of `put`
pub put_cases : (P : List At → Type 0) (r s : At) (ss : List At)
    → (r.epoch < s.epoch → P (r ∷ s ∷ ss)) → (r.epoch ≡ s.epoch → P (r ∷ ss)) → (s.epoch < r.epoch → P (s ∷ put r ss)) → P (put r (s ∷ ss))
unfolding put
put_cases P r s ss front same past = go (ltb r.epoch s.epoch) refl (eqb r.epoch s.epoch) refl
  where
    go : (x : Bool) → ltb r.epoch s.epoch ≡ x → (y : Bool) → eqb r.epoch s.epoch ≡ y → P (put r (s ∷ ss))
    go true e y f = rw e (front (ltb-true _ _ e))
    go false e true f = rw (e, f) (same (eqb-true _ _ f))
    go false e false f =
        let q : s.epoch ≤ r.epoch = ltb-false _ _ e in
        let d : r.epoch ≡ s.epoch → ⊥ = eqb-false _ _ f in
        rw (e, f) (past (omega arith))

pub put_above : (b : ℕ) (r : At) (rs : List At) → b < r.epoch → above b rs → above b (put r rs)
unfolding put epochs_of
put_above b r [] p h = asc_cons b r.epoch [] p (asc_none r.epoch)
put_above b r (s ∷ ss) p h =
    let behind : above s.epoch ss = asc_tail b s.epoch (epochs_of ss) h in
    put_cases (above b) r s ss
    (λ q. asc_cons b r.epoch _ p (asc_cons r.epoch s.epoch (epochs_of ss) q behind))
    (λ q. asc_cons b r.epoch (epochs_of ss) p (rw q behind))
    (λ q. asc_cons b s.epoch (epochs_of (put r ss)) (asc_head b s.epoch (epochs_of ss) h) (put_above s.epoch r ss q behind))

-- none of theirs
pub union_none : (os : List At) → union os [] ≡ os
unfolding union
union_none os = refl

-- one more of theirs is one more record put in
pub union_put : (t : At) (os ts : List At) → union os (t ∷ ts) ≡ put t (union os ts)
unfolding union
union_put t os ts = refl

-- ---- the next record of a union

pub union_above : (b : ℕ) (os ts : List At) → above b os → above b ts → above b (union os ts)
unfolding union epochs_of
union_above b os [] ho ht = ho
union_above b os (t ∷ ts) ho ht =
    let q : b < t.epoch = asc_head b t.epoch (epochs_of ts) ht in
    let r : above b ts = asc_lower b t.epoch (epochs_of ts) (omega arith) (asc_tail b t.epoch (epochs_of ts) ht) in
    put_above b t (union os ts) q (union_above b os ts ho r)

-- theirs is below all that is left
pub next_theirs : (t : At) (os ts : List At) → above t.epoch os → above t.epoch ts → union os (t ∷ ts) ≡ t ∷ union os ts
unfolding union
next_theirs t os ts ho ht = put_front t (union os ts) (union_above t.epoch os ts ho ht)

-- ours is below all that is left
pub next_ours : (o : At) (os ts : List At) → above o.epoch ts → union (o ∷ os) ts ≡ o ∷ union os ts
unfolding union epochs_of
next_ours o os [] h = refl
next_ours o os (t ∷ ts) h =
    let q : o.epoch < t.epoch = asc_head o.epoch t.epoch (epochs_of ts) h in
    let r : above o.epoch ts = asc_lower o.epoch t.epoch (epochs_of ts) (omega arith) (asc_tail o.epoch t.epoch (epochs_of ts) h) in
    ap (put t) (next_ours o os ts r) ∙ put_past t o (union os ts) q

-- both have the next epoch: theirs stands
pub next_both : (o t : At) (os ts : List At) → t.epoch ≡ o.epoch → above t.epoch ts → union (o ∷ os) (t ∷ ts) ≡ t ∷ union os ts
unfolding union
next_both o t os ts e h = ap (put t) (next_ours o os ts (rw (← e) h)) ∙ put_at t o (union os ts) e

-- ---- tables from a place on

module _ {es cs : List ℕ} (t : Table es cs) (k : ℕ) where
  pub epochs_from : epochs_of (drop k (records_of es cs)) ≡ drop k es
  epochs_from =
      rw (drop_records k es cs) (epochs_records (drop k es) (drop k cs) (simp length-drop (rw t.even)))

  pub record_on : k < length es → drop k (records_of es cs) ≡ get_or es k 0 ⦂ get_or cs k 0 ∷ drop (k + 1) (records_of es cs)
  record_on p = simp drop_records (records_on es cs k p (rw (← t.even) p))

  -- none are behind the end, and all are before it
  pub table_end : length es ≤ k → drop k (records_of es cs) ≡ []
  table_end p = drop_of_length-le (records_of es cs) {i = k} (omega (arith, length_records_of es cs t.even))

  pub table_all : length es ≤ k → take k (records_of es cs) ≡ records_of es cs
  table_all p = take_all k (records_of es cs) (omega (arith, length_records_of es cs t.even))

pub above_table : {e : ℕ} {es cs : List ℕ} → Above e es cs → Table es cs
above_table {e} {es} {cs} a = record { even = a.even; rises = asc_rises e es a.ascends }

-- ---- one step

module _ {oe oc te tc : List ℕ} {i j : ℕ} (ours : Table oe oc) (theirs : Table te tc)
    (w : InBoth (records_of oe oc) (records_of te tc) i j) where
  -- where theirs is at its end, ours is not
  pub some_ours : length te ≤ j → i < length oe
  some_ours p = omega (arith, w.some_left, length_records_of oe oc ours.even, length_records_of te tc theirs.even)

  pub step_ours : i < length oe → ascending (get_or oe i 0) (drop j te) ≡ true
      → Stepped (records_of oe oc) (records_of te tc) i j (record { epoch = get_or oe i 0; count = get_or oc i 0; i = i + 1; j = j })
  step_ours p h =
      record {
        step = rw (record_on ours i p) (next_ours (get_or oe i 0 ⦂ get_or oc i 0) _ _ (rw (epochs_from theirs j) h));
        ours_next = omega (arith, length_records_of oe oc ours.even);
        theirs_next = w.theirs_left;
        falls = omega arith;
      }

  module _ (q : j < length te) where
    theirs_behind : above (get_or te j 0) (drop (j + 1) (records_of te tc))
    theirs_behind = rw (epochs_from theirs (j + 1)) (asc_behind te j theirs.rises q)

    pub step_theirs : ascending (get_or te j 0) (drop i oe) ≡ true
        → Stepped (records_of oe oc) (records_of te tc) i j (record { epoch = get_or te j 0; count = get_or tc j 0; i = i; j = j + 1 })
    step_theirs h =
        record {
          step = rw (record_on theirs j q) (next_theirs (get_or te j 0 ⦂ get_or tc j 0) _ _ (rw (epochs_from ours i) h) theirs_behind);
          ours_next = w.ours_left;
          theirs_next = omega (arith, length_records_of te tc theirs.even);
          falls = omega arith;
        }

    step_both : i < length oe → get_or te j 0 ≡ get_or oe i 0
        → Stepped (records_of oe oc) (records_of te tc) i j (record { epoch = get_or te j 0; count = get_or tc j 0; i = i + 1; j = j + 1 })
    step_both p h =
        record {
          step = rw (record_on ours i p, record_on theirs j q)
              (next_both (get_or oe i 0 ⦂ get_or oc i 0) (get_or te j 0 ⦂ get_or tc j 0) _ _ h theirs_behind);
          ours_next = omega (arith, length_records_of oe oc ours.even);
          theirs_next = omega (arith, length_records_of te tc theirs.even);
          falls = omega arith;
        }

    -- both have a record: the selects give the next
    pub step_selected : {e n a b : ℕ} → i < length oe → Selected (get_or oe i 0) (get_or te j 0) (get_or oe i 0) (get_or te j 0) e
        → Selected (get_or oe i 0) (get_or te j 0) (get_or oc i 0) (get_or tc j 0) n → Selected (get_or te j 0) (get_or oe i 0) i (i + 1) a
        → Selected (get_or oe i 0) (get_or te j 0) j (j + 1) b
        → Stepped (records_of oe oc) (records_of te tc) i j (record { epoch = e; count = n; i = a; j = b })
    step_selected {e} {n} {a} {b} p se sn sa sb = by (side (get_or oe i 0) (get_or te j 0))
      where
        by : Side (get_or oe i 0) (get_or te j 0) → Stepped (records_of oe oc) (records_of te tc) i j (record { epoch = e; count = n; i = a; j = b })
        by (lower l) =
            rw (se.below l, sn.below l, sa.from (omega arith), sb.below l) (step_ours p (asc_from te j (get_or oe i 0) theirs.rises q l))
        by (equal l) =
            rw (se.from (omega arith), sn.from (omega arith), sa.from (omega arith), sb.from (omega arith)) (step_both p (sym l))
        by (higher l) =
            rw (se.from (omega arith), sn.from (omega arith), sa.below l, sb.from (omega arith))
            (step_theirs (asc_from oe i (get_or te j 0) ours.rises p l))

-- ---- the loops over a union

-- at places a and b; the loop stops where they are the ends of both tables
pub record Walking (os ts : List At) (end a b : ℕ) : Type 0 where
  pub stop : end ≡ length os + length ts
  pub ours_left : a ≤ length os
  pub theirs_left : b ≤ length ts

pub walking_start : {oe oc te tc : List ℕ} {i j : ℕ} → Table oe oc → Table te tc → (i ≤ length oe) × (j ≤ length te)
    → Walking (records_of oe oc) (records_of te tc) (length oe + length te) i j
walking_start {oe} {oc} {te} {tc} ours theirs p =
    let m = length_records_of oe oc ours.even in
    let n = length_records_of te tc theirs.even in
    record { stop = omega arith; ours_left = omega arith; theirs_left = omega arith }

module _ {os ts : List At} {end a b : ℕ} (w : Walking os ts end a b) where
  pub walking_within : a + b < end → InBoth os ts a b
  walking_within p =
      record { ours_left = w.ours_left; theirs_left = w.theirs_left; some_left = omega (arith, w.stop) }

  pub walking_step : {r : NextRecord} → Stepped os ts a b r → Walking os ts end r.i r.j
  walking_step s = record { stop = w.stop; ours_left = s.ours_next; theirs_left = s.theirs_next }

  pub walking_done : end ≤ a + b → union (drop a os) (drop b ts) ≡ []
  unfolding union
  walking_done p =
      rw (drop_of_length-le os {i = a} (omega (arith, w.stop)), drop_of_length-le ts {i = b} (omega (arith, w.stop)))
