-- A union as it is joined: those of ours that are below all of theirs stand before the union of the rest, and where one side is passed the
-- rest is what is left of the other. By cases on our first epoch.
-- Assumes nothing.
use mathlib.Core.Path.{◌≡◌, refl, sym, ap, ◌∙◌}
use mathlib.Core.List.{List, [], ◌∷◌, ◌++◌, append-nil}
use mathlib.Core.Bool.{true}
use Prim.Native.Nat.{ℕ, ◌+◌, ◌-◌, ◌≤◌, ◌<◌}
use native.Mathlib.Omega.{arith}
use native.Mathlib.Decide.{dec_lt}
use lib.ListN.{length, take, drop, get_or, length-drop, drop_of_length-le}
use lib.Seq.{length-take-le, take_all, take-length, drop-length, drop_at, drop-drop, take-add}
use borrow.Author.Tests.{lt-ltb, le-ltb}
use Rattle.records_spec.specs.Tables.{At, records_of, epochs_of, rising, place_of, union}
use Rattle.records_spec.specs.Inner.Tables.{Table}
use Rattle.records_spec.specs.Inner.Runs.{stretch, lead}
use Rattle.records_spec.proofs.Tables.{length_records_of, length_epochs_of}
use Rattle.records_spec.proofs.Rising.{asc_cons, rising_drop, drop_next, place_within}
use Rattle.records_spec.proofs.Unions.{union_none, next_ours, epochs_from, table_end, table_all}
use Rattle.records_spec.proofs.Merged.{union_theirs}

-- ---- the lead of ours

lead_long : (es ts : List ℕ) → lead es ts ≤ length es
unfolding lead
lead_long es [] = omega arith
lead_long es (t ∷ ts) = place_within t es

-- a part of a slice from a place on
part_on : (i : ℕ) (es : List ℕ) → take (length es - i) (drop i es) ≡ drop i es
part_on i es = take_all (length es - i) (drop i es) (omega (arith, length-drop i es))

pub part_rises : (i : ℕ) (es : List ℕ) → rising es ≡ true → rising (take (length es - i) (drop i es)) ≡ true
part_rises i es h = rw (part_on i es) (rising_drop i es h)

module _ (oe te : List ℕ) (i j : ℕ) where
  -- by the place of their first epoch among ours
  pub lead_place : {k : ℕ} → j < length te → k ≡ place_of (get_or te j 0) (take (length oe - i) (drop i oe)) → i + k ≡ i + lead (drop i oe) (drop j te)
  unfolding lead
  lead_place p h = rw (h, part_on i oe, drop_next te j p)

  -- there is none of theirs
  pub lead_all : i ≤ length oe → length te ≤ j → length oe ≡ i + lead (drop i oe) (drop j te)
  unfolding lead
  lead_all p q = rw (drop_of_length-le te {i = j} q, length-drop i oe) (omega arith)

  pub lead_within : i ≤ length oe → i + lead (drop i oe) (drop j te) ≤ length oe
  lead_within p = omega (arith, lead_long (drop i oe) (drop j te), length-drop i oe)

-- ---- what a union begins with, and what is left of it

union_place : (t : At) (os ts : List At) → rising (epochs_of (t ∷ ts)) ≡ true
    → union os (t ∷ ts) ≡ take (place_of t.epoch (epochs_of os)) os ++ union (drop (place_of t.epoch (epochs_of os)) os) (t ∷ ts)
unfolding epochs_of place_of rising
union_place t [] ts h = refl
union_place t (o ∷ os) ts h =
    elim (dec_lt o.epoch t.epoch) [
      | yes p ↦
          rw (lt-ltb o.epoch t.epoch p)
          (next_ours o os (t ∷ ts) (asc_cons o.epoch t.epoch (epochs_of ts) p h) ∙ ap (λ l. o ∷ l) (union_place t os ts h))
      | no p ↦ rw (le-ltb o.epoch t.epoch (omega arith))
    ]

union_first : (os ts : List At) → rising (epochs_of ts) ≡ true
    → union os ts ≡ take (lead (epochs_of os) (epochs_of ts)) os ++ union (drop (lead (epochs_of os) (epochs_of ts)) os) ts
unfolding epochs_of lead union
union_first os [] h = rw (length_epochs_of os, take-length os, drop-length os) (sym (append-nil os))
union_first os (t ∷ ts) h = union_place t os ts h

module _ {oe oc te tc : List ℕ} (ours : Table oe oc) (theirs : Table te tc) where
  theirs_rise : (b : ℕ) → rising (epochs_of (drop b (records_of te tc))) ≡ true
  theirs_rise b = rw (epochs_from theirs b) (rising_drop b te theirs.rises)

  -- the lead of ours, from places i and j on, goes up to the place n
  pub union_lead : (i j : ℕ) {n : ℕ} → i ≤ length oe → n ≡ i + lead (drop i oe) (drop j te)
      → union (drop i (records_of oe oc)) (drop j (records_of te tc))
      ≡ stretch i n (records_of oe oc) ++ union (drop n (records_of oe oc)) (drop j (records_of te tc))
  union_lead i j {n} p h =
      let m = lead (drop i oe) (drop j te) in
      let os = records_of oe oc in
      let l : length (take i os) ≡ i = length-take-le i os (omega (arith, length_records_of oe oc ours.even)) in
      rw (h, take-add i m os, drop_at (take i os) (take m (drop i os)) i l, ← drop-drop m i os)
      (rw (epochs_from ours i, epochs_from theirs j) at (union_first (drop i os) (drop j (records_of te tc)) (theirs_rise j)))

  -- theirs are passed: what is left is a run of ours, and none behind it
  pub left_ours : (a b : ℕ) → length te ≤ b → union (drop a (records_of oe oc)) (drop b (records_of te tc))
      ≡ stretch a (length oe) (records_of oe oc) ++ []
  left_ours a b p =
      rw (table_end theirs b p, table_all ours (length oe) (omega arith), append-nil) (union_none (drop a (records_of oe oc)))

  -- ours are passed: a run of theirs
  pub left_theirs : (a b : ℕ) → length oe ≤ a
      → union (drop a (records_of oe oc)) (drop b (records_of te tc)) ≡ stretch b (length te) (records_of te tc) ++ []
  left_theirs a b p =
      rw (table_end ours a p, table_all theirs (length te) (omega arith), append-nil) (union_theirs (drop b (records_of te tc)) (theirs_rise b))
