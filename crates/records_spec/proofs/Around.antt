-- What stands around an epoch of a rising table, and a union with one record there before all the rest: ours below it, the record,
-- the union of what is above. By cases on our first epoch.
-- Assumes nothing.
use mathlib.Core.Path.{◌≡◌, refl, sym, ap, ◌∙◌}
use mathlib.Core.List.{List, [], ◌∷◌, ◌++◌}
use mathlib.Core.Bool.{true}
use Prim.Native.Nat.compare
use Prim.Native.Nat.{ℕ, suc, ◌+◌, ◌≤◌, ◌<◌}
use native.Mathlib.Numerals.{add-one}
use native.Mathlib.Omega.{arith}
use lib.Dec.{ltb}
use lib.ListN.{length, take, drop, get_or}
use borrow.Author.Tests.{lt-ltb, le-ltb, eq-eqb, ne_eqb}
use Rattle.records_spec.specs.Tables.{At, ◌⦂◌, records_of, epochs_of, ascending, rising, place_of, has, held, union}
use Rattle.records_spec.specs.Inner.Tables.{Table}
use Rattle.records_spec.specs.Inner.Unions.{spot_of}
use Rattle.records_spec.proofs.Rising.{Side, side, lower, equal, higher, asc_none, asc_head, asc_cons, asc_rises}
use Rattle.records_spec.proofs.Unions.{next_ours, next_theirs, next_both}
use Rattle.records_spec.proofs.Tables.{epochs_records}
use Rattle.records_spec.proofs.Held.{has_above, held_above}

-- ---- the place of an epoch

module _ (e x : ℕ) (xs : List ℕ) where
  pub place_past : x < e → place_of e (x ∷ xs) ≡ suc (place_of e xs)
  unfolding place_of
  place_past p = rw (lt-ltb x e p)

  pub place_front : e ≤ x → place_of e (x ∷ xs) ≡ 0
  unfolding place_of
  place_front p = rw (le-ltb x e p)

-- none is below what all are above
pub place_above : (e b : ℕ) (xs : List ℕ) → e ≤ suc b → ascending b xs ≡ true → place_of e xs ≡ 0
unfolding place_of
place_above e b [] p h = refl
place_above e b (x ∷ xs) p h = let q = asc_head b x xs h in place_front e x xs (omega arith)

pub place_long : (e : ℕ) (xs : List ℕ) → place_of e xs ≤ length xs
unfolding place_of
place_long e [] = omega arith
place_long e (x ∷ xs) = by (side x e) (place_long e xs)
  where
    by : Side x e → place_of e xs ≤ length xs → place_of e (x ∷ xs) ≤ suc (length xs)
    by (lower p) i = rw (place_past e x xs p) (omega arith)
    by (equal p) i = rw (place_front e x xs (omega arith)) (omega arith)
    by (higher p) i = rw (place_front e x xs (omega arith)) (omega arith)

pub place_up : (e : ℕ) (xs : List ℕ) → place_of e xs ≤ place_of (suc e) xs
unfolding place_of
place_up e [] = omega arith
place_up e (x ∷ xs) = by (side x e) (place_up e xs)
  where
    by : Side x e → place_of e xs ≤ place_of (suc e) xs → place_of e (x ∷ xs) ≤ place_of (suc e) (x ∷ xs)
    by (lower p) i = rw (place_past e x xs p, place_past (suc e) x xs (omega arith)) (omega arith)
    by (equal p) i = rw (place_front e x xs (omega arith)) (omega arith)
    by (higher p) i = rw (place_front e x xs (omega arith)) (omega arith)

-- ---- a union around an epoch

-- ours rise, and theirs are above e
pub union_around : (e n : ℕ) (os ts : List At) → rising (epochs_of os) ≡ true → ascending e (epochs_of ts) ≡ true
    → union os (e ⦂ n ∷ ts) ≡ take (place_of e (epochs_of os)) os ++ e ⦂ n ∷ union (drop (place_of (suc e) (epochs_of os)) os) ts
unfolding epochs_of place_of rising
union_around e n [] ts ho ht = next_theirs (e ⦂ n) [] ts (asc_none e) ht
union_around e n (o ∷ os) ts ho ht = by (side o.epoch e) (union_around e n os ts (asc_rises o.epoch (epochs_of os) ho) ht)
  where
    by : Side o.epoch e
        → union os (e ⦂ n ∷ ts) ≡ take (place_of e (epochs_of os)) os ++ e ⦂ n ∷ union (drop (place_of (suc e) (epochs_of os)) os) ts
        → union (o ∷ os) (e ⦂ n ∷ ts) ≡ take (place_of e (epochs_of (o ∷ os))) (o ∷ os) ++ e ⦂ n ∷ union
        (drop (place_of (suc e) (epochs_of (o ∷ os))) (o ∷ os)) ts
    by (lower p) ih =
        rw (lt-ltb o.epoch e p, lt-ltb o.epoch (suc e) (omega arith))
        (next_ours o os (e ⦂ n ∷ ts) (asc_cons o.epoch e (epochs_of ts) p ht) ∙ ap (λ l. o ∷ l) ih)
    by (equal p) ih =
        let z : place_of (suc e) (epochs_of os) ≡ 0 = place_above (suc e) o.epoch (epochs_of os) (omega arith) ho in
        rw (le-ltb o.epoch e (omega arith), lt-ltb o.epoch (suc e) (omega arith), z) (next_both o (e ⦂ n) os ts (sym p) ht)
    by (higher p) ih =
        rw (le-ltb o.epoch e (omega arith), le-ltb o.epoch (suc e) (omega arith))
        (next_theirs (e ⦂ n) (o ∷ os) ts (asc_cons e o.epoch (epochs_of os) p ho) ht)

-- ---- looking up

-- the record at place k is the one at e, and the next is above
record Stands (e k : ℕ) (es cs : List ℕ) : Type 0 where
  pub next : place_of (suc e) es ≡ suc k
  pub count : held e (records_of es cs) ≡ get_or cs k 0

stands : (e : ℕ) (es cs : List ℕ) → length es ≡ length cs → rising es ≡ true → place_of e es < length es → get_or es (place_of e es) 0 ≡ e
    → Stands e (place_of e es) es cs
unfolding place_of held records_of rising
stands e [] cs h r p q = absurd (omega arith)
stands e (x ∷ xs) [] h r p q = absurd (omega arith)
stands e (x ∷ xs) (c ∷ cs) h r p q = by (side x e) (stands e xs cs (omega arith) (asc_rises x xs r))
  where
    by : Side x e → (place_of e xs < length xs → get_or xs (place_of e xs) 0 ≡ e → Stands e (place_of e xs) xs cs)
        → Stands e (place_of e (x ∷ xs)) (x ∷ xs) (c ∷ cs)
    by (lower l) ih =
        let i = ih (omega (arith, rw (lt-ltb x e l) at p)) (rw (lt-ltb x e l) at q) in
        record {
          next = rw (lt-ltb x e l, lt-ltb x (suc e) (omega arith)) (ap suc i.next);
          count = rw (lt-ltb x e l, ne_eqb e x (λ d. omega arith)) i.count;
        }
    by (equal l) ih =
        record {
          next = rw (le-ltb x e (omega arith), lt-ltb x (suc e) (omega arith), place_above (suc e) x xs (omega arith) r);
          count = rw (le-ltb x e (omega arith), eq-eqb e x (sym l));
        }
    by (higher l) ih = let d : x ≡ e = rw (le-ltb x e (omega arith)) at q in absurd (omega arith)

-- none is at e, and the place is that of the next above
record Lacks (e : ℕ) (es cs : List ℕ) : Type 0 where
  pub next : place_of (suc e) es ≡ place_of e es
  pub count : held e (records_of es cs) ≡ 0

lacks : (e : ℕ) (es cs : List ℕ) → length es ≡ length cs → rising es ≡ true → (place_of e es < length es → get_or es (place_of e es) 0 ≡ e → ⊥)
    → Lacks e es cs
unfolding place_of held records_of rising
lacks e [] cs h r d = record { next = refl; count = refl }
lacks e (x ∷ xs) [] h r d = absurd (omega arith)
lacks e (x ∷ xs) (c ∷ cs) h r d = by (side x e) (lacks e xs cs (omega arith) (asc_rises x xs r))
  where
    by : Side x e → ((place_of e xs < length xs → get_or xs (place_of e xs) 0 ≡ e → ⊥) → Lacks e xs cs) → Lacks e (x ∷ xs) (c ∷ cs)
    by (lower l) ih =
        let i = ih (λ p q. d (rw (lt-ltb x e l) (omega arith)) (rw (lt-ltb x e l) q)) in
        record {
          next = rw (lt-ltb x e l, lt-ltb x (suc e) (omega arith)) (ap suc i.next);
          count = rw (ne_eqb e x (λ d. omega arith)) i.count;
        }
    by (equal l) ih = absurd (d (rw (le-ltb x e (omega arith)) (omega arith)) (rw (le-ltb x e (omega arith)) l))
    by (higher l) ih =
        record {
          next = rw (le-ltb x e (omega arith), le-ltb x (suc e) (omega arith));
          count = rw (ne_eqb e x (λ d. omega arith)) (held_above e x (records_of xs cs) (omega arith) (rw (epochs_records xs cs (omega arith)) r));
        }

module _ {es cs : List ℕ} (t : Table es cs) (e k : ℕ) (f : k ≡ place_of e es) where
  pub spot_at : k < length es → get_or es k 0 ≡ e → record { below = k; upto = k + 1; count = get_or cs k 0 } ≡ spot_of e es cs
  spot_at p q =
      let s = stands e es cs t.even t.rises (rw (← f) p) (rw (← f) q) in
      rw (s.next, s.count, ← f, add-one)

  pub spot_off : (k < length es → get_or es k 0 ≡ e → ⊥) → record { below = k; upto = k; count = 0 } ≡ spot_of e es cs
  spot_off d =
      let l = lacks e es cs t.even t.rises (λ p q. d (rw f p) (rw f q)) in
      rw (l.next, l.count, f)

-- a record stands at e exactly if fewer are below it than at most there
has_place : (e : ℕ) (es cs : List ℕ) → length es ≡ length cs → rising es ≡ true → has e (records_of es cs) ≡ ltb (place_of e es) (place_of (suc e) es)
unfolding place_of has records_of rising
has_place e [] cs h r = refl
has_place e (x ∷ xs) [] h r = absurd (omega arith)
has_place e (x ∷ xs) (c ∷ cs) h r = by (side x e) (has_place e xs cs (omega arith) (asc_rises x xs r))
  where
    by : Side x e → has e (records_of xs cs) ≡ ltb (place_of e xs) (place_of (suc e) xs)
        → has e (records_of (x ∷ xs) (c ∷ cs)) ≡ ltb (place_of e (x ∷ xs)) (place_of (suc e) (x ∷ xs))
    by (lower l) ih = rw (ne_eqb e x (λ d. omega arith), lt-ltb x e l, lt-ltb x (suc e) (omega arith), compare.suc-suc) ih
    by (equal l) ih =
        rw (eq-eqb e x (sym l), le-ltb x e (omega arith), lt-ltb x (suc e) (omega arith)) (sym (lt-ltb 0 (suc (place_of (suc e) xs)) (omega arith)))
    by (higher l) ih =
        rw (ne_eqb e x (λ d. omega arith), le-ltb x e (omega arith), le-ltb x (suc e) (omega arith))
        (has_above e x (records_of xs cs) (omega arith) (rw (epochs_records xs cs (omega arith)) r))

pub spot_has : {es cs : List ℕ} → Table es cs → (e : ℕ) → has e (records_of es cs) ≡ ltb (spot_of e es cs).below (spot_of e es cs).upto
spot_has {es} {cs} t e = has_place e es cs t.even t.rises
