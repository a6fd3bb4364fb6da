-- Records less sections: what remains of one record, and of all, which is not more and ascends as they do; and how a loop passes the records
-- of a union.
-- Assumes nothing.
use mathlib.Core.Path.{◌≡◌, refl, sym, ap, ◌∙◌}
use mathlib.Core.Bool.{Bool, true, false, cond}
use mathlib.Core.List.{List, [], ◌∷◌, ◌++◌}
use Prim.Native.Nat.{ℕ, suc, ◌+◌, ◌-◌, ◌≤◌, ◌<◌}
use native.Mathlib.Omega.{arith}
use lib.Dec.{leb}
use lib.ListN.{length, drop}
use borrow.Author.Tests.{le-leb}
use Rattle.std.specs.Prelude.{Option, Some, None, is_some}
use Rattle.records_spec.specs.Tables.{At, ◌⦂◌, epochs_of, ascending, has, held, union}
use Rattle.records_spec.specs.Inner.Unions.{Stepped}
use Rattle.records_spec.specs.declared.table.NextRecord.{NextRecord}
use Rattle.records_spec.proofs.Tables.{epochs_cons}
use Rattle.records_spec.proofs.Rising.{asc_head, asc_tail, asc_cons, asc_lower}
use Rattle.splitting_spec.specs.Sections.{minimum}
use Rattle.removal_spec.specs.Removing.{lessened, minus}
use Rattle.removal_spec.specs.Inner.Findings.{rested}

-- ---- one record

-- 3 or less remain, also where the section is 0: the record is dropped
lessened_gone : (ss : List At) (e c : ℕ) → has e ss ≡ true → c - held e ss ≤ minimum → lessened ss (e ⦂ c) ≡ []
lessened_gone ss e c h p = simp (h, le-leb (c - held e ss) minimum p)

-- a record is dropped, or stays with no more than it had
pub lessened_cases : (P : List At → Type 0) (ss : List At) (r : At) → P [] → ((n : ℕ) → n ≤ r.bytes → P (r.epoch ⦂ n ∷ [])) → P (lessened ss r)
lessened_cases P ss r gone stays = go (has r.epoch ss) (leb (r.bytes - held r.epoch ss) minimum)
  where
    go : (a b : Bool) → P (cond a (cond b [] (r.epoch ⦂ (r.bytes - held r.epoch ss) ∷ [])) (r ∷ []))
    go true true = gone
    go true false = stays (r.bytes - held r.epoch ss) (omega arith)
    go false b = stays r.bytes (omega arith)

-- ---- all records

pub minus_none : (ss : List At) → minus [] ss ≡ []
unfolding minus
minus_none ss = refl

pub minus_cons : (r : At) (rs ss : List At) → minus (r ∷ rs) ss ≡ lessened ss r ++ minus rs ss
unfolding minus
minus_cons r rs ss = refl

-- WHAT REMAINS, IF 3 OR LESS, DROPS THE RECORD, ALSO WHERE THE SECTION IS 0
pub minus_drops : (r : At) (rs ss : List At) → has r.epoch ss ≡ true → r.bytes - held r.epoch ss ≤ minimum → minus (r ∷ rs) ss ≡ minus rs ss
minus_drops r rs ss h p = minus_cons r rs ss ∙ ap (λ (l : List At). l ++ minus rs ss) (lessened_gone ss r.epoch r.bytes h p)

pub minus_long : (rs ss : List At) → length (minus rs ss) ≤ length rs
minus_long [] ss = rw (minus_none ss) (omega arith)
minus_long (r ∷ rs) ss =
    let i = minus_long rs ss in
    rw (minus_cons r rs ss) (lessened_cases (λ (l : List At). length (l ++ minus rs ss) ≤ suc (length rs)) ss r (omega arith) (λ n p. omega arith))

-- what remains ascends above the base
pub minus_above : (b : ℕ) (rs ss : List At) → ascending b (epochs_of rs) ≡ true → ascending b (epochs_of (minus rs ss)) ≡ true
minus_above b [] ss h = rw (minus_none ss) h
minus_above b (r ∷ rs) ss h =
    let k : ascending b (r.epoch ∷ epochs_of rs) ≡ true = rw (epochs_cons r rs) at h in
    let p : b < r.epoch = asc_head b r.epoch (epochs_of rs) k in
    let i = minus_above r.epoch rs ss (asc_tail b r.epoch (epochs_of rs) k) in
    rw (minus_cons r rs ss)
    (lessened_cases (λ (l : List At). ascending b (epochs_of (l ++ minus rs ss)) ≡ true) ss r
    (asc_lower b r.epoch (epochs_of (minus rs ss)) (omega arith) i)
    (λ n q. rw (epochs_cons (r.epoch ⦂ n) (minus rs ss)) (asc_cons b r.epoch (epochs_of (minus rs ss)) p i)))

-- ---- the next record of a union, and what stays of it

rested_long : (e : ℕ) (x : Option ℕ) (rs : List At) → length (rested e x ++ rs) ≡ cond (is_some x) 1 0 + length rs
rested_long e None rs = omega arith
rested_long e (Some n) rs = omega arith

module _ {os ts : List At} {a b : ℕ} {r : NextRecord} (s : Stepped os ts a b r) (ss : List At) (x : Option ℕ)
    (h : rested r.epoch x ≡ lessened ss (r.epoch ⦂ r.count)) where
  next_minus : minus (union (drop a os) (drop b ts)) ss ≡ rested r.epoch x ++ minus (union (drop r.i os) (drop r.j ts)) ss
  next_minus =
      ap (λ (l : List At). minus l ss) s.step ∙ minus_cons (r.epoch ⦂ r.count) (union (drop r.i os) (drop r.j ts)) ss
      ∙ ap (λ (l : List At). l ++ minus (union (drop r.i os) (drop r.j ts)) ss) (sym h)

  pub next_stays : (n : ℕ) → x ≡ Some n → minus (union (drop a os) (drop b ts)) ss
      ≡ r.epoch ⦂ n ∷ minus (union (drop r.i os) (drop r.j ts)) ss
  next_stays n e = next_minus ∙ rw e

  pub next_gone : x ≡ None → minus (union (drop a os) (drop b ts)) ss ≡ minus (union (drop r.i os) (drop r.j ts)) ss
  next_gone e = next_minus ∙ rw e

  -- the same counted
  pub next_long : length (minus (union (drop a os) (drop b ts)) ss)
      ≡ cond (is_some x) 1 0 + length (minus (union (drop r.i os) (drop r.j ts)) ss)
  next_long = ap (length {A = At}) next_minus ∙ rested_long r.epoch x (minus (union (drop r.i os) (drop r.j ts)) ss)

-- nothing is left of a union
pub minus_done : (us ss : List At) → us ≡ [] → minus us ss ≡ []
minus_done us ss h = ap (λ (l : List At). minus l ss) h ∙ minus_none ss
