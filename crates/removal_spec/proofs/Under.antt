-- Rows under one identifier: how the code asks for it, and that the epochs of such rows rise where the rows ascend, so that they are a table.
-- By cases on the rows.
-- Assumes nothing.
use mathlib.Core.Path.{◌≡◌, refl, sym, ap, ◌∙◌}
use mathlib.Core.Bool.{Bool, true, ◌&&◌, and-eq-true_iff, true≢false}
use mathlib.Core.List.{List, [], ◌∷◌}
use Prim.Native.Nat.{ℕ, zero, suc, ◌≤◌, ◌<◌}
use native.Mathlib.Omega.{arith}
use lib.ListN.{length, take}
use lib.Seq.{length-take-le}
use Rattle.std.specs.List.{list_all}
use Rattle.records_spec.specs.Tables.{At, records_of, epochs_of, rising}
use Rattle.records_spec.specs.Inner.Tables.{Table}
use Rattle.records_spec.specs.Flags.{same}
use Rattle.records_spec.proofs.Tables.{epochs_none, epochs_cons, epochs_records}
use Rattle.records_spec.proofs.Rising.{asc_none, asc_cons, asc_of_rises, rises_none, rises_cons}
use Rattle.records_spec.proofs.Owners.{same_self, same_equal}
use Rattle.rows_spec.specs.Rows.{Row, ascends, parts_of, rows_under, Tables, rows_of, rows_in, Room}
use Rattle.rows_spec.specs.Inner.Rows.{Proper}
use Rattle.rows_spec.proofs.Rows.{length_rows, asc_before, asc_tail}
use Rattle.rows_spec.proofs.Under.{under_none}
use Rattle.rows_spec.proofs.Under.{under_cons}
use Rattle.rows_spec.proofs.Parts.{parts_none, parts_cons, parts_in, less_under}
use Rattle.removal_spec.specs.Removing.{all_under, only_under_lem}

all_cons : (i : List ℕ) (r : Row) (rs : List Row) → all_under i (r ∷ rs) ≡ (same r.identifier i && all_under i rs)
unfolding all_under
all_cons i r rs = refl

all_none : (i : List ℕ) → all_under i [] ≡ true
unfolding all_under
all_none i = refl

-- ---- one identifier

-- of rows that stand in tables: each identifier is this
all_ids : (i : List ℕ) (is : List (List ℕ)) (es bs : List ℕ) (n : ℕ) → n ≤ length is → n ≤ length es → n ≤ length bs
    → all_under i (take n (rows_of is (records_of es bs))) ≡ list_all (λ x. same x i) (take n is)
unfolding all_under rows_of records_of
all_ids i is es bs zero h k l = refl
all_ids i [] es bs (suc n) h k l = absurd (omega arith)
all_ids i (x ∷ is) [] bs (suc n) h k l = absurd (omega arith)
all_ids i (x ∷ is) (e ∷ es) [] (suc n) h k l = absurd (omega arith)
all_ids i (x ∷ is) (e ∷ es) (b ∷ bs) (suc n) h k l =
    ap (λ (c : Bool). same x i && c) (all_ids i is es bs n (omega arith) (omega arith) (omega arith))

only_all : (i : List ℕ) (rs : List Row) → 0 < length rs → only_under_lem i rs ≡ all_under i rs
only_all i [] p = absurd (omega arith)
only_all i (r ∷ rs) p = refl

-- of some rows that stand in tables
pub only_ids : {n : ℕ} {t : Tables} → Room n t → 0 < n → (i : List ℕ)
    → only_under_lem i (rows_in n t) ≡ list_all (λ x. same x i) (take n t.ids)
only_ids {n} {t} r p i =
    only_all i (rows_in n t) (omega (arith, length_rows r)) ∙ all_ids i t.ids t.epochs t.bytes n r.ids_long r.epochs_long r.bytes_long

only_true : (i : List ℕ) (rs : List Row) → only_under_lem i rs ≡ true → all_under i rs ≡ true
only_true i [] h = absurd (true≢false (sym h))
only_true i (r ∷ rs) h = h

-- ---- their epochs

under_rises : (i : List ℕ) (rs : List Row) → ascends rs ≡ true → all_under i rs ≡ true → rising (epochs_of (parts_of rs)) ≡ true
under_rises i [] a u = rw (parts_none, epochs_none) rises_none
under_rises i (x ∷ []) a u = rw (parts_cons x [], epochs_cons x.part (parts_of []), parts_none, epochs_none)
    (rises_cons x.part.epoch [] (asc_none x.part.epoch))
under_rises i (x ∷ y ∷ rs) a u =
    let p = (and-eq-true_iff (same x.identifier i) (all_under i (y ∷ rs))).0 (sym (all_cons i x (y ∷ rs)) ∙ u) in
    let q = (and-eq-true_iff (same y.identifier i) (all_under i rs)).0 (sym (all_cons i y rs) ∙ p.1) in
    let l = less_under x y (same_equal _ _ p.0 ∙ sym (same_equal _ _ q.0)) (asc_before x (y ∷ rs) a) in
    let h = under_rises i (y ∷ rs) (asc_tail x (y ∷ rs) a) p.1 in
    let es = parts_cons y rs in
    let k : rising (y.part.epoch ∷ epochs_of (parts_of rs)) ≡ true = rw (parts_cons y rs, epochs_cons y.part (parts_of rs)) at h in
    rw (parts_cons x (y ∷ rs), epochs_cons x.part (parts_of (y ∷ rs)), parts_cons y rs, epochs_cons y.part (parts_of rs))
    (rises_cons x.part.epoch (y.part.epoch ∷ epochs_of (parts_of rs))
    (asc_cons x.part.epoch y.part.epoch (epochs_of (parts_of rs)) l (asc_of_rises y.part.epoch (epochs_of (parts_of rs)) k)))

-- rows of one identifier are a table of sections
pub under_table : {n : ℕ} {t : Tables} → Proper n t → (i : List ℕ) → only_under_lem i (rows_in n t) ≡ true → Table (take n t.epochs) (take n t.bytes)
under_table {n} {t} p i h =
    let e : length (take n t.epochs) ≡ length (take n t.bytes) =
    length-take-le n t.epochs p.room.epochs_long ∙ sym (length-take-le n t.bytes p.room.bytes_long) in
    record {
      even = e;
      rises = rw (parts_in p.room, epochs_records (take n t.epochs) (take n t.bytes) e) at
          (under_rises i (rows_in n t) p.rises (only_true i (rows_in n t) h));
    }

-- sections under an identifier are its alone, if there is one
pub only_under : (i : List ℕ) (s : At) (ss : List At) → only_under_lem i (rows_under i (s ∷ ss)) ≡ true
only_under i s ss = ap (only_under_lem i) (under_cons i s ss) ∙ all i s ss
  where
    all : (i : List ℕ) (s : At) (ss : List At) → all_under i (record { identifier = i; part = s } ∷ rows_under i ss) ≡ true
    all i s [] = all_cons i _ (rows_under i []) ∙ rw (same_self i, under_none i) (all_none i)
    all i s (u ∷ us) = all_cons i _ (rows_under i (u ∷ us)) ∙ rw (same_self i, under_cons i u us) (all i u us)
