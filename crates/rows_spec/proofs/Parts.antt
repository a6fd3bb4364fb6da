-- Rows without their identifiers, and those of the tables; and rows of one identifier, which stand as their epochs do. By cases on the rows.
-- Assumes nothing.
use mathlib.Core.Path.{◌≡◌, refl, sym, ap, ◌∙◌}
use mathlib.Core.Logic.{⊎_elim}
use mathlib.Core.List.{List, [], ◌∷◌}
use Prim.Native.Nat.{ℕ, zero, suc, ◌≤◌, ◌<◌}
use native.Mathlib.Nat.{le_of_suc-le-suc, not-suc-le-zero}
use lib.ListN.{length, take}
use Rattle.records_spec.specs.Tables.{At, records_of}
use Rattle.records_spec.proofs.Tables.{take_records}
use Rattle.rows_spec.specs.Rows.{Row, compared, parts_of, Tables, rows_of, rows_in, Room}
use Rattle.std.specs.declared.cmp.Ordering.TheVariants.{Less, Equal}
use Rattle.rows_spec.proofs.Comparing.{compared_under, by_less_inv}

-- ---- without identifiers

pub parts_none : parts_of [] ≡ []
unfolding parts_of
parts_none = refl

pub parts_cons : (r : Row) (rs : List Row) → parts_of (r ∷ rs) ≡ r.part ∷ parts_of rs
unfolding parts_of
parts_cons r rs = refl

parts_first : (n : ℕ) (is : List (List ℕ)) (ps : List At) → n ≤ length is → parts_of (take n (rows_of is ps)) ≡ take n ps
unfolding parts_of rows_of
parts_first zero is ps h = refl
parts_first (suc n) [] ps h = absurd (not-suc-le-zero h)
parts_first (suc n) (i ∷ is) [] h = refl
parts_first (suc n) (i ∷ is) (p ∷ ps) h = ap (λ (l : List At). p ∷ l) (parts_first n is ps (le_of_suc-le-suc h))

-- the first n rows of the tables are the records of the other two
pub parts_in : {n : ℕ} {t : Tables} → Room n t → parts_of (rows_in n t) ≡ records_of (take n t.epochs) (take n t.bytes)
parts_in {n} {t} r = parts_first n t.ids (records_of t.epochs t.bytes) r.ids_long ∙ take_records n t.epochs t.bytes

-- ---- of one identifier

-- of two rows of one identifier the first has the lower epoch
pub less_under : (a b : Row) → a.identifier ≡ b.identifier → compared a b ≡ Less → a.part.epoch < b.part.epoch
less_under a b e h =
    ⊎_elim (λ p. p) (λ p. let e : Equal ≡ Less = p.1 in cc)
    (by_less_inv a.part.epoch b.part.epoch Equal
    (sym (compared_under b.identifier a.part.epoch b.part.epoch a.part.bytes b.part.bytes) ∙ rw e at h))
