-- The union of two rising tables is the merge of two lists that the code does, and it is not longer than both. By cases on the first epochs.
-- Assumes nothing.
use mathlib.Core.Path.{◌≡◌, refl, sym, ap, ◌∙◌}
use mathlib.Core.List.{List, [], ◌∷◌}
use mathlib.Core.Bool.{true}
use Prim.Native.Nat.{suc, ◌+◌, ◌≤◌}
use native.Mathlib.Omega.{arith}
use lib.ListN.{length}
use borrow.Author.Tests.{lt-ltb, le-ltb, eq-eqb, ne_eqb}
use Rattle.records_spec.specs.Tables.{At, epochs_of, rising, put, union}
use Rattle.records_spec.specs.Inner.Unions.{merged}
use Rattle.records_spec.proofs.Rising.{Side, side, lower, equal, higher, asc_none, asc_cons, asc_rises}
use Rattle.records_spec.proofs.Unions.{put_cases, next_ours, next_theirs, next_both}

-- a union with none of ours is theirs
pub union_theirs : (ts : List At) → rising (epochs_of ts) ≡ true → union [] ts ≡ ts
unfolding union epochs_of rising
union_theirs [] h = refl
union_theirs (t ∷ ts) h = next_theirs t [] ts (asc_none t.epoch) h ∙ ap (λ l. t ∷ l) (union_theirs ts (asc_rises t.epoch (epochs_of ts) h))

-- THE UNION IS THE TWO-LIST MERGE
pub union_merged : (os ts : List At) → rising (epochs_of os) ≡ true → rising (epochs_of ts) ≡ true → union os ts ≡ merged os ts
unfolding merged union epochs_of rising
union_merged [] ts ho ht = union_theirs ts ht
union_merged (o ∷ os) [] ho ht = refl
union_merged (o ∷ os) (t ∷ ts) ho ht =
    by (side o.epoch t.epoch)
    (union_merged os (t ∷ ts) (asc_rises o.epoch (epochs_of os) ho) ht)
    (union_merged os ts (asc_rises o.epoch (epochs_of os) ho) (asc_rises t.epoch (epochs_of ts) ht))
    (union_merged (o ∷ os) ts ho (asc_rises t.epoch (epochs_of ts) ht))
  where
    by : Side o.epoch t.epoch → union os (t ∷ ts) ≡ merged os (t ∷ ts) → union os ts ≡ merged os ts → union (o ∷ os) ts ≡ merged (o ∷ os) ts
        → union (o ∷ os) (t ∷ ts) ≡ merged (o ∷ os) (t ∷ ts)
    by (lower p) a b c =
        rw (lt-ltb o.epoch t.epoch p) (next_ours o os (t ∷ ts) (asc_cons o.epoch t.epoch (epochs_of ts) p ht) ∙ ap (λ l. o ∷ l) a)
    by (equal p) a b c =
        rw (le-ltb o.epoch t.epoch (omega arith), eq-eqb o.epoch t.epoch p) (next_both o t os ts (sym p) ht ∙ ap (λ l. t ∷ l) b)
    by (higher p) a b c =
        rw (le-ltb o.epoch t.epoch (omega arith), ne_eqb o.epoch t.epoch (λ e. omega arith))
        (next_theirs t (o ∷ os) ts (asc_cons t.epoch o.epoch (epochs_of os) p ho) ht ∙ ap (λ l. t ∷ l) c)

-- ---- lengths

put_long : (r : At) (rs : List At) → length (put r rs) ≤ suc (length rs)
unfolding put
put_long r [] = omega arith
put_long r (s ∷ ss) = let i = put_long r ss in
    put_cases (λ l. length l ≤ suc (suc (length ss))) r s ss (λ p. omega arith) (λ p. omega arith) (λ p. omega arith)

pub union_long : (os ts : List At) → length (union os ts) ≤ length os + length ts
unfolding union
union_long os [] = omega arith
union_long os (t ∷ ts) = let i = union_long os ts in let j = put_long t (union os ts) in omega arith
