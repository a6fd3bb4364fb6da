-- What proper flags are, read back from `proper`: its tests one by one, their tables, that their kind is the one that owner and records
-- tell, and that a head's owner is that of its flags. And flags that stand at the start of two tables: they are proper, and are read back.
-- Assumes nothing.
use mathlib.Core.Path.{◌≡◌, refl, sym, ap, ◌∙◌}
use mathlib.Core.Bool.{Bool, true, false, ◌&&◌, and-eq-true_iff}
use Rattle.std.specs.Prelude.{Option, None, Some}
use mathlib.Core.List.{List}
use Prim.Native.Nat.{ℕ, ◌≤◌}
use native.Mathlib.Omega.{arith}
use lib.Dec.{leb, eqb}
use lib.ListN.{length, take}
use lib.Seq.{length-take-le}
use borrow.Author.Tests.{le-leb, leb-true, ne_eqb, eqb-false}
use Rattle.records_spec.specs.Tables.{records_of, epochs_of, counts_of, ascending}
use Rattle.records_spec.specs.Inner.Tables.{Table, Above}
use Rattle.records_spec.specs.Flags.{Flags, flags, owned, owner_if, id_of, owner_of, kind_of, head_of, flags_of, agrees, proper, holding}
use Rattle.records_spec.specs.declared.head.Head.{Head}
use Rattle.records_spec.specs.declared.head.Kind.{Kind}
use Rattle.records_spec.specs.declared.head.Kind.TheVariants.{SingleEpoch, MultiEpoch, SingleEpochOwned, MultiEpochOwned}
use Rattle.records_spec.proofs.Tables.{length_records_of, epochs_records, records_back}
use Rattle.records_spec.proofs.Unions.{above_table}

pub record IsProper (h : Head) (es cs : List ℕ) : Type 0 where
  pub agrees_kind : agrees h.kind h.records ≡ true
  pub epochs_long : h.records ≤ length es
  pub counts_long : h.records ≤ length cs
  pub ascends : ascending h.base (take h.records es) ≡ true

pub proper_inv : (h : Head) (es cs : List ℕ) → proper (holding h es cs) ≡ true → IsProper h es cs
unfolding proper
proper_inv h es cs p =
    let n = h.records in
    let a = ascending h.base (take n es) in
    let x = (and-eq-true_iff (agrees h.kind n) (leb n (length es) && (leb n (length cs) && a))).0 p in
    let y = (and-eq-true_iff (leb n (length es)) (leb n (length cs) && a)).0 x.1 in
    let z = (and-eq-true_iff (leb n (length cs)) a).0 y.1 in
    record {
      agrees_kind = x.0;
      epochs_long = leb-true n (length es) y.0;
      counts_long = leb-true n (length cs) z.0;
      ascends = z.1;
    }

-- the records of proper flags, as tables that a union takes
module _ {h : Head} {es cs : List ℕ} (p : IsProper h es cs) where
  pub proper_above : Above h.base (take h.records es) (take h.records cs)
  proper_above =
      record {
        even = length-take-le h.records es p.epochs_long ∙ sym (length-take-le h.records cs p.counts_long);
        ascends = p.ascends;
      }

  pub proper_table_lem : Table (take h.records es) (take h.records cs)
  proper_table_lem = above_table proper_above

  pub proper_long : length (records_of (take h.records es) (take h.records cs)) ≡ h.records
  proper_long = length_records_of _ _ proper_above.even ∙ length-take-le h.records es p.epochs_long

  -- the epochs of the records ascend above the base
  pub proper_ascends : ascending h.base (epochs_of (records_of (take h.records es) (take h.records cs))) ≡ true
  proper_ascends = ap (ascending h.base) (epochs_records _ _ proper_above.even) ∙ p.ascends

some_records : (n : ℕ) → leb 1 n ≡ true → eqb n 0 ≡ false
some_records n h = let p = leb-true 1 n h in ne_eqb n 0 (λ e. omega arith)

kind_told : (k : Kind) (n : ℕ) (o : List ℕ) → agrees k n ≡ true → kind_of (owner_if (owned k) o) n ≡ k
kind_told SingleEpoch n o h = rw h
kind_told MultiEpoch n o h = rw (some_records n h)
kind_told SingleEpochOwned n o h = rw h
kind_told MultiEpochOwned n o h = rw (some_records n h)

pub kind_agrees : (h : Head) → agrees h.kind h.records ≡ true → kind_of (owner_of h) h.records ≡ h.kind
kind_agrees h = kind_told h.kind h.records h.owner

-- the kind that owner and records tell agrees with having records
pub agrees_told : (o : Option (List ℕ)) (n : ℕ) → agrees (kind_of o n) n ≡ true
agrees_told o n = by o (eqb n 0) refl
  where
    some_left : eqb n 0 ≡ false → leb 1 n ≡ true
    some_left e = let d = eqb-false n 0 e in le-leb 1 n (omega arith)

    by : (o : Option (List ℕ)) (b : Bool) → eqb n 0 ≡ b → agrees (kind_of o n) n ≡ true
    by None true e = simp e
    by None false e = rw e (some_left e)
    by (Some o) true e = simp e
    by (Some o) false e = rw e (some_left e)

-- the owner of flags' head is theirs
pub owner_head : (f : Flags) → owner_of (head_of f) ≡ f.owner
owner_head f = by f.owner (eqb (length f.records) 0) refl
  where
    by : (o : Option (List ℕ)) (b : Bool) → eqb (length f.records) 0 ≡ b → owner_if (owned (kind_of o (length f.records))) (id_of o) ≡ o
    by None true e = rw e
    by None false e = rw e
    by (Some o) true e = rw e
    by (Some o) false e = rw e

-- ---- flags whose records stand at the start of two tables

module _ (f : Flags) (es cs : List ℕ) (epochs_first : take (length f.records) es ≡ epochs_of f.records) where
  pub stand_proper : length f.records ≤ length es → length f.records ≤ length cs → ascending f.base (epochs_of f.records) ≡ true
      → proper (holding (head_of f) es cs) ≡ true
  unfolding proper
  stand_proper le lc a = simp (agrees_told f.owner (length f.records), le-leb _ _ le, le-leb _ _ lc) (ap (ascending f.base) epochs_first ∙ a)

  pub stand_flags : take (length f.records) cs ≡ counts_of f.records → flags_of (holding (head_of f) es cs) ≡ f
  stand_flags counts_first =
      (λ i. flags f.base (owner_head f i) (records_of (epochs_first i) (counts_first i)))
      ∙ ap (flags f.base f.owner) (records_back f.records)
