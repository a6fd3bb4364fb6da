-- A step that is made as demand 3 has it is accepted: an addition leaves more at the incoming base, a removal what its split leaves.
-- The flags at each time are held somewhere and stand for flags that are known.
-- Assumes nothing.
use mathlib.Core.Path.{◌≡◌, refl, sym, ap, ◌∙◌, subst}
use mathlib.Core.Bool.{true, false}
use mathlib.Core.List.{List, [], ◌++◌}
use Prim.Native.Nat.{ℕ, zero, suc, ◌+◌, ◌≤◌}
use native.Mathlib.Omega.{arith}
use lib.ListN.{length, take}
use borrow.Author.Tests.{le-leb, eqb-true}
use Rattle.fields_spec.specs.Varint.{largest}
use Rattle.records_spec.specs.Tables.{At, ◌⦂◌, records_of, held, put, union}
use Rattle.records_spec.specs.Flags.{Flags, flags, multi, id_of, agrees, flags_of, Held, proper}
use Rattle.records_spec.specs.Answers.{FlagsAfter, placing, in_tables}
use Rattle.records_spec.proofs.Unions.{union_none}
use Rattle.records_spec.proofs.Answers.{placing_fits}
use Rattle.records_spec.proofs.Proper.{proper_inv}
use Rattle.records_spec.specs.Outcomes.{Answer, ok, ◌>>=◌}
use Rattle.flags_spec.specs.declared.owners.MergingOwnersStrategy.{MergingOwnersStrategy}
use Rattle.flags_spec.specs.Merging.{added, raised, union_under}
use Rattle.flags_spec.proofs.Choosing.{owner_stays}
use Rattle.flags_spec.proofs.Merging.{added_owned, raised_higher, combined_proper}
use Rattle.rows_spec.specs.Rows.{Row, Room, rows_under}
use Rattle.rows_spec.specs.Removals.{rows_of_removal}
use Rattle.splitting_spec.specs.Sections.{split}
use Rattle.splitting_spec.specs.Calls.{value_part, Told, split_value}
use Rattle.splitting_spec.specs.Theorems.{value_answer}
use Rattle.splitting_spec.proofs.Sections.{split_none}
use Rattle.splitting_spec.proofs.Accepted.{value_stands, value_accepted}
use Rattle.removal_spec.specs.Theorems.{less_own_split, Incoming}
use Rattle.removal_spec.proofs.OwnSplit.{split_merged_lem}
use Rattle.steps.specs.History.{Edit, add, remove, State, state, left_by, split_merged, step}
use Rattle.steps.proofs.Standing.{Stands, stands_long}

-- ---- incoming flags

-- single-epoch flags have no records
no_records : (n : ℕ) (es cs : List ℕ) → n ≡ 0 → records_of (take n es) (take n cs) ≡ []
unfolding records_of
no_records n es cs e = ap (λ (m : ℕ). records_of (take m es) (take m cs)) e

pub bare : (t : Held) → proper t ≡ true → multi t.head.kind ≡ false → (flags_of t).records ≡ []
bare t p k =
    let a : agrees t.head.kind t.head.records ≡ true = (proper_inv t.head t.epochs t.counts p).agrees_kind in
    no_records t.head.records t.epochs t.counts (eqb-true t.head.records 0 (rw k at a))

-- ---- a removal

-- the rows of the split's own removal
own_rows : (i : List ℕ) (base : ℕ) (rs : List At) (n : ℕ) → rows_of_removal (value_part i base rs n) ≡ rows_under i (split base rs n)
unfolding rows_under
own_rows i base rs zero = sym (ap (rows_under i) (split_none base rs))
own_rows i base rs (suc n) = refl

-- what a removal of x's amount leaves of flags f
abbrev pub after_removal : Flags → List Row → Edit → State
after_removal f rows x =
    state (in_tables (less_own_split f x.amount) x.out) (rows ++ rows_under (id_of f.owner) (split f.base f.records x.amount))

module _ (h : Held) (rows : List Row) (x : Edit) (s : proper h ≡ true) (t : proper x.incoming ≡ true) where
  -- the merge of what the split left
  own_step : Incoming (flags_of h) (flags_of x.incoming) → h.head.records ≤ length x.out.epochs → h.head.records ≤ length x.out.counts
      → Room (length (flags_of h).records + 1) x.row_tables → step (state h rows) (remove x) ≡ ok (after_removal (flags_of h) rows x)
  unfolding step
  own_step w he hc r =
      let n = x.amount in
      let f = flags_of h in
      let u = value_answer h n in
      let a = value_accepted h n x.row_tables s r in
      let m = split_merged_lem h n x.row_tables u x.incoming x.strategy x.out a t w he hc in
      let v = value_stands h n x.row_tables u a in
      ap (λ (y : Answer Told). ◌>>=◌ y (λ u. split_merged (state h rows) x u (split_value h n x.row_tables).lent)) a
      ∙ (λ i. left_by (m i) (rows ++ rows_of_removal (v i)))
      ∙ ap (λ (l : List Row). ok (state (in_tables (less_own_split f n) x.out) (rows ++ l))) (own_rows (id_of f.owner) f.base f.records n)

-- A REMOVAL IS ACCEPTED, AND LEAVES WHAT ITS SPLIT LEAVES
pub removal_step : (h : Held) (f : Flags) (rows : List Row) (x : Edit) → Stands h f → proper x.incoming ≡ true → Incoming f (flags_of x.incoming)
    → length f.records ≤ length x.out.epochs → length f.records ≤ length x.out.counts → Room (length f.records + 1) x.row_tables
    → step (state h rows) (remove x) ≡ ok (after_removal f rows x)
removal_step h f rows x s t w he hc r =
    let l = stands_long s in
    subst (λ (g : Flags). Incoming g (flags_of x.incoming) → Room (length g.records + 1) x.row_tables
    → step (state h rows) (remove x) ≡ ok (after_removal g rows x)) s.are
    (λ w r. own_step h rows x s.are_proper t w (omega arith) (omega arith) r) w r

-- ---- an addition

-- what an addition of x's amount at its base leaves of flags f
abbrev raised_by : Flags → ℕ → ℕ → Flags
raised_by f e n = flags f.base f.owner (put (e ⦂ (held e f.records + n)) f.records)

raised_fits : (f : Flags) (e n : ℕ) → held e f.records + n ≤ largest → raised e n f ≡ ok (raised_by f e n)
raised_fits f e n p = rw (le-leb (held e f.records + n) largest p)

-- the adding merge of incoming flags without records
added_bare : (s : MergingOwnersStrategy) (n : ℕ) (f t : Flags) → Incoming f t → held t.base f.records + n ≤ largest
    → added s n f t ≡ ok (raised_by f t.base n)
added_bare s n f t w p =
    let l = w.higher in
    added_owned s n f t (omega arith) f.owner (owner_stays s f.owner t.owner w.owner)
    ∙ raised_higher f.base t.base n (union_under f t f.owner) (λ e. omega arith)
    ∙ ap (λ (rs : List At). raised t.base n (flags f.base f.owner rs)) (ap (union f.records) w.bare ∙ union_none f.records)
    ∙ raised_fits f t.base n p

-- AN ADDITION IS ACCEPTED, AND LEAVES SO MUCH MORE AT THE INCOMING BASE
pub addition_step : (h : Held) (f : Flags) (rows : List Row) (x : Edit) (g : Flags) → Stands h f → proper x.incoming ≡ true
    → Incoming f (flags_of x.incoming)
    → held x.incoming.head.base f.records + x.amount ≤ largest → raised_by f x.incoming.head.base x.amount ≡ g
    → length g.records ≤ length x.out.epochs → length g.records ≤ length x.out.counts
    → step (state h rows) (add x) ≡ ok (state (in_tables g x.out) rows)
unfolding step
addition_step h f rows x g s t w p e he hc =
    let i = x.incoming in
    ap (λ (a : FlagsAfter). left_by a rows)
    (combined_proper h i x.amount x.strategy x.out s.are_proper t
    ∙ ap (λ (k : Flags). placing (added x.strategy x.amount k (flags_of i)) x.out) s.are
    ∙ ap (λ (a : Answer Flags). placing a x.out) (added_bare x.strategy x.amount f (flags_of i) w p ∙ ap ok e)
    ∙ placing_fits g x.out he hc)
