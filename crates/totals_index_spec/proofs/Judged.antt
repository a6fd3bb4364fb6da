-- THE JUDGING ROW BY ROW TELLS WHAT THE DEFINITION SAYS: 11, then 14, then 6, then the number of rows afterwards. Where it starts it is by
-- the tests there, and over the rows by what each field has come to.
-- Assumes nothing.
use mathlib.Core.Path.{◌≡◌, refl, sym, ap, subst, ◌∙◌}
use mathlib.Core.Bool.{Bool, true, false, cond, ◌&&◌, and-true, and-false, and-eq-true_iff}
use Rattle.std.specs.Prelude.{Option}
use mathlib.Core.List.{List, [], ◌∷◌}
use Prim.Native.Nat.{ℕ, ◌+◌, ◌-◌, ◌≤◌}
use native.Mathlib.Omega.{arith}
use lib.Dec.{leb, eqb}
use lib.ListN.{length, take, length-take}
use borrow.Author.Tests.{leb-true, leb-false}
use Rattle.records_spec.specs.Flags.{Flags, holding}
use Rattle.records_spec.specs.Tables.{rising}
use Rattle.records_spec.specs.Outcomes.{refused, Answer, ok}
use Rattle.records_spec.specs.Refusals.{number}
use Rattle.records_spec.specs.declared.refusal.Refusal.TheVariants.{Overflow, BadTable, IndexMismatch}
use Rattle.records_spec.specs.declared.head.Head.{Head}
use Rattle.rows_spec.specs.Rows.{Row, ascends, rows_in, proper_rows}
use Rattle.rows_spec.proofs.Rows.{length_rows, short_ids, proper_room, proper_short}
use Rattle.totals_spec.specs.Table.{all_positive}
use Rattle.totals_spec.specs.Recount.{named}
use Rattle.totals_spec.specs.Replacing.{covered, all_fit, replaced_rows, changed}
use Rattle.totals_spec.specs.Calls.{proper_table, given, proper_given}
use Rattle.totals_spec.specs.Inner.Steps.{counted_rows, named_by}
use Rattle.totals_spec.specs.Theorems.{In64Bits}
use Rattle.totals_spec.specs.declared.replacing.Named.{Named}
use Rattle.totals_spec.proofs.Lengths.{length_taken, length_replaced}
use Rattle.totals_spec.proofs.GivenFlags.{given_names, given_table, given_even}
use Rattle.totals_spec.proofs.UnderOwner.{under_ascends}
use Rattle.totals_index_spec.specs.Calls.{verdict}
use Rattle.totals_index_spec.specs.Inner.Judging.{beginning, none_named, started, rows_named, judged_next, judged_all, verdict_of}
use Rattle.totals_index_spec.specs.Inner.Judging.{AskedOf, Asked, Small, TotalsFit}
use Rattle.totals_index_spec.specs.Structs.{columns}
use Rattle.totals_index_spec.specs.declared.judging.Judging.{Judging}
use Rattle.totals_index_spec.specs.declared.structs.Total.{Total}
use Rattle.totals_index_spec.proofs.Columns.{length_owners, columns_room}
use Rattle.totals_index_spec.proofs.Exchange.{count_by, exchange}
use Rattle.totals_index_spec.proofs.Tallies.{positives_in, positives_under, held, held_fair, going_fair, meeting_fair, owed_none, gone_count}
use Rattle.totals_index_spec.proofs.Tallies.{made_count}
use Rattle.totals_index_spec.proofs.RowsFit.{rows_fit, small_under, small_rows_lem}
use Rattle.totals_index_spec.proofs.Starting.{started_cases}
use Rattle.totals_index_spec.proofs.RowByRow.{judged_good, judged_fits, judged_owed, judged_left, judged_made}

-- what is judged stays as it was
pub judged_kept : (os ns : List Row) (j : Judging) (t : List Row) → ((judged_all os ns j t).rows ≡ j.rows)
    × (((judged_all os ns j t).old ≡ j.old) × ((judged_all os ns j t).new ≡ j.new))
unfolding judged_all
judged_kept os ns j [] = (refl, (refl, refl))
judged_kept os ns j (b ∷ t) = judged_kept os ns (judged_next os ns j b) t

-- ---- over rows

-- a verdict, by what the fields have come to
verdict_by : (k : Judging) {g o f : Bool} → k.good ≡ g → eqb k.owed 0 ≡ o → k.fits ≡ f
    → verdict_of k ≡ cond g (cond o (cond f (ok (k.left + k.made)) (refused (number Overflow))) (refused (number IndexMismatch)))
    (refused (number BadTable))
verdict_by k p q r = rw (p, q, r)

-- of n rows, with as many counts of either kind above 0 as are owed and made
module _ (os ns t : List Row) (a : ascends os ≡ true) (b : ascends ns ≡ true) (m : In64Bits t) (l : In64Bits ns) (old new : Named) {n p q : ℕ}
    (long : length t ≡ n) (owed : positives_in os ≡ p) (made : positives_in ns ≡ q) where
  abbrev start : Judging
  start = beginning n old new p q

  abbrev end : Judging
  end = judged_all os ns start t

  module _ (s : ascends t ≡ true) where
    end_owed : eqb end.owed 0 ≡ covered os t
    end_owed =
        let e : end.owed ≡ positives_in os - count_by held os t = omega (arith, judged_owed os ns t start, exchange _ held_fair os t a s) in
        ap (λ (x : ℕ). eqb x 0) e ∙ owed_none t os

    end_fits : end.fits ≡ all_fit os ns t
    end_fits = judged_fits os ns t start ∙ rows_fit os ns t a b s m l

    end_rows : all_positive t ≡ true → covered os t ≡ true → end.left + end.made ≡ length (replaced_rows os ns t)
    end_rows f c =
        let x = exchange _ going_fair os t a s in
        let y = exchange _ (meeting_fair os) ns t b s in
        omega (
          arith,
          judged_left os ns t start,
          judged_made os ns t start,
          gone_count os t,
          made_count os ns t,
          length_taken t s f os a c,
          length_replaced t s f os ns a b c,
        )

  judged_rows : verdict_of end ≡ counted_rows (cond (ascends t && all_positive t) (changed os ns t) (refused (number BadTable)))
  judged_rows = proper (ascends t && all_positive t) refl
    where
      accepted : (s : ascends t ≡ true) → all_positive t ≡ true → (c : Bool) → covered os t ≡ c → (f : Bool) → all_fit os ns t ≡ f
          → cond c (cond f (ok (end.left + end.made)) (refused (number Overflow))) (refused (number IndexMismatch))
          ≡ counted_rows (cond c (cond f (ok (replaced_rows os ns t)) (refused (number Overflow))) (refused (number IndexMismatch)))
      accepted s g true e true f = ap ok (end_rows s g e)
      accepted s g true e false f = refl
      accepted s g false e f' f = refl

      proper : (x : Bool) → (ascends t && all_positive t) ≡ x → verdict_of end ≡ counted_rows (cond x (changed os ns t) (refused (number BadTable)))
      proper true e =
          let i = (and-eq-true_iff (ascends t) (all_positive t)).0 e in
          verdict_by end (judged_good os ns t start ∙ e) (end_owed i.0) (end_fits i.0)
          ∙ accepted i.0 i.1 (covered os t) refl (all_fit os ns t) refl
      proper false e = verdict_by end (judged_good os ns t start ∙ e) refl refl

-- ---- where it starts

swapped : (x y z : Bool) → ((x && y) && z) ≡ ((x && z) && y)
swapped true true z = sym (and-true z)
swapped true false z = sym (and-false z)
swapped false y z = refl

module _ (n : ℕ) (ts : List Total) where
  abbrev first : List Row
  first = rows_in n (columns ts)

  -- the table of structs is proper: it has the rows, and these ascend with no total 0
  proper_columns : proper_table n (columns ts) ≡ (leb n (length ts) && (ascends first && all_positive first))
  unfolding proper_table
  proper_columns = go (leb n (length ts)) refl
    where
      go : (x : Bool) → leb n (length ts) ≡ x → (proper_rows n (columns ts) && all_positive first) ≡ (x && (ascends first && all_positive first))
      go true e = ap (λ (r : Bool). r && all_positive first) (proper_room (columns_room ts (leb-true n (length ts) e)))
      go false e =
          let h = leb-false n (length ts) e in
          let l = length_owners ts in
          ap (λ (r : Bool). r && all_positive first) (proper_short n (columns ts) (short_ids n (columns ts) (omega arith)))

  -- the verdict, by what is known before any row is looked at
  verdict_known : (good : Bool) (old new : Option Flags) {x : Bool} → (leb n (length ts) && good) ≡ x
      → verdict n ts good old new ≡ cond (x && (ascends first && all_positive first)) (changed (named old) (named new) first)
      (refused (number BadTable))
  unfolding verdict
  verdict_known good old new e =
      ap (λ (y : Bool). cond y (changed (named old) (named new) first) (refused (number BadTable)))
      (ap (λ (y : Bool). y && good) proper_columns
      ∙ swapped (leb n (length ts)) (ascends first && all_positive first) good
      ∙ ap (λ (y : Bool). y && (ascends first && all_positive first)) e)

-- what proper flags name stands in their tables
asked_given : (here : Bool) (h : Head) (es cs : List ℕ) → proper_given here (holding h es cs) ≡ true → AskedOf (named_by here h) es cs
asked_given here h es cs p =
    let e = given_even h es cs here (named_by here h) refl p in
    let r = (named_by here h).records in
    record {
      epochs_long = omega (arith, e.0, length-take r es);
      counts_long = omega (arith, e.1, length-take r cs);
      table = given_table h es cs here (named_by here h) refl p;
    }

-- so does what is judged
pub started_ready : (n size : ℕ) (op : Bool) (old : Head) (oes ocs : List ℕ) (np : Bool) (new : Head) (nes ncs : List ℕ)
    → let s = started n size op (holding old oes ocs) np (holding new nes ncs) in (s.upto ≤ size) × Asked s oes ocs nes ncs
unfolding rising
started_ready n size op old oes ocs np new nes ncs =
    started_cases n size op old oes ocs np new nes ncs (λ s. (s.upto ≤ size) × Asked s oes ocs nes ncs)
    (λ e.
    let i = (and-eq-true_iff (leb n size) (proper_given op (holding old oes ocs) && proper_given np (holding new nes ncs))).0 e in
    let g = (and-eq-true_iff (proper_given op (holding old oes ocs)) (proper_given np (holding new nes ncs))).0 i.1 in
    (leb-true n size i.0, record { olds = asked_given op old oes ocs g.0; news = asked_given np new nes ncs g.1 }))
    (λ e. (omega arith, record { olds = none oes ocs; news = none nes ncs }))
  where
    none : (es cs : List ℕ) → AskedOf none_named es cs
    none es cs = record { epochs_long = omega arith; counts_long = omega arith; table = record { even = refl; rises = refl } }

-- ---- the whole

-- THE LAST STATE TELLS THE VERDICT
pub judged_told : (n : ℕ) (ts : List Total) (op : Bool) (old : Head) (oes ocs : List ℕ) (np : Bool) (new : Head) (nes ncs : List ℕ)
    → Small ncs → let s = started n (length ts) op (holding old oes ocs) np (holding new nes ncs) in TotalsFit s.upto ts
    → verdict_of (judged_all (rows_named s.old oes ocs) (rows_named s.new nes ncs) s (rows_in s.upto (columns ts)))
    ≡ counted_rows (verdict n ts (proper_given op (holding old oes ocs) && proper_given np (holding new nes ncs)) (given op (holding old oes ocs))
    (given np (holding new nes ncs)))
unfolding judged_all
judged_told n ts op old oes ocs np new nes ncs small =
    started_cases n (length ts) op old oes ocs np new nes ncs
    (λ s. TotalsFit s.upto ts → verdict_of (judged_all (rows_named s.old oes ocs) (rows_named s.new nes ncs) s (rows_in s.upto (columns ts)))
    ≡ counted_rows (verdict n ts good (given op (holding old oes ocs)) (given np (holding new nes ncs))))
    (λ e bits.
    let i = (and-eq-true_iff (leb n (length ts)) good).0 e in
    let g = (and-eq-true_iff (proper_given op (holding old oes ocs)) (proper_given np (holding new nes ncs))).0 i.1 in
    let olds = asked_given op old oes ocs g.0 in
    let news = asked_given np new nes ncs g.1 in
    judged_rows (rows_named o oes ocs) (rows_named w nes ncs) t (under_ascends o.owner olds.table) (under_ascends w.owner news.table)
    (small_rows_lem n ts bits) (small_under w.records w.owner nes ncs small) o w
    (length_rows (columns_room ts (leb-true n (length ts) i.0)))
    (positives_under o.owner (take o.records oes) (take o.records ocs) olds.table.even)
    (positives_under w.owner (take w.records nes) (take w.records ncs) news.table.even)
    ∙ ap (λ (os : List Row). told os (rows_named w nes ncs)) (sym (given_names old oes ocs op o refl))
    ∙ ap (λ (ns : List Row). told (named (given op (holding old oes ocs))) ns) (sym (given_names new nes ncs np w refl))
    ∙ sym (ap counted_rows (verdict_known n ts good (given op (holding old oes ocs)) (given np (holding new nes ncs)) e)))
    (λ e bits. sym (ap counted_rows (verdict_known n ts good (given op (holding old oes ocs)) (given np (holding new nes ncs)) e)))
  where
    o : Named
    o = named_by op old

    w : Named
    w = named_by np new

    t : List Row
    t = rows_in n (columns ts)

    good : Bool
    good = proper_given op (holding old oes ocs) && proper_given np (holding new nes ncs)

    told : List Row → List Row → Answer ℕ
    told os ns = counted_rows (cond (ascends t && all_positive t) (changed os ns t) (refused (number BadTable)))

-- what `replace_structs` knows of the last state: as many rows as were given, and the verdict of the definition
module _ (n : ℕ) (ts : List Total) (op : Bool) (old : Head) (oes ocs : List ℕ) (np : Bool) (new : Head) (nes ncs : List ℕ) where
  started_rows : (started n (length ts) op (holding old oes ocs) np (holding new nes ncs)).rows ≡ n
  started_rows = started_cases n (length ts) op old oes ocs np new nes ncs (λ s. s.rows ≡ n) (λ e. refl) (λ e. refl)

  pub judged_ready : (s : Judging) (m : ℕ) → s ≡ started n (length ts) op (holding old oes ocs) np (holding new nes ncs) → m ≡ s.upto
      → (m ≤ length ts) × Asked s oes ocs nes ncs
  judged_ready s m e f = rw (f, e) (started_ready n (length ts) op old oes ocs np new nes ncs)

  module _ (s j : Judging) (m : ℕ) (e : s ≡ started n (length ts) op (holding old oes ocs) np (holding new nes ncs)) (f : m ≡ s.upto)
      (g : j ≡ judged_all (rows_named s.old oes ocs) (rows_named s.new nes ncs) s (rows_in m (columns ts))) where
    pub same_rows : j.rows ≡ n
    same_rows = ap (λ (x : Judging). x.rows) g ∙ (judged_kept (rows_named s.old oes ocs) (rows_named s.new nes ncs) s (rows_in m (columns ts))).0
        ∙ ap (λ (x : Judging). x.rows) e ∙ started_rows

    pub judged_verdict : Small ncs → TotalsFit m ts
        → verdict_of j ≡ counted_rows (verdict j.rows ts (proper_given op (holding old oes ocs) && proper_given np (holding new nes ncs))
        (given op (holding old oes ocs)) (given np (holding new nes ncs)))
    judged_verdict small bits =
        ap verdict_of g ∙ ap (λ (k : ℕ). verdict_of (judged_all (rows_named s.old oes ocs) (rows_named s.new nes ncs) s (rows_in k (columns ts)))) f
        ∙ ap (λ (x : Judging). verdict_of (judged_all (rows_named x.old oes ocs) (rows_named x.new nes ncs) x (rows_in x.upto (columns ts)))) e
        ∙ judged_told n ts op old oes ocs np new nes ncs small (subst (λ (k : ℕ). TotalsFit k ts) (f ∙ ap (λ (x : Judging). x.upto) e) bits)
        ∙ ap (λ (k : ℕ). counted_rows (verdict k ts (proper_given op (holding old oes ocs) && proper_given np (holding new nes ncs))
        (given op (holding old oes ocs)) (given np (holding new nes ncs)))) (sym same_rows)
