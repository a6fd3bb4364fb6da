-- Which lines each record has: those at its offset are the ones that the definitions give it. Kind changed stands alone at offset 0, and
-- the cut alone behind all records. Assumes nothing.
use Prim.Native.Nat.{ℕ, ◌+◌, ◌≤◌, ◌<◌}
use native.Mathlib.Omega.{arith}
use mathlib.Core.Path.{◌≡◌, refl, sym, ap, subst, ◌∙◌}
use mathlib.Core.Bool.{Bool, true, false, cond, ◌&&◌}
use Rattle.std.specs.Prelude.{Option, Some}
use mathlib.Core.List.{List, [], ◌∷◌, ◌++◌}
use lib.Dec.{ltb}
use borrow.Author.Tests.{eq-eqb}
use Rattle.fields_spec.specs.Varint.{largest}
use Rattle.records_spec.specs.Tables.{has, held}
use Rattle.records_spec.specs.Flags.{owned}
use Rattle.records_spec.specs.declared.head.Kind.{Kind}
use Rattle.codec_spec.specs.Bytes.{unowned_head, owned_head, head_size}
use Rattle.codec_spec.specs.Reading.{base_in}
use Rattle.repair_spec.specs.Olds.{Old}
use Rattle.repair_spec.specs.Changes.{line, again, some_above, dropped, kept_lines, record_lines, keeping, lines_after, cut_line}
use Rattle.repair_spec.specs.Repairing.{olds_in, records_left, kind_line, lines_of}
use Rattle.repair_spec.specs.declared.change.Change.{Change}
use Rattle.repair_spec.specs.declared.change.Change.TheVariants.{TooLarge, NotAboveBase, Replaced, TailCut}
use Rattle.repair_spec.specs.Theorems.{Ends, Chain, behind_all, LastThatFits, OldFits, lines_at, is_kept, higher_kept}
use Rattle.repair_spec.proofs.Chains.{Stands, read_chain, chain_split, chain_ends, chain_cut}
use Rattle.repair_spec.proofs.Either.{first_alone, either_turn}
use Rattle.repair_spec.proofs.Fitting.{dropped_large, dropped_low, dropped_fits, lines_none, lines_on}
use Rattle.repair_spec.proofs.Holding.{last_again, last_held, map_has}
use Rattle.repair_spec.proofs.Higher.{keeping_above}
use Rattle.repair_spec.proofs.Ordered.{chain_climbs}
use Rattle.repair_spec.proofs.LinesAt.{only_record, past_record, past_kind, only_kind}

-- ---- the lines at a record's offset

-- of records that stand behind kept ones at the epochs before
module _ (k : Kind) (d : List ℕ) (base : ℕ) (o : Old) (later : List Old) (c : Option ℕ) where
  told_after : (before : List ℕ) (at : ℕ) (earlier : List Old) → Chain k d at (earlier ++ (o ∷ later)) c
      → lines_at o.offset (lines_after base before (earlier ++ (o ∷ later)) ++ cut_line c)
      ≡ record_lines (dropped base (again base o.epoch later) o)
      (cond (some_above o.epoch before) true (higher_kept base o.epoch earlier (o ∷ later))) o
  told_after before at [] p =
      let x : Option Change = dropped base (again base o.epoch later) o in
      ap (lines_at o.offset) (lines_on base before o later (cut_line c))
      ∙ only_record x (some_above o.epoch before) o (at + o.size) _ (omega (arith, p.0.starts, p.0.some_bytes))
      (chain_climbs k d base (keeping x o before) (at + o.size) later c p.1)
      ∙ ap (λ (b : Bool). record_lines x b o) (sym (first_alone (some_above o.epoch before)))
  told_after before at (y ∷ earlier) p =
      let os : List Old = earlier ++ (o ∷ later) in
      let x : Option Change = dropped base (again base y.epoch os) y in
      let s = chain_split k d (at + y.size) earlier o later c p.1 in
      let h : Bool = higher_kept base o.epoch earlier (o ∷ later) in
      ap (lines_at o.offset) (lines_on base before y os (cut_line c))
      ∙ past_record o.offset x (some_above y.epoch before) y _ (λ e. omega (arith, p.0.starts, p.0.some_bytes, s.from))
      ∙ told_after (keeping x y before) (at + y.size) earlier p.1
      ∙ ap (λ (b : Bool). record_lines (dropped base (again base o.epoch later) o) b o)
      (ap (λ (b : Bool). cond b true h) (keeping_above base o.epoch before y os)
      ∙ either_turn (is_kept base y os && ltb o.epoch y.epoch) (some_above o.epoch before) h)

-- ---- the cut

-- it stands alone behind all records
cut_after : (k : Kind) (d : List ℕ) (base : ℕ) (before : List ℕ) (at : ℕ) (os : List Old) (c : ℕ) → Chain k d at os (Some c)
    → lines_at c (lines_after base before os ++ (line c TailCut ∷ [])) ≡ line c TailCut ∷ []
cut_after k d base before at [] c p = rw (lines_none base before, eq-eqb c c refl)
cut_after k d base before at (o ∷ os) c p =
    let x : Option Change = dropped base (again base o.epoch os) o in
    ap (lines_at c) (lines_on base before o os (line c TailCut ∷ []))
    ∙ past_record c x (some_above o.epoch before) o _ (λ q. omega (arith, p.0.starts, p.0.some_bytes, chain_cut k d (at + o.size) os c p.1))
    ∙ cut_after k d base (keeping x o before) (at + o.size) os c p.1

-- ---- for bytes of a kind

-- a head has three bytes or more: it is no shorter than one without an owner
pub head_three : (k : Kind) → unowned_head ≤ head_size k
head_three k = by (owned k)
  where
    by : (b : Bool) → unowned_head ≤ cond b owned_head unowned_head
    by true = omega arith
    by false = omega arith

module _ (k : Kind) (xs : List ℕ) where
  -- kind changed stands alone at offset 0
  pub kind_told : lines_at 0 (lines_of k xs) ≡ kind_line k (records_left k xs)
  kind_told =
      only_kind k (records_left k xs) (head_size k) _ (omega (arith, head_three k))
      (chain_climbs k xs (base_in k xs) [] (head_size k) (olds_in k xs).records (olds_in k xs).cut (read_chain k xs))

  -- THE READING ENDS BEHIND THE LAST RECORD, with the bytes, or where those that are left are no record or none is read
  pub reading_ends : Ends k xs (behind_all (head_size k) (olds_in k xs).records) (olds_in k xs).cut
  reading_ends = chain_ends k xs (head_size k) (olds_in k xs).records (olds_in k xs).cut (read_chain k xs)

  -- there the line tail cut stands alone, where bytes are left
  pub cut_told : (c : ℕ) → (olds_in k xs).cut ≡ Some c → lines_at c (lines_of k xs) ≡ line c TailCut ∷ []
  cut_told c e =
      let os : List Old = (olds_in k xs).records in
      let p : Chain k xs (head_size k) os (Some c) = subst (λ (x : Option ℕ). Chain k xs (head_size k) os x) e (read_chain k xs) in
      past_kind c k (records_left k xs) _ (omega (arith, head_three k, chain_cut k xs (head_size k) os c p))
      ∙ ap (λ (x : Option ℕ). lines_at c (lines_after (base_in k xs) [] os ++ cut_line x)) e
      ∙ cut_after k xs (base_in k xs) [] (head_size k) os c p

  module _ (earlier : List Old) (o : Old) (later : List Old) (split : (olds_in k xs).records ≡ earlier ++ (o ∷ later)) where
    of_bytes : Chain k xs (head_size k) (earlier ++ (o ∷ later)) (olds_in k xs).cut
    of_bytes = subst (λ (l : List Old). Chain k xs (head_size k) l (olds_in k xs).cut) split (read_chain k xs)

    -- a record stands behind the head and the records before it
    pub record_stands : Stands k xs (head_size k) o later (olds_in k xs).cut
    record_stands = chain_split k xs (head_size k) earlier o later (olds_in k xs).cut of_bytes

    -- those behind it start where it ends, or further on
    pub record_rises : (between : List Old) (p : Old) (rest : List Old) → later ≡ between ++ (p ∷ rest) → o.offset + o.size ≤ p.offset
    record_rises between p rest e =
        let n = o.offset + o.size in
        let c = (olds_in k xs).cut in
        (chain_split k xs n between p rest c (subst (λ (l : List Old). Chain k xs n l c) e record_stands.behind)).from

    -- and so does the cut
    pub record_before_cut : (c : ℕ) → (olds_in k xs).cut ≡ Some c → o.offset + o.size ≤ c
    record_before_cut c e =
        let n = o.offset + o.size in
        chain_cut k xs n later c (subst (λ (x : Option ℕ). Chain k xs n later x) e record_stands.behind)

    -- THE LINES OF A RECORD, with moved where some kept record before it has a higher epoch
    pub told : lines_at o.offset (lines_of k xs)
        ≡ record_lines (dropped (base_in k xs) (again (base_in k xs) o.epoch later) o) (higher_kept (base_in k xs) o.epoch earlier (o ∷ later)) o
    unfolding some_above
    told =
        past_kind o.offset k (records_left k xs) _ (omega (arith, head_three k, record_stands.from))
        ∙ ap (λ (l : List Old). lines_at o.offset (lines_after (base_in k xs) [] l ++ cut_line (olds_in k xs).cut)) split
        ∙ told_after k xs (base_in k xs) o later (olds_in k xs).cut [] (head_size k) earlier of_bytes

    -- A DROPPED RECORD HAS ONE LINE: its count is above 32 bits
    pub told_large : largest < o.count → lines_at o.offset (lines_of k xs) ≡ line o.offset TooLarge ∷ []
    told_large h = told ∙ rw (dropped_large (base_in k xs) o (again (base_in k xs) o.epoch later) h)

    -- otherwise, its epoch is at or below the base
    pub told_low : o.count ≤ largest → o.epoch ≤ base_in k xs → lines_at o.offset (lines_of k xs) ≡ line o.offset NotAboveBase ∷ []
    told_low h l = told ∙ rw (dropped_low (base_in k xs) o (again (base_in k xs) o.epoch later) h l)

    -- otherwise, a later record that fits has its epoch
    pub told_replaced : OldFits (base_in k xs) o → again (base_in k xs) o.epoch later ≡ true
        → lines_at o.offset (lines_of k xs) ≡ line o.offset Replaced ∷ []
    told_replaced f a = told ∙ rw (dropped_fits (base_in k xs) o (again (base_in k xs) o.epoch later) f, a)

    -- A KEPT RECORD HAS NONE, ONE OR TWO, re-encoded before moved
    pub told_kept : OldFits (base_in k xs) o → again (base_in k xs) o.epoch later ≡ false
        → lines_at o.offset (lines_of k xs) ≡ kept_lines (higher_kept (base_in k xs) o.epoch earlier (o ∷ later)) o
    told_kept f a = told ∙ rw (dropped_fits (base_in k xs) o (again (base_in k xs) o.epoch later) f, a)

    -- and is left, with its count
    pub kept_left : OldFits (base_in k xs) o → again (base_in k xs) o.epoch later ≡ false
        → (has o.epoch (records_left k xs) ≡ true) × (held o.epoch (records_left k xs) ≡ o.count)
    kept_left f a =
        let os : List Old = (olds_in k xs).records in
        let l : LastThatFits (base_in k xs) o.epoch os =
        record { earlier = earlier; one = o; later = later; split = split; holds = record { last_fits = f; last_epoch_lem = refl; not_again = a } } in
        (map_has (base_in k xs) o.epoch os ∙ last_again (base_in k xs) o.epoch os l, last_held (base_in k xs) o.epoch os l)
