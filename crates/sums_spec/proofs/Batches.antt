-- Removals added up by one call after another: a batch leaves the sum of all where that has room, and else some call is refused for room; so from
-- version 1 on its order does not show.
-- Assumes nothing.
use mathlib.Core.Path.{◌≡◌, refl, sym, ap, ◌∙◌, subst}
use mathlib.Core.Bool.{Bool, true, false}
use mathlib.Core.List.Permᴰ
use mathlib.Core.List.{List, [], ◌∷◌, map, Permᴰ}
use Prim.Native.Nat.{ℕ, ◌≤◌}
use native.Mathlib.Omega.{arith}
use lib.ListN.{length}
use Rattle.records_spec.proofs.Answers.{refused_not_ok}
use Rattle.rows_spec.specs.Rows.{Tables, room_in, over_rows, Room}
use Rattle.rows_spec.specs.Removals.{Removal, nothing, basic, sectioned, removal_in, proper_in, rows_of_removal, state_of, holding_rows, HeldRemoval}
use Rattle.rows_spec.specs.Removals.{removal_of}
use Rattle.records_spec.specs.Outcomes.{refused, Answer, refusing}
use Rattle.rows_spec.specs.Calls.{RemovalAfter, placing_removal}
use Rattle.records_spec.specs.Refusals.{number}
use Rattle.records_spec.specs.declared.refusal.Refusal.TheVariants.{NoRoom}
use Rattle.rows_spec.specs.declared.removed.Removed.{Removed}
use Rattle.rows_spec.specs.Theorems.{done}
use Rattle.rows_spec.proofs.Rows.{room_in_lem, has_room, room_less}
use Rattle.rows_spec.proofs.Over.{removal_over, proper_over}
use Rattle.rows_spec.proofs.Columns.{over_room, room_over, over_over}
use Rattle.rows_spec.proofs.Outcomes.{placing_done, placing_refused, placing_self}
use Rattle.sums_spec.specs.Sums.{unknown, sum}
use Rattle.sums_spec.specs.AnyOrder.{ProperRemoval}
use Rattle.sums_spec.specs.Batches.{Each, ProperOperand, add_all, SameSheet, AnyBatch, going_on}
use Rattle.sums_spec.proofs.Joining.{more_add, more_left}
use Rattle.sums_spec.proofs.Answering.{summed_proper}
use Rattle.sums_spec.proofs.Reading.{sum_ascends, proper_ascends}
use Rattle.sums_spec.proofs.Grouping.{sum_all, sum_first, each_perm, sum_perm}

all_ascend : (ys : List HeldRemoval) → Each ProperOperand ys → Each ProperRemoval (map removal_of ys)
all_ascend [] p = tt
all_ascend (y ∷ ys) p = (proper_ascends y.state y.rows p.0, all_ascend ys p.1)

-- rows never get fewer
more_rows : (v : ℕ) (x y : Removal) → ProperRemoval x → ProperRemoval y → length (rows_of_removal x) ≤ length (rows_of_removal (sum v x y))
more_rows v nothing y p q = omega arith
more_rows v (basic m) y p q = omega arith
more_rows v (sectioned xs) nothing p q = omega arith
more_rows v (sectioned xs) (basic n) p q = more_add (unknown n) xs
more_rows v (sectioned xs) (sectioned ys) p q = more_left xs ys p q

more_all : (v : ℕ) (x : Removal) (ys : List Removal) → ProperRemoval x → Each ProperRemoval ys
    → length (rows_of_removal x) ≤ length (rows_of_removal (sum_all v x ys))
unfolding sum_all
more_all v x [] p q = omega arith
more_all v x (y ∷ ys) p q =
    let ih = more_all v (sum v x y) ys (sum_ascends v x y p q.0) q.1 in
    omega (arith, more_rows v x y p q.0)

-- the answer of an outcome
abbrev answered : RemovalAfter → Answer Removed
answered a = a.answer

-- by a test
either : {A : Type 0} (b : Bool) → (b ≡ true → A) → (b ≡ false → A) → A
either true f g = f refl
either false f g = g refl

module _ (v : ℕ) where
  -- what all come to, from a first one
  abbrev all : Removal → List HeldRemoval → Removal
  all r ys = sum_all v r (map removal_of ys)

  module _ (y : HeldRemoval) (ys : List HeldRemoval) (x : Removed) (t : Tables) (p : proper_in x t ≡ true) (q : Each ProperOperand (y ∷ ys)) where
    -- what the first call comes to
    abbrev next : Removal
    next = sum v (removal_in x t) (removal_of y)

    next_proper : ProperRemoval next
    next_proper = sum_ascends v (removal_in x t) (removal_of y) (proper_ascends x t p) (proper_ascends y.state y.rows q.0)

    -- the first call, and then the others
    first : (a : RemovalAfter) → placing_removal next t ≡ a → add_all v (y ∷ ys) (holding_rows x t) ≡ going_on a.answer a.lent (add_all v ys)
    unfolding add_all
    first a e = ap (λ (b : RemovalAfter). going_on b.answer b.lent (add_all v ys)) (sym (summed_proper v (holding_rows x t) y p q.0) ∙ e)

    first_fits : Room (length (rows_of_removal next)) t
        → add_all v (y ∷ ys) (holding_rows x t) ≡ add_all v ys (holding_rows (state_of next) (over_rows (rows_of_removal next) t))
    first_fits h = first _ (placing_done next t (has_room h))

    first_short : room_in (length (rows_of_removal next)) t ≡ false → add_all v (y ∷ ys) (holding_rows x t) ≡ refusing NoRoom t
    first_short h = first _ (placing_refused next t h)

    -- what had no room before the first call has none behind it
    still_short : Room (length (rows_of_removal next)) t → room_in (length (rows_of_removal (all next ys))) t ≡ false
        → room_in (length (rows_of_removal (all (removal_in (state_of next) (over_rows (rows_of_removal next) t)) ys))) (over_rows (rows_of_removal next) t)
        ≡ false
    still_short r h =
        ap (λ (z : Removal). room_in (length (rows_of_removal (all z ys))) (over_rows (rows_of_removal next) t)) (removal_over next t)
        ∙ room_over (rows_of_removal next) t (length (rows_of_removal (all next ys))) r ∙ h

  -- where the sum of all has room, it is left
  pub batch_fits : (ys : List HeldRemoval) (x : Removed) (t : Tables) → proper_in x t ≡ true → Each ProperOperand ys
      → Room (length (rows_of_removal (all (removal_in x t) ys))) t → add_all v ys (holding_rows x t) ≡ placing_removal (all (removal_in x t) ys) t
  unfolding sum_all add_all
  batch_fits [] x t p q h = placing_self x t p
  batch_fits (y ∷ ys) x t p q h =
      let n = next y ys x t p q in
      let np = next_proper y ys x t p q in
      let rs = rows_of_removal n in
      let more = more_all v n (map removal_of ys) np (all_ascend ys q.1) in
      let then = over_room rs t h in
      let e = removal_over n t in
      first_fits y ys x t p q (room_less (length rs) more h)
      ∙ batch_fits ys (state_of n) (over_rows rs t) (proper_over n t np) q.1
      (subst (λ (z : Removal). Room (length (rows_of_removal (all z ys))) (over_rows rs t)) (sym e) then)
      ∙ ap (λ (z : Removal). placing_removal (all z ys) (over_rows rs t)) e ∙ placing_done (all n ys) (over_rows rs t) (has_room then)
      ∙ ap (done (state_of (all n ys))) (over_over rs (rows_of_removal (all n ys)) t more) ∙ sym (placing_done (all n ys) t (has_room h))

  -- where it has none, some call has none
  pub batch_short : (ys : List HeldRemoval) (x : Removed) (t : Tables) → proper_in x t ≡ true → Each ProperOperand ys
      → room_in (length (rows_of_removal (all (removal_in x t) ys))) t ≡ false → (add_all v ys (holding_rows x t)).answer ≡ refused (number NoRoom)
  unfolding sum_all add_all
  batch_short [] x t p q h = ap answered (placing_self x t p ∙ placing_refused (removal_in x t) t h)
  batch_short (y ∷ ys) x t p q h =
      let n = next y ys x t p q in
      let rs = rows_of_removal n in
      let np = next_proper y ys x t p q in
      either (room_in (length rs) t)
      (λ f. let r = room_in_lem (length rs) t f in ap answered (first_fits y ys x t p q r)
      ∙ batch_short ys (state_of n) (over_rows rs t) (proper_over n t np) q.1 (still_short y ys x t p q r h))
      (λ f. ap answered (first_short y ys x t p q f))

module _ (v : ℕ) (h : 1 ≤ v) (x : Removed) (t : Tables) (p : proper_in x t ≡ true) (ys zs : List HeldRemoval) (q : Each ProperOperand ys)
    (d : Permᴰ ys zs) where
  same_all : all v (removal_in x t) ys ≡ all v (removal_in x t) zs
  same_all =
      sum_first v h (removal_in x t) (map removal_of ys) ∙ ap (sum v (removal_in x t)) (sum_perm v h (Permᴰ.map removal_of d) (all_ascend ys q))
      ∙ sym (sum_first v h (removal_in x t) (map removal_of zs))

  sheet_fits : Room (length (rows_of_removal (all v (removal_in x t) ys))) t → SameSheet (add_all v ys (holding_rows x t)) (add_all v zs (holding_rows x t))
  sheet_fits r =
      let k = each_perm ProperOperand d q in
      let theirs = batch_fits v zs x t p k (subst (λ (z : Removal). Room (length (rows_of_removal z)) t) same_all r) in
      let same = batch_fits v ys x t p q r ∙ ap (λ (z : Removal). placing_removal z t) same_all ∙ sym theirs in
      record { same_answer = ap answered same; same_rows = λ s g. ap (λ (a : RemovalAfter). a.lent) same }

  sheet_short : room_in (length (rows_of_removal (all v (removal_in x t) ys))) t ≡ false
      → SameSheet (add_all v ys (holding_rows x t)) (add_all v zs (holding_rows x t))
  sheet_short f =
      let k = each_perm ProperOperand d q in
      let ours = batch_short v ys x t p q f in
      let theirs = batch_short v zs x t p k (ap (λ (z : Removal). room_in (length (rows_of_removal z)) t) (sym same_all) ∙ f) in
      record { same_answer = ours ∙ sym theirs; same_rows = λ s g. absurd (refused_not_ok (number NoRoom) s (sym ours ∙ g)) }

-- FROM VERSION 1 ON THE ORDER OF A BATCH DOES NOT SHOW
pub any_batch : (v : ℕ) → 1 ≤ v → AnyBatch v
any_batch v h x p ys zs q d =
    let n = length (rows_of_removal (all v (removal_of x) ys)) in
    either (room_in n x.rows) (λ f. sheet_fits v h x.state x.rows p ys zs q d (room_in_lem n x.rows f))
    (sheet_short v h x.state x.rows p ys zs q d)
