-- Histories run through: first steps that add at the latest epoch and take back, and later ones that only remove. Each step is accepted;
-- by the laws of removals one after another, all together leave what one removal leaves, and refund as much.
-- Assumes nothing.
use mathlib.Core.Path.{◌≡◌, refl, sym, ap, ◌∙◌, subst}
use mathlib.Core.Bool.{true}
use mathlib.Core.List.{List, [], ◌∷◌}
use Prim.Native.Nat.{ℕ, ◌+◌, ◌-◌, ◌≤◌, ◌<◌}
use native.Mathlib.Omega.{arith}
use lib.ListN.{length}
use Rattle.fields_spec.specs.Varint.{largest}
use Rattle.records_spec.specs.Tables.{At, ◌⦂◌, epochs_of, ascending, held, put}
use Rattle.records_spec.specs.Flags.{Flags, flags, id_of, owner_of, flags_of, Held, Lent}
use Rattle.rows_spec.specs.Rows.{Row}
use Rattle.rows_spec.proofs.Rows.{room_less}
use Rattle.splitting_spec.specs.Sections.{split}
use Rattle.splitting_spec.proofs.Sections.{split_none}
use Rattle.removal_spec.specs.Theorems.{Incoming}
use Rattle.removal_spec.proofs.Lessening.{minus_long, minus_above}
use Rattle.records_spec.specs.Outcomes.{ok}
use Rattle.records_spec.specs.Answers.{in_tables}
use Rattle.steps.specs.History.{Edit, Step, add, remove, State, state, step, all_added, all_removed}
use Rattle.steps.specs.Demand.{Single, Adds, Removes, First, Then}
use Rattle.steps.proofs.Standing.{Stands, placed_stands, stands_ascend}
use Rattle.steps.proofs.Accepting.{bare, after_removal, removal_step, addition_step}
use Rattle.steps.proofs.Remaining.{remaining, remaining_none, remaining_twice, given, given_none, given_more, given_zero, given_both}
use Rattle.steps.proofs.Remaining.{given_twice}
use Rattle.steps.proofs.Latest.{up_to, length_up, latest_above, any_count, held_latest, put_latest, taken_back, given_once}
use Rattle.steps.proofs.Runs.{no_rows, Ran, run_none, run_step}

-- ---- steps at flags of the first base and owner

module _ (f : Held) where
  -- the first base, and the identifier of the first owner
  abbrev b : ℕ
  b = f.head.base

  abbrev owner : List ℕ
  owner = id_of (owner_of f.head)

  -- flags of the first base and owner, with other records
  abbrev pub at : List At → Flags
  at rs = flags b (owner_of f.head) rs

  single_incoming : (rs : List At) (t : Held) → Single f t → b < t.head.base → Incoming (at rs) (flags_of t)
  single_incoming rs t s p = record { bare = bare t s.are_proper s.kind_0_or_2; higher = p; owner = s.no_owner_or_ours }

  -- what remains stands where it is placed
  remaining_stands : (rs : List At) (n : ℕ) (out : Lent) → ascending b (epochs_of rs) ≡ true
      → Stands (in_tables (at (remaining b rs n)) out) (at (remaining b rs n))
  remaining_stands rs n out a = placed_stands (at (remaining b rs n)) out (minus_above b rs (split b rs n) a)

  -- what a removal leaves of records and rows
  abbrev left : List At → List Row → Edit → State
  left rs rows x = after_removal (at rs) rows x

  removed_once : (h : Held) (rs : List At) (rows : List Row) (x : Edit) → Stands h (at rs) → length rs ≤ f.head.records → Removes f x
      → step (state h rows) (remove x) ≡ ok (left rs rows x)
  removed_once h rs rows x s l r =
      let m = r.record_room in
      removal_step h (at rs) rows x s r.single.are_proper (single_incoming rs x.incoming r.single r.above_our_base) (omega arith)
      (omega arith)
      (room_less (length rs + 1) (omega arith) r.row_room)

  -- THEN REMOVALS ONLY: all together remove what one removal of their sum removes
  pub then_runs : (h : Held) (rs : List At) (rows : List Row) (xs : List Step) → Then f xs → Stands h (at rs) → length rs ≤ f.head.records
      → Ran (state h rows) xs (at (remaining b rs (all_removed xs))) (split b rs (all_removed xs))
  unfolding all_removed
  then_runs h rs rows [] p s l =
      subst (λ (k : List At). Ran (state h rows) [] (at k) (split b rs 0)) (sym (remaining_none b rs))
      (run_none (state h rows) (at rs) (split b rs 0) s (λ d. ap (given d) (split_none b rs) ∙ given_none d))
  then_runs h rs rows (add x ∷ xs) p s l = absurd p
  then_runs h rs rows (remove x ∷ xs) p s l =
      let n = x.amount in
      let a = stands_ascend s in
      let m = minus_long rs (split b rs n) in
      let q : Ran (left rs rows x) xs (at (remaining b (remaining b rs n) (all_removed xs))) (split b (remaining b rs n) (all_removed xs)) =
      then_runs (left rs rows x).flags (remaining b rs n) (left rs rows x).rows xs p.1 (remaining_stands rs n x.out a) (omega arith) in
      run_step (state h rows) (remove x) xs (at (remaining b rs (n + all_removed xs))) (split b rs n) (split b (remaining b rs n) (all_removed xs))
      (split b rs (n + all_removed xs)) (left rs rows x)
      (removed_once h rs rows x s l p.0) refl (λ d. given_twice d b rs n (all_removed xs) a)
      (subst (λ (k : List At). Ran (left rs rows x) xs (at k) (split b (remaining b rs n) (all_removed xs)))
      (remaining_twice b rs n (all_removed xs) a) q)

  -- an addition at the latest epoch
  abbrev grown : List At → ℕ → ℕ → List Row → Edit → State
  grown rs e k rows x = state (in_tables (at (up_to rs e (k + x.amount))) x.out) rows

  added_once : (h : Held) (rs : List At) (rows : List Row) (e k : ℕ) (x : Edit) → Stands h (at (up_to rs e k)) → length rs + 1 ≤ f.head.records
      → Adds f e x
      → k + x.amount ≤ largest → step (state h rows) (add x) ≡ ok (grown rs e k rows x)
  added_once h rs rows e k x s l r p =
      let m = r.record_room in
      let a = stands_ascend s in
      let there : held x.incoming.head.base (up_to rs e k) ≡ k = ap (λ (d : ℕ). held d (up_to rs e k)) r.at_e ∙ held_latest b e k rs a in
      let up : b < x.incoming.head.base = omega (arith, r.at_e, latest_above b e k rs a) in
      addition_step h (at (up_to rs e k)) rows x (at (up_to rs e (k + x.amount))) s r.single.are_proper
      (single_incoming (up_to rs e k) x.incoming r.single up)
      (omega (arith, there)) ((λ i. at (put (r.at_e i ⦂ (there i + x.amount)) (up_to rs e k))) ∙ ap at (put_latest b e k (k + x.amount) rs a))
      (omega (arith, length_up rs e (k + x.amount))) (omega (arith, length_up rs e (k + x.amount)))

  grown_stands : (rs : List At) (e k n : ℕ) (out : Lent) → ascending b (epochs_of (up_to rs e k)) ≡ true
      → Stands (in_tables (at (up_to rs e n)) out) (at (up_to rs e n))
  grown_stands rs e k n out a = placed_stands (at (up_to rs e n)) out (any_count b e k n rs a)

  -- FIRST ADDITIONS AND REMOVALS: the latest record, of k bytes now where c were at first and A were added and R removed, gains what is added less
  -- what is removed
  pub first_runs : (h : Held) (rs : List At) (rows : List Row) (e c A R k : ℕ) (xs : List Step) → First f e c A R xs → Stands h (at (up_to rs e k))
      → length rs + 1 ≤ f.head.records
      → 4 ≤ c → R ≤ A → k + R ≡ c + A → Ran (state h rows) xs (at (up_to rs e (k + all_added xs - all_removed xs))) (e ⦂ all_removed xs ∷ [])
  unfolding all_removed all_added
  first_runs h rs rows e c A R k [] p s l four le eq =
      let z : k ≡ k + 0 - 0 = omega arith in
      subst (λ (m : ℕ). Ran (state h rows) [] (at (up_to rs e m)) (e ⦂ 0 ∷ [])) z
      (run_none (state h rows) (at (up_to rs e k)) (e ⦂ 0 ∷ []) s (λ d. given_zero d e))
  first_runs h rs rows e c A R k (add x ∷ xs) p s l four le eq =
      let n = x.amount in
      let m : k + n + all_added xs - all_removed xs ≡ k + (n + all_added xs) - all_removed xs = omega arith in
      let q = first_runs (grown rs e k rows x).flags rs rows e c (A + n) R (k + n) xs p.2
      (grown_stands rs e k (k + n) x.out (stands_ascend s)) l four (omega arith) (omega arith) in
      run_step (state h rows) (add x) xs (at (up_to rs e (k + (n + all_added xs) - all_removed xs))) [] (e ⦂ all_removed xs ∷ []) (e ⦂ all_removed xs ∷ [])
      (grown rs e k rows x)
      (added_once h rs rows e k x s l p.0 (omega arith)) (no_rows rows owner) (λ d. given_more d (e ⦂ all_removed xs ∷ []))
      (subst (λ (i : ℕ). Ran (grown rs e k rows x) xs (at (up_to rs e i)) (e ⦂ all_removed xs ∷ [])) m q)
  first_runs h rs rows e c A R k (remove x ∷ xs) p s l four le eq =
      let n = x.amount in
      let a = stands_ascend s in
      let room : 4 + n ≤ k = omega arith in
      let m : k - n + all_added xs - all_removed xs ≡ k + all_added xs - (n + all_removed xs) = omega arith in
      let t : Stands (left (up_to rs e k) rows x).flags (at (up_to rs e (k - n))) =
      subst (λ (l : List At). Stands (left (up_to rs e k) rows x).flags (at l)) (taken_back b rs e k n a room)
      (remaining_stands (up_to rs e k) n x.out a) in
      let q = first_runs (left (up_to rs e k) rows x).flags rs (left (up_to rs e k) rows x).rows e c A (R + n) (k - n) xs p.2 t l four
      (omega arith) (omega arith) in
      run_step (state h rows) (remove x) xs (at (up_to rs e (k + all_added xs - (n + all_removed xs)))) (split b (up_to rs e k) n)
      (e ⦂ all_removed xs ∷ []) (e ⦂ (n + all_removed xs) ∷ [])
      (left (up_to rs e k) rows x) (removed_once h (up_to rs e k) rows x s (omega (arith, length_up rs e k)) p.0) refl
      (λ d. ap (λ (g : ℕ). g + given d (e ⦂ all_removed xs ∷ [])) (given_once d b rs e k n room) ∙ given_both d e n (all_removed xs) [])
      (subst (λ (i : ℕ). Ran (left (up_to rs e k) rows x) xs (at (up_to rs e i)) (e ⦂ all_removed xs ∷ [])) m q)
