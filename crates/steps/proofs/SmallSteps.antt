-- DEMAND 3: EDITING IN SMALL STEPS REFUNDS LIKE ONE EDIT. The first steps add D more than they take back; the later ones take back D, and what
-- the one removal takes.
-- Assumes nothing.
use mathlib.Core.Path.{◌≡◌, refl, ap, ◌∙◌, subst}
use mathlib.Core.List.{List, [], ◌∷◌, ◌++◌}
use Prim.Native.Nat.{ℕ, ◌+◌, ◌-◌, ◌≤◌}
use native.Mathlib.Omega.{arith}
use lib.ListN.{length}
use Rattle.records_spec.specs.Tables.{At, ◌⦂◌, over}
use Rattle.records_spec.specs.Flags.{Flags, owner_of, Held}
use Rattle.records_spec.specs.Answers.{writing}
use Rattle.records_spec.proofs.Answers.{writing_fits}
use Rattle.codec_spec.specs.Bytes.{bytes_of}
use Rattle.codec_spec.proofs.Writings.{serialized_proper}
use Rattle.rows_spec.specs.Rows.{rows_under}
use Rattle.splitting_spec.specs.Sections.{split}
use Rattle.records_spec.specs.Outcomes.{ok, after}
use Rattle.codec_spec.specs.Calls.{serialized}
use Rattle.steps.specs.History.{Edit, Step, add, remove, state, all_added, all_removed, refund_at}
use Rattle.steps.specs.Demand.{First, Premises, Refunds}
use Rattle.steps.proofs.Standing.{Stands, stands_ascend, stands_long}
use Rattle.steps.proofs.Remaining.{remaining, given, given_both}
use Rattle.steps.proofs.Latest.{up_to, length_up, remaining_back, given_back}
use Rattle.steps.proofs.Shorter.{bytes_less}
use Rattle.steps.proofs.Runs.{Ran, run_then}
use Rattle.steps.proofs.Running.{at, then_runs, first_runs}

-- ---- the sums of a history

removed_append : (xs ys : List Step) → all_removed (xs ++ ys) ≡ all_removed xs + all_removed ys
unfolding all_removed
removed_append [] ys = omega arith
removed_append (add x ∷ xs) ys = removed_append xs ys
removed_append (remove x ∷ xs) ys = omega (arith, removed_append xs ys)

-- never more removed than added
removed_added : (f : Held) (e c A R : ℕ) (xs : List Step) → First f e c A R xs → R ≤ A → R + all_removed xs ≤ A + all_added xs
unfolding all_removed all_added
removed_added f e c A R [] p l = omega arith
removed_added f e c A R (add x ∷ xs) p l = omega (arith, removed_added f e c (A + x.amount) R xs p.2 (omega arith))
removed_added f e c A R (remove x ∷ xs) p l = omega (arith, removed_added f e c A (R + x.amount) xs p.2 p.1)

-- ---- the bytes

pub stands_bytes : (h : Held) (f : Flags) (out : List ℕ) → Stands h f → length (bytes_of f) ≤ length out
    → serialized h out ≡ after (ok (length (bytes_of f))) (over (bytes_of f) out)
stands_bytes h f out s l =
    serialized_proper h out s.are_proper
    ∙ ap (λ (g : Flags). writing (bytes_of g) out) s.are
    ∙ writing_fits (bytes_of f) out l

-- ---- the demand

module _ (f : Held) (e c : ℕ) (first later : List Step) (one : Edit) (out : List ℕ) (p : Premises f e c first later one out) where
  abbrev b : ℕ
  b = f.head.base

  -- the first records, and what the one removal leaves of them
  abbrev rs : List At
  rs = up_to p.earlier e c

  abbrev left : List At
  left = remaining b rs one.amount

  -- what the first steps add and take back
  abbrev A : ℕ
  A = all_added first

  abbrev back : ℕ
  back = all_removed first

  start : Stands f (at f rs)
  start = record { are_proper = p.canonical; are = ap (at f) p.latest }

  four : 4 ≤ c
  four = let h = p.four_or_more in omega arith

  few : length p.earlier + 1 ≤ f.head.records
  few = omega (arith, stands_long start, length_up p.earlier e c)

  net : back ≤ A
  net = omega (arith, removed_added f e c 0 0 first p.first_steps (omega arith))

  -- the later steps take back the rest, and what the one removal takes
  rest : all_removed later ≡ (A - back) + one.amount
  rest = let n = p.not_below_0 in omega (arith, p.one_amount, removed_append first later, net)

  first_ran : Ran (state f []) first (at f (up_to p.earlier e (c + A - back))) (e ⦂ back ∷ [])
  first_ran = first_runs f f p.earlier [] e c 0 0 c first p.first_steps start few four (omega arith) refl

  later_ran : Ran first_ran.final later (at f left) (split b (up_to p.earlier e (c + (A - back))) ((A - back) + one.amount))
  later_ran =
      let k : c + A - back ≡ c + (A - back) = omega (arith, net) in
      let l : length (up_to p.earlier e (c + A - back)) ≤ f.head.records = omega (arith, few, length_up p.earlier e (c + A - back)) in
      let q = then_runs f first_ran.final.flags (up_to p.earlier e (c + A - back)) first_ran.final.rows later p.later_steps
      first_ran.stands l in
      subst (λ (l : List At). Ran first_ran.final later (at f l) (split b (up_to p.earlier e (c + (A - back))) ((A - back) + one.amount)))
      (remaining_back p.earlier e c (A - back) one.amount four b (stands_ascend start))
      (subst (λ (m : ℕ). Ran first_ran.final later (at f (remaining b (up_to p.earlier e m) ((A - back) + one.amount)))
      (split b (up_to p.earlier e m) ((A - back) + one.amount))) k
      (subst (λ (n : ℕ). Ran first_ran.final later (at f (remaining b (up_to p.earlier e (c + A - back)) n))
      (split b (up_to p.earlier e (c + A - back)) n)) rest q))

  -- what all sections come to: what was taken back first and later is what was added
  all_given : (d : ℕ) → given d (e ⦂ back ∷ []) + given d (split b (up_to p.earlier e (c + (A - back))) ((A - back) + one.amount))
      ≡ given d (e ⦂ A ∷ split b rs one.amount)
  all_given d =
      let n : back + (A - back) ≡ A = omega (arith, net) in
      ap (λ (g : ℕ). given d (e ⦂ back ∷ []) + g) (given_back p.earlier e c (A - back) one.amount four d b)
      ∙ given_both d e back (A - back) (split b rs one.amount)
      ∙ ap (λ (m : ℕ). given d (e ⦂ m ∷ split b rs one.amount)) n

  all_ran : Ran (state f []) (first ++ later) (at f left) (e ⦂ A ∷ split b rs one.amount)
  all_ran = run_then (state f []) first later b (owner_of f.head) (up_to p.earlier e (c + A - back)) left (e ⦂ back ∷ []) _
      (e ⦂ A ∷ split b rs one.amount) all_given first_ran later_ran

  one_ran : Ran (state f []) (remove one ∷ []) (at f left) (split b rs one.amount)
  unfolding all_removed
  one_ran =
      let n : one.amount + 0 ≡ one.amount = omega arith in
      subst (λ (m : ℕ). Ran (state f []) (remove one ∷ []) (at f (remaining b rs m)) (split b rs m)) n
      (then_runs f f rs [] (remove one ∷ []) (p.one_removal, tt) start (omega (arith, stands_long start)))

  room : length (bytes_of (at f left)) ≤ length out
  room =
      let l = p.byte_room in
      omega (arith, bytes_less b (owner_of f.head) rs (split b rs one.amount), ap (λ (k : List At). length (bytes_of (at f k))) p.latest)

  -- EDITING IN SMALL STEPS REFUNDS LIKE ONE EDIT
  pub small_steps : Refunds f e first later one out
  unfolding refund_at rows_under
  small_steps =
      record {
        final = all_ran.final;
        single = one_ran.final;
        bytes = bytes_of (at f left);
        all_accepted = all_ran.accepted;
        one_accepted = one_ran.accepted;
        final_bytes = stands_bytes all_ran.final.flags (at f left) out all_ran.stands room;
        one_bytes = stands_bytes one_ran.final.flags (at f left) out one_ran.stands room;
        sections_sum = λ i d. omega (arith, all_ran.refunds i d, one_ran.refunds i d);
      }
