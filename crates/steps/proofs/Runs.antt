-- Runs of steps: where they end, and what their rows come to. Steps one after another, and runs one after another.
-- Assumes nothing.
use mathlib.Core.Path.{◌≡◌, refl, sym, ap, ◌∙◌}
use mathlib.Core.Bool.{Bool, true, false, cond}
use Rattle.std.specs.Prelude.{Option}
use mathlib.Core.List.{List, [], ◌∷◌, ◌++◌, append-nil}
use Prim.Native.Nat.{ℕ, ◌+◌}
use native.Mathlib.Omega.{arith}
use Rattle.records_spec.specs.Tables.{At}
use Rattle.records_spec.specs.Flags.{Flags, flags, same, id_of}
use Rattle.rows_spec.specs.Rows.{Row, rows_under}
use Rattle.records_spec.specs.Outcomes.{refused, Answer, ok, ◌>>=◌}
use Rattle.steps.specs.History.{Step, State, step, run, refund_at}
use Rattle.steps.proofs.Standing.{Stands}
use Rattle.steps.proofs.Remaining.{given}
use Rattle.steps.proofs.Refunds.{refund_append, refund_under, refunds_same}

pub no_rows : (rows : List Row) (j : List ℕ) → rows ≡ rows ++ rows_under j []
unfolding rows_under
no_rows rows j = sym (append-nil rows)

-- steps from a state end in flags f, and their rows come to these sections more, under the flags' owner
pub record Ran (st : State) (xs : List Step) (f : Flags) (more : List At) : Type 0 where
  pub final : State
  pub accepted : run st xs ≡ ok final
  pub stands : Stands final.flags f
  pub refunds : (i : List ℕ) (d : ℕ) → refund_at i d final.rows ≡ refund_at i d st.rows + refund_at i d (rows_under (id_of f.owner) more)

-- no steps: sections that come to nothing
pub run_none : (st : State) (f : Flags) (more : List At) → Stands st.flags f → ((d : ℕ) → given d more ≡ 0) → Ran st [] f more
unfolding run
run_none st f more s z =
    record {
      final = st;
      accepted = refl;
      stands = s;
      refunds = λ i d. omega (arith, refund_under i d (id_of f.owner) more, by (same (id_of f.owner) i) (given d more) (z d));
    }
  where
    by : (b : Bool) (n : ℕ) → n ≡ 0 → cond b n 0 ≡ 0
    by true n e = e
    by false n e = refl

-- a step whose rows come to us more, then the rest, which comes to vs more
module _ (st : State) (x : Step) (xs : List Step) (f : Flags) (us vs ws : List At) (next : State) where
  pub run_step : step st x ≡ ok next → next.rows ≡ st.rows ++ rows_under (id_of f.owner) us → ((d : ℕ) → given d us + given d vs ≡ given d ws)
      → Ran next xs f vs → Ran st (x ∷ xs) f ws
  unfolding run
  run_step a r h q =
      record {
        final = q.final;
        accepted = ap (λ (y : Answer State). ◌>>=◌ y (λ st'. run st' xs)) a ∙ q.accepted;
        stands = q.stands;
        refunds = λ i d. omega (
          arith,
          q.refunds i d,
          ap (refund_at i d) r ∙ refund_append i d st.rows (rows_under (id_of f.owner) us),
          refunds_same i d (id_of f.owner) us vs ws (h d),
        );
      }

-- a run of steps and others is a run of the others where the steps ended
run_append : (st : State) (xs ys : List Step) → run st (xs ++ ys) ≡ ◌>>=◌ (run st xs) (λ st'. run st' ys)
unfolding run
run_append st [] ys = refl
run_append st (x ∷ xs) ys = by (step st x) (λ st'. run_append st' xs ys)
  where
    by : (a : Answer State) → ((st' : State) → run st' (xs ++ ys) ≡ ◌>>=◌ (run st' xs) (λ st''. run st'' ys))
        → ◌>>=◌ a (λ st'. run st' (xs ++ ys)) ≡ ◌>>=◌ (◌>>=◌ a (λ st'. run st' xs)) (λ st'. run st' ys)
    by (ok st') go = go st'
    by (refused n) go = refl

-- steps, then others
pub run_then : (st : State) (xs ys : List Step) (base : ℕ) (o : Option (List ℕ)) (rs rs' us vs ws : List At)
    → ((d : ℕ) → given d us + given d vs ≡ given d ws)
    → (q : Ran st xs (flags base o rs) us) → Ran q.final ys (flags base o rs') vs → Ran st (xs ++ ys) (flags base o rs') ws
run_then st xs ys base o rs rs' us vs ws h q p =
    record {
      final = p.final;
      accepted = run_append st xs ys ∙ ap (λ (y : Answer State). ◌>>=◌ y (λ st'. run st' ys)) q.accepted ∙ p.accepted;
      stands = p.stands;
      refunds = λ i d. omega (arith, p.refunds i d, q.refunds i d, refunds_same i d (id_of o) us vs ws (h d));
    }
