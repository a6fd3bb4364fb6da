-- A loop that counts up to n in a walk: what holds before each turn holds at 0, each turn below n leads to the next number, and the turn at n leaves
-- the loop.
-- Assumes nothing.
use mathlib.Core.Path.{◌≡◌, sym, ◌∙◌, subst}
use mathlib.Core.List.{List}
use Prim.Native.Nat.{ℕ, zero, suc, ◌+◌, ◌<◌}
use native.Mathlib.Nat.{add-zero, add-suc, suc-add, lt-suc_self}
use native.Mathlib.Omega.{arith}
use lib.WfN.{lt-wf_rel}
use seplogic.Ra.Ura.{Ura}
use mir.Syntax.{Body, loop}
use base.Logic.{SProp, ent, ex, guard, via, ex_i, ex_e, guard_i, guard_e}
use prog.Wp.{Out, Env, after_turn, Wp, Tables}
use types.Logic.{Logic}
use types.Kit.{Item, ⋆}
use sound.Loop.{loop_rule}

module _ {M : Type 1} {𝓤 : Ura M} (𝓛 : Logic 𝓤) (𝓣 : Tables 𝓤 𝓛.H) (En : Env 𝓤 𝓛.H) (turn : Body) (Left : Out → SProp 𝓤)
    (At : ℕ → List (Item 𝓤)) (n : ℕ) where
  open 𝓛 use {H}

  abbrev Turn : ℕ → SProp 𝓤 → Type 1
  Turn i X = ent 𝓤 (⋆ 𝓛 (At i)) (Wp 𝓤 H 𝓣.C 𝓣.Λ En turn (after_turn 𝓤 H X Left))

  -- the invariant, where t turns are left
  abbrev Inv : ℕ → SProp 𝓤
  Inv t = ex 𝓤 (λ (i : ℕ). guard 𝓤 (i + t ≡ n) (⋆ 𝓛 (At i)))

  abbrev Below : ℕ → SProp 𝓤
  Below t = ex 𝓤 (λ (t' : ℕ). guard 𝓤 (t' < t) (Inv t'))

  below : (t i : ℕ) → suc i + t ≡ n → ent 𝓤 (⋆ 𝓛 (At (suc i))) (Below (suc t))
  below t i e =
      via 𝓤 (Inv t)
      (via 𝓤 (guard 𝓤 (suc i + t ≡ n) (⋆ 𝓛 (At (suc i)))) (guard_i 𝓤 (suc i + t ≡ n) (⋆ 𝓛 (At (suc i))) e)
      (ex_i 𝓤 (λ (j : ℕ). guard 𝓤 (j + t ≡ n) (⋆ 𝓛 (At j))) (suc i)))
      (via 𝓤 (guard 𝓤 (t < suc t) (Inv t)) (guard_i 𝓤 (t < suc t) (Inv t) (lt-suc_self t)) (ex_i 𝓤 (λ (u : ℕ). guard 𝓤 (u < suc t) (Inv u)) t))

  module _ (more : (i : ℕ) (X : SProp 𝓤) → i < n → ent 𝓤 (⋆ 𝓛 (At (suc i))) X → Turn i X) (ends : (X : SProp 𝓤) → Turn n X) where
    turn_at : (t i : ℕ) → i + t ≡ n → Turn i (Below t)
    turn_at zero i e = subst (λ (k : ℕ). Turn k (Below zero)) (sym e ∙ add-zero i) (ends (Below zero))
    turn_at (suc t) i e = more i (Below (suc t)) (omega (arith, e)) (below t i (suc-add i t ∙ sym (add-suc i t) ∙ e))

    turns : (t : ℕ) → ent 𝓤 (Inv t) (Wp 𝓤 H 𝓣.C 𝓣.Λ En turn (after_turn 𝓤 H (Below t) Left))
    turns t = ex_e 𝓤 (λ (i : ℕ). guard 𝓤 (i + t ≡ n) (⋆ 𝓛 (At i))) (λ i. guard_e 𝓤 (i + t ≡ n) (⋆ 𝓛 (At i)) (λ e. turn_at t i e))

    pub counts : ent 𝓤 (⋆ 𝓛 (At 0)) (Wp 𝓤 H 𝓣.C 𝓣.Λ En (loop turn) Left)
    counts =
        via 𝓤 (Inv n)
        (via 𝓤 (guard 𝓤 (0 + n ≡ n) (⋆ 𝓛 (At 0))) (guard_i 𝓤 (0 + n ≡ n) (⋆ 𝓛 (At 0)) (omega arith))
        (ex_i 𝓤 (λ (j : ℕ). guard 𝓤 (j + n ≡ n) (⋆ 𝓛 (At j))) 0))
        (loop_rule 𝓤 H 𝓛.laws 𝓣 ◌<◌ lt-wf_rel.wf En turn Left Inv turns n)
