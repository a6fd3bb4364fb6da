-- What a walk by hand with a branch and calls uses. It says nothing of the crate.
--     or_else      `if` with a `return` inside, and the rest where the test fails
--     hears        what a function with plain parameters answered, and the fact that its contract says of it
--     gives_up     a `&mut [T]` that was not used has its elements for its last value
-- Assumes nothing.
use mathlib.Core.Path.{◌≡◌}
use mathlib.Core.Bool.{Bool, not}
use mathlib.Core.List.{List, [], ◌∷◌}
use lib.Dec.{T as Holds}
use seplogic.Ra.Ura.{Ura}
use mir.Syntax.{Lifetime, Opd as Operand, Body, seq, skip, cond}
use mir.Val.{Val, vbool}
use base.Logic.{ent}
use base.Fml.{Lft, Fml, ftrue, fres}
use prog.Wp.{Env, Calls, Loops, Wp, after_seq}
use types.Logic.{Logic, sem}
use contract.Monad.{fact}
use types.Kit.{Item, ‵, raw, ◌⊛◌, some, later, await, pick, Goal, Post, post, any_q, runs, Sq, Soaks, Go, ◌$◌, ◌∵◌, !, qed, use1, move, keep}
use types.Kit.{drop, split, fsplit, done}
use types.Run.{Opd, first, branches, skips}
use denote.RattleType.{RattleType}
use denote.Laws.{Is, shows}
use denote.Ref.{MutBor}
use denote.Slice.{MutSlice, finally, res-finally, coded_holeys, heres}
use denote.Steps.{peeks, heard}

module _ {M : Type 1} {𝓤 : Ura M} (𝓛 : Logic 𝓤) where
  open 𝓛 use {H}

  pub or_else : {Γ : List (Item 𝓤)} {C : Calls 𝓤 H} {Λ : Loops 𝓤 H} {E : Env 𝓤 H} {q : Post 𝓤 H} {c : Operand} {a b : Body} {y : Bool}
      → Opd (Go {0}) 𝓛 Γ E c (vbool y)
      → (Holds y → Sq 𝓛 Γ (runs C Λ E a (any_q (after_seq 𝓤 H (Wp 𝓤 H C Λ E b (post 𝓤 H q)) (post 𝓤 H q))))) → (Holds (not y) → Sq 𝓛 Γ (runs C Λ E b q))
      → Sq 𝓛 Γ (runs C Λ E (seq (cond c a skip) b) q)
  or_else o held failed = first ! $ branches ! o held (λ f. skips ! $ record { prf = (failed f).prf })

  pub hears : (R : RattleType) (v : Val) {Ws : Type 0} {says : Ws → Fml} {φ : R.Denot → Type 0} {Γ : List (Item 𝓤)} {G : Goal 𝓤 H} → Soaks G
      → ((r : R.Denot) → φ r → Is R r (v ∷ []) → Sq 𝓛 (‵ (R.own_val r (v ∷ [])) ∷ Γ) G)
      → Sq 𝓛 (later (some (λ (r : R.Denot). (‵ ftrue ⊛ ‵ (R.own_val r (v ∷ []))) ⊛ some (λ (ws : Ws). ‵ (says ws) ⊛ raw (fact 𝓤 (φ r))))) ∷ Γ) G
  hears R v {φ = φ} s k =
      await ! s $ pick ! (λ r. split ! $ move ! (1 ∷ []) $ pick ! (λ ws. split ! $ drop ! $ heard ! (φ r) (λ e. split ! $ drop ! $
      peeks ! R (Is R) (shows 𝓛 R) r (v ∷ []) (λ is. k r e is))))

  pub gives_up : (R : RattleType) (ℓ : Lifetime) (κ : Lft) (x : MutBor (List R.Denot)) (vs : List Val)
      → ent 𝓤 (sem 𝓛 ((MutSlice ℓ κ R).own_val x vs)) (sem 𝓛 (finally R x.ghost_name x.now))
  gives_up R ℓ κ x vs =
      qed 𝓛 (‵ ((MutSlice ℓ κ R).own_val x vs) ∷ []) ∵ fsplit ! $ move ! (1 ∷ []) $ fsplit ! $
      use1 𝓛 (‵ (fres x.ghost_name ((coded_holeys R).code (heres R x.now)))) (𝓛.names.obs-res x.ghost_name ((coded_holeys R).code (heres R x.now))) $
      use1 𝓛 (‵ (finally R x.ghost_name x.now)) (res-finally 𝓛 ℓ κ R x.ghost_name x.now) $ keep ! (0 ∷ []) $ done !
