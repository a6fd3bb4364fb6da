-- The owner rule as the code has it, of heads and of what was read; and the chosen owner as a part of the encoding that holds it.
-- By cases on the owners and on what reading finds.
-- Assumes nothing.
use mathlib.Core.Path.{◌≡◌, refl, sym, ap, ap₂, ◌∙◌}
use mathlib.Core.Logic.{◌⊎◌, ⊎_elim}
use mathlib.Core.Bool.{Bool, true, false, true≢false}
use Rattle.std.specs.Prelude.{Option, None, Some, Result, Ok, Err}
use mathlib.Core.List.{List}
use Prim.Native.Nat.{ℕ, ◌≤◌}
use native.Mathlib.Omega.{arith}
use lib.ListN.{length, take, drop}
use Rattle.records_spec.specs.Flags.{owner_if, same, owner_of, owner_length}
use Rattle.records_spec.specs.Outcomes.{refused, Answer, ok}
use Rattle.records_spec.specs.Refusals.{number}
use Rattle.records_spec.specs.declared.refusal.Refusal.TheVariants.{DifferentOwners}
use Rattle.records_spec.specs.declared.refusal.Refusal.{Refusal}
use Rattle.records_spec.proofs.Proper.{owner_head}
use Rattle.records_spec.proofs.Owners.{same_self}
use Rattle.codec_spec.specs.Bytes.{behind_kind, owned_head}
use Rattle.codec_spec.specs.Reading.{Read, no_flags, some_flags, refused_at, read}
use Rattle.codec_spec.specs.Calls.{judgement}
use Rattle.codec_spec.specs.declared.judging.Fault.{Fault}
use Rattle.records_spec.specs.declared.head.Head.{Head}
use Rattle.codec_spec.proofs.Settling.{judged_absent, judged_refused, judged_present, owner_behind}
use Rattle.flags_spec.specs.Owners.{choice, chosen, combined_owner, owner_read, unless_refused, choice_read, chosen_bytes}
use Rattle.flags_spec.specs.Parts.{Part, handed}
use Rattle.flags_spec.specs.Calls.{owner_choice, owner_handed}
use Rattle.flags_spec.specs.declared.owners.MergingOwnersStrategy.{MergingOwnersStrategy}
use Rattle.flags_spec.specs.declared.owners.MergingOwnersStrategy.TheVariants.{RaiseIssue, UseOurs, UseTheirs}
use Rattle.flags_spec.specs.declared.owners.Choice.{Choice}
use Rattle.flags_spec.specs.declared.owners.Choice.TheVariants.{Ours, Theirs, Neither}

-- ---- the owner of a merge

-- where theirs is none or the same as ours, ours stays, for every strategy
pub owner_stays : (s : MergingOwnersStrategy) (o t : Option (List ℕ)) → (t ≡ None) ⊎ (t ≡ o) → combined_owner s o t ≡ ok o
owner_stays s o t = ⊎_elim (λ e. rw e (alone o)) (λ e. rw e (both o))
  where
    alone : (o : Option (List ℕ)) → combined_owner s o None ≡ ok o
    alone None = refl
    alone (Some o) = refl

    both : (o : Option (List ℕ)) → combined_owner s o o ≡ ok o
    both None = refl
    both (Some o) = rw (same_self o)

-- ---- what was read

-- the owner of what judging found, or why it is refused
abbrev pub owner_found : Read → Result (Option (List ℕ)) Refusal
owner_found no_flags = Ok None
owner_found (some_flags f) = Ok f.owner
owner_found (refused_at r place) = Err r

module _ (x : Read) where
  pub judged_out : (f : Fault) → judgement x ≡ Err f → Err f.refusal ≡ owner_found x
  judged_out f e = sym (ap owner_found (judged_refused x f e))

  pub judged_none : judgement x ≡ Ok None → Ok None ≡ owner_found x
  judged_none e = sym (ap owner_found (judged_absent x e))

  pub judged_some : (h : Head) → judgement x ≡ Ok (Some h) → Ok (owner_of h) ≡ owner_found x
  judged_some h e =
      let f = judged_present x h e in
      ap (λ (k : Head). Ok (owner_of k)) f.2 ∙ ap Ok (owner_head f.0) ∙ sym (ap owner_found f.1)

-- ours is read first, then theirs, and then the rule decides
module _ (s : MergingOwnersStrategy) where
  pub first_refused : (x y : Read) (r : Refusal) → Err r ≡ owner_found x → Err r ≡ choice_read s x y
  first_refused no_flags y r e = cc
  first_refused (some_flags f) y r e = cc
  first_refused (refused_at q p) y r e = cc

  pub second_refused : (x y : Read) (o : Option (List ℕ)) (r : Refusal) → Ok o ≡ owner_found x → Err r ≡ owner_found y → Err r ≡ choice_read s x y
  second_refused no_flags y o r d e = last y e
    where
      last : (y : Read) → Err r ≡ owner_found y → Err r ≡ choice_read s no_flags y
      last no_flags e = cc
      last (some_flags f) e = cc
      last (refused_at q p) e = cc
  second_refused (some_flags f) y o r d e = last y e
    where
      last : (y : Read) → Err r ≡ owner_found y → Err r ≡ choice_read s (some_flags f) y
      last no_flags e = cc
      last (some_flags g) e = cc
      last (refused_at q p) e = cc
  second_refused (refused_at q p) y o r d e = cc

  pub both_read : (x y : Read) (o t : Option (List ℕ)) → Ok o ≡ owner_found x → Ok t ≡ owner_found y → choice s o t ≡ choice_read s x y
  both_read no_flags no_flags o t d e = let a : o ≡ None = cc in let b : t ≡ None = cc in ap₂ (choice s) a b
  both_read no_flags (some_flags g) o t d e = let a : o ≡ None = cc in let b : t ≡ g.owner = cc in ap₂ (choice s) a b
  both_read (some_flags f) no_flags o t d e = let a : o ≡ f.owner = cc in let b : t ≡ None = cc in ap₂ (choice s) a b
  both_read (some_flags f) (some_flags g) o t d e = let a : o ≡ f.owner = cc in let b : t ≡ g.owner = cc in ap₂ (choice s) a b
  both_read (refused_at r p) y o t d e = let z : ◌≡◌ {A = ℕ} 0 1 = cc in absurd (omega arith)
  both_read no_flags (refused_at r p) o t d e = let z : ◌≡◌ {A = ℕ} 0 1 = cc in absurd (omega arith)
  both_read (some_flags f) (refused_at r p) o t d e = let z : ◌≡◌ {A = ℕ} 0 1 = cc in absurd (omega arith)

-- ---- where the owner stands

-- an owner that was read is what stands behind the kind
pub record Owned (xs a : List ℕ) : Type 0 where
  pub was_read : owner_read (read xs) ≡ Some a
  pub long : owned_head ≤ length xs
  pub is_there : a ≡ take owner_length (drop behind_kind xs)

pub owner_place : (xs a : List ℕ) → owner_read (read xs) ≡ Some a → Owned xs a
owner_place xs a o = by (read xs) refl
  where
    no_owner : {A : Type 0} → ◌≡◌ {A = Option (List ℕ)} None (Some a) → A
    no_owner e = let z : ◌≡◌ {A = ℕ} 0 1 = cc in absurd (omega arith)

    by : (x : Read) → read xs ≡ x → Owned xs a
    by no_flags e = no_owner (rw e at o)
    by (refused_at r p) e = no_owner (rw e at o)
    by (some_flags f) e = let p = owner_behind xs f a e (rw e at o) in record { was_read = o; long = p.0; is_there = p.1 }

-- ---- whose owner was chosen

-- an owner that is chosen exists
pub choice_ours : (s : MergingOwnersStrategy) (o t : Option (List ℕ)) → choice s o t ≡ Ok Ours → (a : List ℕ) × (o ≡ Some a)
choice_ours s None None e = let z : ◌≡◌ {A = ℕ} 0 1 = cc in absurd (omega arith)
choice_ours s None (Some t) e = let z : ◌≡◌ {A = ℕ} 0 1 = cc in absurd (omega arith)
choice_ours s (Some o) t e = (o, refl)

pub choice_theirs : (s : MergingOwnersStrategy) (o t : Option (List ℕ)) → choice s o t ≡ Ok Theirs → (a : List ℕ) × (t ≡ Some a)
choice_theirs s None None e = let z : ◌≡◌ {A = ℕ} 0 1 = cc in absurd (omega arith)
choice_theirs s (Some o) None e = let z : ◌≡◌ {A = ℕ} 0 1 = cc in absurd (omega arith)
choice_theirs s o (Some t) e = (t, refl)

-- what is no refusal is the rest
unless_rest : (x : Read) (rest c : Result Choice Refusal) → ((r : Refusal) → Err r ≡ c → ⊥) → unless_refused x rest ≡ c → rest ≡ c
unless_rest no_flags rest c d e = e
unless_rest (some_flags f) rest c d e = e
unless_rest (refused_at r p) rest c d e = absurd (d r e)

module _ (s : MergingOwnersStrategy) (xs ys : List ℕ) where
  choice_rest : (c : Result Choice Refusal) → ((r : Refusal) → Err r ≡ c → ⊥) → choice_read s (read xs) (read ys) ≡ c
      → choice s (owner_read (read xs)) (owner_read (read ys)) ≡ c
  choice_rest c d e = unless_rest (read ys) _ c d (unless_rest (read xs) _ c d e)

  pub ours_owned : choice_read s (read xs) (read ys) ≡ Ok Ours → (a : List ℕ) × Owned xs a
  ours_owned e =
      let o = choice_ours s (owner_read (read xs)) (owner_read (read ys)) (choice_rest (Ok Ours) (λ r f. let z : ◌≡◌ {A = ℕ} 0 1 = cc in omega arith) e) in
      (o.0, owner_place xs o.0 o.1)

  pub theirs_owned : choice_read s (read xs) (read ys) ≡ Ok Theirs → (a : List ℕ) × Owned ys a
  theirs_owned e =
      let o = choice_theirs s (owner_read (read xs)) (owner_read (read ys))
      (choice_rest (Ok Theirs) (λ r f. let z : ◌≡◌ {A = ℕ} 0 1 = cc in omega arith) e) in
      (o.0, owner_place ys o.0 o.1)

-- ---- the part that is handed back

module _ (s : MergingOwnersStrategy) (ours theirs : Part) where
  handed_as : (c : Result Choice Refusal) → owner_choice s ours.bytes theirs.bytes ≡ c
      → (handed c ours theirs).bytes ≡ chosen_bytes (chosen c (owner_read (read ours.bytes)) (owner_read (read theirs.bytes)))
  handed_as (Ok Ours) e = let o = ours_owned s ours.bytes theirs.bytes e in rw o.1.was_read (sym o.1.is_there)
  handed_as (Ok Theirs) e = let o = theirs_owned s ours.bytes theirs.bytes e in rw o.1.was_read (sym o.1.is_there)
  handed_as (Ok Neither) e = refl
  handed_as (Err r) e = refl

  -- THE PART HOLDS THE OWNER THAT THE RULE CHOSE
  pub handed_owner : (owner_handed s ours theirs).bytes
      ≡ chosen_bytes (chosen (owner_choice s ours.bytes theirs.bytes) (owner_read (read ours.bytes)) (owner_read (read theirs.bytes)))
  handed_owner = handed_as (owner_choice s ours.bytes theirs.bytes) refl
