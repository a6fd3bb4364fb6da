-- Lines listed one after another in two columns: the one of offsets and the one of changes. Assumes nothing.
use Prim.Native.Nat.{ℕ, ◌+◌, ◌≤◌}
use native.Mathlib.Nat.{add-zero}
use native.Mathlib.Omega.{arith}
use mathlib.Core.Path.{◌≡◌, refl, sym, ap, ap₂, ◌∙◌}
use mathlib.Core.Bool.{Bool, true, false}
use mathlib.Core.List.{List, [], ◌∷◌, ◌++◌}
use lib.ListN.{length, set, length-append}
use lib.Seq.{sets, length-sets}
use Rattle.fields_spec.proofs.Parts.{sets_append}
use Rattle.records_spec.proofs.Tables.{length_column, column_append}
use Rattle.repair_spec.specs.Changes.{Line, line, line_if, change_number}
use Rattle.repair_spec.specs.Calls.{offsets_of, changes_of}
use Rattle.repair_spec.specs.Inner.Steps.{Listed}
use Rattle.repair_spec.specs.declared.change.Change.{Change}

-- ---- the two columns

pub length_offsets_of : (ls : List Line) → length (offsets_of ls) ≡ length ls
unfolding offsets_of
length_offsets_of = length_column offsets_of (λ (l : Line). l.offset) refl (λ l ls. refl)

pub length_changes_of : (ls : List Line) → length (changes_of ls) ≡ length ls
unfolding changes_of
length_changes_of = length_column changes_of (λ (l : Line). change_number l.change) refl (λ l ls. refl)

offsets_append : (ls ms : List Line) → offsets_of (ls ++ ms) ≡ offsets_of ls ++ offsets_of ms
unfolding offsets_of
offsets_append = column_append offsets_of (λ (l : Line). l.offset) refl (λ l ls. refl)

changes_append : (ls ms : List Line) → changes_of (ls ++ ms) ≡ changes_of ls ++ changes_of ms
unfolding changes_of
changes_append = column_append changes_of (λ (l : Line). change_number l.change) refl (λ l ls. refl)

-- ---- one after another

pub listed_none : (k : ℕ) (os cs : List ℕ) → Listed [] k k os cs os cs
unfolding offsets_of changes_of
listed_none k os cs = record { behind = sym (add-zero k); offsets_set = refl; changes_set = refl }

pub listed_one : (at : ℕ) (c : Change) (k : ℕ) (os cs os' cs' : List ℕ) → os' ≡ set os k at → cs' ≡ set cs k (change_number c)
    → Listed (line at c ∷ []) k (k + 1) os cs os' cs'
unfolding offsets_of changes_of
listed_one at c k os cs os' cs' p q = record { behind = refl; offsets_set = p; changes_set = q }

-- a column that is written behind another
column_then : (xs ys : List ℕ) (k n m : ℕ) (old mid new : List ℕ) → n ≡ k + m → length xs ≡ m → mid ≡ sets old k xs → new ≡ sets mid n ys
    → new ≡ sets old k (xs ++ ys)
column_then xs ys k n m old mid new en em e f =
    f ∙ ap₂ (λ (l : List ℕ) (i : ℕ). sets l i ys) e (en ∙ ap (λ (j : ℕ). k + j) (sym em)) ∙ sym (sets_append xs ys old k)

pub listed_then : {ls ms : List Line} {k n m : ℕ} {os cs os' cs' os'' cs'' : List ℕ} → Listed ls k n os cs os' cs' → Listed ms n m os' cs' os'' cs''
    → Listed (ls ++ ms) k m os cs os'' cs''
listed_then {ls} {ms} {k} {n} {m} {os} {cs} p q =
    record {
      behind = omega (arith, p.behind, q.behind, length-append ls ms);
      offsets_set =
          column_then (offsets_of ls) (offsets_of ms) k n (length ls) os _ _ p.behind (length_offsets_of ls) p.offsets_set q.offsets_set
          ∙ ap (sets os k) (sym (offsets_append ls ms));
      changes_set =
          column_then (changes_of ls) (changes_of ms) k n (length ls) cs _ _ p.behind (length_changes_of ls) p.changes_set q.changes_set
          ∙ ap (sets cs k) (sym (changes_append ls ms));
    }

-- both columns are as long as they were
pub listed_long : {ls : List Line} {k n : ℕ} {os cs os' cs' : List ℕ} → Listed ls k n os cs os' cs'
    → (length os' ≡ length os) × (length cs' ≡ length cs)
listed_long {ls} {k} {n} {os} {cs} p =
    (ap length p.offsets_set ∙ length-sets os k (offsets_of ls), ap length p.changes_set ∙ length-sets cs k (changes_of ls))

-- what lists the lines that are left from the place k on has listed all of them from the place at on
pub record Going (all : List Line) (at : ℕ) (os₀ cs₀ : List ℕ) (left : List Line) (k : ℕ) (os cs : List ℕ) : Type 0 where
  pub then : (n : ℕ) (os' cs' : List ℕ) → Listed left k n os cs os' cs' → Listed all at n os₀ cs₀ os' cs'
  pub offsets_long : length os ≡ length os₀
  pub changes_long : length cs ≡ length cs₀

module _ {all left : List Line} {at k : ℕ} {os₀ cs₀ os cs : List ℕ} (g : Going all at os₀ cs₀ left k os cs) where
  -- some lines more
  pub going_more : (ls rest : List Line) (j : ℕ) (os' cs' : List ℕ) → left ≡ ls ++ rest → Listed ls k j os cs os' cs'
      → Going all at os₀ cs₀ rest j os' cs'
  going_more ls rest j os' cs' e l =
      record {
        then = λ n os'' cs'' m. g.then n os'' cs'' (rw e (listed_then l m));
        offsets_long = (listed_long l).0 ∙ g.offsets_long;
        changes_long = (listed_long l).1 ∙ g.changes_long;
      }

  -- the last lines
  pub going_last : (ls : List Line) (n : ℕ) (os' cs' : List ℕ) → left ≡ ls → Listed ls k n os cs os' cs' → Listed all at n os₀ cs₀ os' cs'
  going_last ls n os' cs' e l = g.then n os' cs' (rw e l)

  -- no line is left
  pub going_done : left ≡ [] → Listed all at k os₀ cs₀ os cs
  going_done e = g.then k os cs (rw e (listed_none k os cs))

-- ---- how many

pub line_if_short : (b : Bool) (at : ℕ) (c : Change) → length (line_if b at c) ≤ 1
line_if_short true at c = omega arith
line_if_short false at c = omega arith
