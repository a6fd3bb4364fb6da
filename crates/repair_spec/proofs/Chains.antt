-- The records that are read of old bytes, one after another: each stands where the one before it ends, and behind the last one the bytes
-- end, or what is left of them is no record. Assumes nothing.
use Prim.Native.Nat.{ℕ, zero, suc, ◌+◌, ◌≤◌, ◌<◌}
use native.Mathlib.Decide.{dec_lt}
use native.Mathlib.Omega.{arith}
use mathlib.Core.Path.{◌≡◌, refl, sym, subst}
use mathlib.Core.Bool.{Bool, true, false}
use Rattle.std.specs.Prelude.{Option, None, Some}
use mathlib.Core.List.{List, [], ◌∷◌, ◌++◌}
use borrow.Author.Tests.{lt-ltb, le-ltb}
use lib.ListN.{length, drop}
use Rattle.records_spec.specs.Flags.{multi}
use Rattle.records_spec.specs.declared.head.Kind.{Kind}
use Rattle.codec_spec.specs.Bytes.{head_size}
use Rattle.repair_spec.specs.Olds.{Old, old_at}
use Rattle.repair_spec.specs.Repairing.{olds_in}
use Rattle.repair_spec.specs.Theorems.{Link, Ends, all_read, bytes_left, Chain, behind_all}
use Rattle.repair_spec.proofs.Reading.{rest, rest_end, rest_cut, rest_more}

-- f bytes are left at most
rest_chain : (k : Kind) (f : ℕ) (d : List ℕ) (at : ℕ) → length d ≤ at + f → Chain k d at (rest d at).records (rest d at).cut
rest_chain k zero d at g = rw (rest_end d at (omega arith)) (all_read (omega arith))
rest_chain k (suc f) d at g =
    elim (dec_lt at (length d)) [
      | yes i ↦ by i (old_at at (drop at d)) refl (λ j. rest_chain k f d j)
      | no i ↦ rw (rest_end d at (omega arith)) (all_read (omega arith))
    ]
  where
    by : at < length d → (x : Option Old) → old_at at (drop at d) ≡ x
        → ((j : ℕ) → length d ≤ j + f → Chain k d j (rest d j).records (rest d j).cut)
        → Chain k d at (rest d at).records (rest d at).cut
    by i None q ih = rw (rest_cut d at i q) (bytes_left i (λ m. q))
    by i (Some o) q ih =
        let t = rest_more d at o i q in
        rw t.step
        (record { there = q; starts = t.starts; some_bytes = t.some_bytes; inside = t.inside }, ih (at + o.size) (omega (arith, t.some_bytes)))

-- WHAT IS READ BEHIND THE HEAD, for all kinds
pub read_chain : (k : Kind) (xs : List ℕ) → Chain k xs (head_size k) (olds_in k xs).records (olds_in k xs).cut
read_chain k xs = by (multi k) refl
  where
    by : (b : Bool) → multi k ≡ b → Chain k xs (head_size k) (olds_in k xs).records (olds_in k xs).cut
    by true m = rw m (rest_chain k (length xs) xs (head_size k) (omega arith))
    by false m =
        elim (dec_lt (head_size k) (length xs)) [
          | yes h ↦ rw (m, lt-ltb (head_size k) (length xs) h) (bytes_left h (λ t. let z : ◌≡◌ {A = ℕ} 0 1 = cc in absurd (omega arith)))
          | no h ↦ rw (m, le-ltb (head_size k) (length xs) (omega arith)) (all_read (omega arith))
        ]

-- ---- one of the records

-- a record that is read, and those behind it
pub record Stands (k : Kind) (d : List ℕ) (at : ℕ) (o : Old) (later : List Old) (c : Option ℕ) : Type 0 where
  pub from : at ≤ o.offset
  pub link : Link d o.offset o
  pub behind : Chain k d (o.offset + o.size) later c

pub chain_split : (k : Kind) (d : List ℕ) (at : ℕ) (earlier : List Old) (o : Old) (later : List Old) (c : Option ℕ)
    → Chain k d at (earlier ++ (o ∷ later)) c
    → Stands k d at o later c
chain_split k d at [] o later c p =
    let s : at ≡ o.offset = sym p.0.starts in
    record { from = omega arith; link = subst (λ (i : ℕ). Link d i o) s p.0; behind = subst (λ (i : ℕ). Chain k d (i + o.size) later c) s p.1 }
chain_split k d at (x ∷ earlier) o later c p =
    let s = chain_split k d (at + x.size) earlier o later c p.1 in
    record { from = omega (arith, s.from); link = s.link; behind = s.behind }

pub chain_ends : (k : Kind) (d : List ℕ) (at : ℕ) (os : List Old) (c : Option ℕ) → Chain k d at os c → Ends k d (behind_all at os) c
chain_ends k d at [] c p = p
chain_ends k d at (o ∷ os) c p = chain_ends k d (at + o.size) os c p.1

behind_from : (at : ℕ) (os : List Old) → at ≤ behind_all at os
behind_from at [] = omega arith
behind_from at (o ∷ os) = omega (arith, behind_from (at + o.size) os)

-- the cut stands there
cut_behind : (k : Kind) (d : List ℕ) (at c : ℕ) → Ends k d at (Some c) → at ≡ c
cut_behind k d at c (bytes_left h q) = refl

pub chain_cut : (k : Kind) (d : List ℕ) (at : ℕ) (os : List Old) (c : ℕ) → Chain k d at os (Some c) → at ≤ c
chain_cut k d at os c p = omega (arith, behind_from at os, cut_behind k d (behind_all at os) c (chain_ends k d at os (Some c) p))
