-- Bytes that are written part by part: what is left of them, at the place reached, makes of the buffer what all of them make of the
-- buffer lent. Assumes nothing.
use Rattle.std.proofs.Common.{◌≡◌, refl, ap, ◌∙◌, List, [], ◌∷◌, ◌++◌, ℕ, suc, ◌+◌, ◌≤◌, ◌<◌, add-zero, add-one, arith, length, set, length-set}
use Rattle.std.proofs.Common.{length-append}
use Rattle.std.proofs.Math.Seq.{set_comm, sets, length-sets}
use Rattle.fields_spec.specs.Writing.{Put}

pub sets_append : (xs ys l : List ℕ) (i : ℕ) → sets l i (xs ++ ys) ≡ sets (sets l i xs) (i + length xs) ys
sets_append [] ys l i = rw (add-zero i)
sets_append (x ∷ xs) ys l i =
    let e : suc i + length xs ≡ i + suc (length xs) = omega arith in
    rw (← e) (sets_append xs ys (set l i x) (suc i))

-- a part may be written after the one behind it
set_before : (ys l : List ℕ) (i j x : ℕ) → i < j → set (sets l j ys) i x ≡ sets (set l i x) j ys
set_before [] l i j x h = refl
set_before (y ∷ ys) l i j x h =
    set_before ys (set l j y) i (suc j) x (omega arith) ∙ ap (λ (m : List ℕ). sets m (suc j) ys) (set_comm l j i y x (λ e. omega arith))

pub sets_before : (xs ys l : List ℕ) (i j : ℕ) → i + length xs ≤ j → sets (sets l j ys) i xs ≡ sets (sets l i xs) j ys
sets_before [] ys l i j h = refl
sets_before (x ∷ xs) ys l i j h =
    ap (λ (m : List ℕ). sets m (suc i) xs) (set_before ys l i j x (omega arith)) ∙ sets_before xs ys (set l i x) (suc i) j (omega arith)

-- of all bytes at the place at of old these are left to write, from the place i of new on
pub record Parts (all : List ℕ) (at : ℕ) (old left : List ℕ) (i : ℕ) (new : List ℕ) : Type 0 where
  pub to_set : sets new i left ≡ sets old at all
  pub reached : i + length left ≡ at + length all
  pub long : length new ≡ length old

pub parts_start : (all : List ℕ) (at : ℕ) (old : List ℕ) → Parts all at old all at old
parts_start all at old = record { to_set = refl; reached = refl; long = refl }

module _ {all : List ℕ} {at : ℕ} {old left : List ℕ} {i : ℕ} {new : List ℕ} (p : Parts all at old left i new) where
  -- a byte more is written
  pub parts_byte : {x : ℕ} {ys : List ℕ} → left ≡ x ∷ ys → Parts all at old ys (i + 1) (set new i x)
  parts_byte {x} {ys} h =
      record {
        to_set = rw add-one (rw h at p.to_set);
        reached = omega (arith, p.reached, ap length h);
        long = length-set new i x ∙ p.long;
      }

  -- a part more is written
  pub parts_put : {xs ys : List ℕ} {j : ℕ} {new' : List ℕ} → left ≡ xs ++ ys → Put xs i j new new' → Parts all at old ys j new'
  parts_put {xs} {ys} {j} {new'} h q =
      record {
        to_set = rw (q.wrote, q.behind) (rw (h, sets_append xs ys new i) at p.to_set);
        reached = omega (arith, p.reached, q.behind, ap length h, length-append xs ys);
        long = ap length q.wrote ∙ length-sets new i xs ∙ p.long;
      }

  -- the last part is written
  pub parts_last : {j : ℕ} {new' : List ℕ} → Put left i j new new' → Put all at j old new'
  parts_last q = record { behind = q.behind ∙ p.reached; wrote = q.wrote ∙ p.to_set }

  pub parts_done : left ≡ [] → Put all at i old new
  parts_done h =
      record { behind = omega (arith, p.reached, ap length h); wrote = rw h at p.to_set }

  -- what is left is written part by part itself
  pub parts_then : {rest : List ℕ} {j : ℕ} {new' : List ℕ} → Parts left i new rest j new' → Parts all at old rest j new'
  parts_then q =
      record { to_set = q.to_set ∙ p.to_set; reached = q.reached ∙ p.reached; long = q.long ∙ p.long }

  -- what is left has room where all has
  pub parts_room : at + length all ≤ length old → i + length left ≤ length new
  parts_room r = omega (arith, p.reached, p.long)

  -- and so has its first byte
  pub parts_inside : 1 ≤ length left → at + length all ≤ length old → i < length new
  parts_inside n r = omega (arith, parts_room r)

-- what was written is as long as it was
pub put_long : {xs : List ℕ} {at n : ℕ} {old new : List ℕ} → Put xs at n old new → length new ≡ length old
put_long {xs} {at} {n} {old} p = ap length p.wrote ∙ length-sets old at xs
