-- A table whose latest record stands at e: an addition there replaces its count alone, and a removal takes back first what was added.
-- Assumes nothing.
use mathlib.Core.Path.{◌≡◌, refl, sym, ap, ◌∙◌}
use mathlib.Core.Bool.{true}
use mathlib.Core.List.{List, [], ◌∷◌, ◌++◌, append-nil, append_assoc}
use Prim.Native.Nat.{ℕ, ◌+◌, ◌-◌, ◌≤◌, ◌<◌, min}
use native.Mathlib.Omega.{arith}
use lib.ListN.{length, length-append}
use borrow.Author.Tests.{eq-eqb}
use Rattle.records_spec.specs.Tables.{At, ◌⦂◌, epochs_of, ascending, held, put}
use Rattle.records_spec.proofs.Tables.{epochs_append}
use Rattle.records_spec.proofs.Rising.{asc_tail}
use Rattle.records_spec.proofs.Unions.{put_at, put_past}
use Rattle.records_spec.proofs.Held.{held_put}
use Rattle.splitting_spec.specs.Sections.{minimum, above, section, split}
use Rattle.splitting_spec.proofs.Sections.{split_none, asked_all, asked_last, split_last}
use Rattle.splitting_spec.proofs.Given.{later}
use Rattle.removal_spec.specs.Removing.{remainder}
use Rattle.steps.proofs.Remaining.{remaining, remaining_none, stays, remains, remaining_each, stays_left, given, given_append, part, part_sum}
use Rattle.steps.proofs.Remaining.{given_section}

-- records up to a latest one, at e
abbrev pub up_to : List At → ℕ → ℕ → List At
up_to rs e c = rs ++ (e ⦂ c ∷ [])

pub latest_above : (b e c : ℕ) (rs : List At) → ascending b (epochs_of (up_to rs e c)) ≡ true → b < e
latest_above b e c rs h = later b rs (e ⦂ c) [] h

-- its count does not matter
pub any_count : (b e c c' : ℕ) (rs : List At) → ascending b (epochs_of (up_to rs e c)) ≡ true → ascending b (epochs_of (up_to rs e c')) ≡ true
unfolding epochs_of
any_count b e c c' rs h = rw (epochs_append rs (e ⦂ c' ∷ [])) (rw (epochs_append rs (e ⦂ c ∷ [])) at h)

-- one more than the others
pub length_up : (rs : List At) (e k : ℕ) → length (up_to rs e k) ≡ length rs + 1
length_up rs e k = length-append rs (e ⦂ k ∷ [])

-- ---- an addition

pub put_latest : (b e c c' : ℕ) (rs : List At) → ascending b (epochs_of (up_to rs e c)) ≡ true → put (e ⦂ c') (up_to rs e c) ≡ up_to rs e c'
unfolding epochs_of
put_latest b e c c' [] h = put_at (e ⦂ c') (e ⦂ c) [] refl
put_latest b e c c' (r ∷ rs) h =
    let t = asc_tail b r.epoch (epochs_of (up_to rs e c)) h in
    put_past (e ⦂ c') r (up_to rs e c) (latest_above r.epoch e c rs t) ∙ rw (put_latest r.epoch e c c' rs t)

pub held_latest : (b e c : ℕ) (rs : List At) → ascending b (epochs_of (up_to rs e c)) ≡ true → held e (up_to rs e c) ≡ c
held_latest b e c rs h =
    ap (held e) (sym (put_latest b e c c rs h)) ∙ held_put e (e ⦂ c) (up_to rs e c) ∙ rw (eq-eqb e e refl)

-- ---- a removal

-- the others are asked what the latest leaves
remains_last : (rs : List At) (r : At) (n : ℕ) → remains (rs ++ (r ∷ [])) n ≡ remains rs (n - min n (above r)) ++ stays r n
unfolding remains
remains_last [] r n = rw (asked_all n) (append-nil (stays r n))
remains_last (x ∷ rs) r n = rw (asked_last rs r n, remains_last rs r n, append_assoc)

given_latest : (d base : ℕ) (rs : List At) (r : At) (n : ℕ)
    → given d (split base (rs ++ (r ∷ [])) n) ≡ given d (split base rs (n - min n (above r))) + part d r.epoch (min n (above r))
given_latest d base rs r n =
    ap (given d) (split_last rs r n base)
    ∙ given_append d (split base rs (n - min n (above r))) (section r.epoch n (above r))
    ∙ rw (given_section d r.epoch n (above r))

-- x more bytes at e, and x more taken
module _ (rs : List At) (e c x y : ℕ) (p : 4 ≤ c) where
  -- the latest gives x more
  more_given : x + min y (c - minimum) ≡ min (x + y) (c + x - minimum)
  more_given = omega arith

  -- so the others are asked the same
  same_asked : x + y - min (x + y) (c + x - minimum) ≡ y - min y (c - minimum)
  same_asked = omega arith

  -- and the same stays: with 4 bytes or more the record is not dropped where nothing more is asked of it
  same_stays : stays (e ⦂ (c + x)) (x + y) ≡ stays (e ⦂ c) y
  same_stays =
      let z : c + x - min (x + y) (c + x - minimum) ≡ c - min y (c - minimum) = omega arith in
      stays_left (e ⦂ (c + x)) (x + y) (omega arith) ∙ ap (remainder e) z ∙ sym (stays_left (e ⦂ c) y (omega arith))

  pub remaining_back : (base : ℕ) → ascending base (epochs_of (up_to rs e c)) ≡ true
      → remaining base (up_to rs e (c + x)) (x + y) ≡ remaining base (up_to rs e c) y
  remaining_back base h =
      remaining_each base (x + y) (up_to rs e (c + x)) (any_count base e c (c + x) rs h)
      ∙ remains_last rs (e ⦂ (c + x)) (x + y)
      ∙ rw (same_asked, same_stays)
      (sym (remaining_each base y (up_to rs e c) h ∙ remains_last rs (e ⦂ c) y))

  pub given_back : (d base : ℕ) → given d (split base (up_to rs e (c + x)) (x + y)) ≡ given d (e ⦂ x ∷ split base (up_to rs e c) y)
  unfolding given
  given_back d base =
      let k = ap (λ (n : ℕ). given d (split base rs n)) same_asked in
      omega (arith, k, part_sum d e _ _ _ more_given, given_latest d base rs (e ⦂ (c + x)) (x + y), given_latest d base rs (e ⦂ c) y)

-- ---- a removal of no more than was added since: it is taken back from the latest record alone

pub taken_back : (base : ℕ) (rs : List At) (e k n : ℕ) → ascending base (epochs_of (up_to rs e k)) ≡ true → 4 + n ≤ k
    → remaining base (up_to rs e k) n ≡ up_to rs e (k - n)
taken_back base rs e k n a p =
    let w : k - n + n ≡ k = omega arith in
    let z : n + 0 ≡ n = omega arith in
    rw (w, z, remaining_none) at (remaining_back rs e (k - n) n 0 (omega arith) base (any_count base e k (k - n) rs a))

pub given_once : (d base : ℕ) (rs : List At) (e k n : ℕ) → 4 + n ≤ k → given d (split base (up_to rs e k) n) ≡ given d (e ⦂ n ∷ [])
given_once d base rs e k n p =
    let w : k - n + n ≡ k = omega arith in
    let z : n + 0 ≡ n = omega arith in
    rw (w, z, split_none) at (given_back rs e (k - n) n 0 (omega arith) d base)
