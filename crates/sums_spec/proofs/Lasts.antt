-- The last row of a join over tables, from the tests that find it, and what the loops over a join keep.
-- Assumes nothing.
use mathlib.Core.Path.{◌≡◌, sym, ap, ◌∙◌, subst}
use mathlib.Core.List.{List, [], ◌∷◌, ◌++◌}
use Prim.Native.Nat.{ℕ, ◌+◌, ◌-◌, ◌≤◌, ◌<◌}
use native.Mathlib.Omega.{arith}
use lib.ListN.{length, get_or}
use Rattle.rows_spec.specs.Rows.{Row, row, compared, ascends, Tables, rows_in, row_at, over_rows, set_row, Room}
use Rattle.rows_spec.specs.Inner.Rows.{Proper}
use Rattle.std.specs.declared.cmp.Ordering.TheVariants.{Less, Equal, Greater}
use Rattle.rows_spec.proofs.Comparing.{flipped}
use Rattle.rows_spec.proofs.Rows.{length_rows, rows_last, room_less, proper_first}
use Rattle.rows_spec.proofs.Backing.{Backing, backing_start, backing_fits, backing_first, backing_room, backing_step, backing_stays}
use Rattle.sums_spec.specs.Joins.{capped, joined}
use Rattle.sums_spec.specs.Inner.Sums.{Last}
use Rattle.sums_spec.specs.declared.join.LastRow.{LastRow}
use Rattle.sums_spec.proofs.Joining.{AllBefore, all_before, all_later, all_and_last, joined_none, more_left, last_left, last_right, last_both}

-- the rows before the last are before it
before_last : {n : ℕ} {t : Tables} → Proper n t → 0 < n → AllBefore (row_at t (n - 1)) (rows_in (n - 1) t)
before_last {n} {t} p h =
    all_before (rows_in (n - 1) t) (row_at t (n - 1)) (ap ascends (sym (rows_last p.room h)) ∙ p.rises)

-- ---- one step

-- a row, with the numbers of rows before it
abbrev before : Tables → ℕ → ℕ → ℕ → ℕ → LastRow
before t at bytes i j = record { id = get_or t.ids at []; epoch = get_or t.epochs at 0; bytes = bytes; i = i; j = j }

module _ {t u : Tables} {i j : ℕ} (ours : Proper i t) (theirs : Proper j u) (q : 0 < j) where
  theirs_last : rows_in j u ≡ rows_in (j - 1) u ++ (row_at u (j - 1) ∷ [])
  theirs_last = rows_last theirs.room q

  -- theirs is behind all of ours
  their_step : AllBefore (row_at u (j - 1)) (rows_in i t) → Last t u i j (before u (j - 1) (get_or u.bytes (j - 1) 0) i (j - 1))
  their_step h =
      record {
        step = ap (joined (rows_in i t)) theirs_last ∙ last_right (rows_in i t) (rows_in (j - 1) u) (row_at u (j - 1)) h (before_last theirs q);
        ours_before = omega arith;
        theirs_before = omega arith;
        falls = omega arith;
      }

  -- ours has no row
  pub step_none : i ≡ 0 → Last t u i j (before u (j - 1) (get_or u.bytes (j - 1) 0) i (j - 1))
  step_none e = their_step (subst (λ (k : ℕ). AllBefore (row_at u (j - 1)) (rows_in k t)) (sym e) tt)

  module _ (p : 0 < i) where
    ours_last : rows_in i t ≡ rows_in (i - 1) t ++ (row_at t (i - 1) ∷ [])
    ours_last = rows_last ours.room p

    -- their last row is behind ours
    pub step_theirs : compared (row_at t (i - 1)) (row_at u (j - 1)) ≡ Less → Last t u i j (before u (j - 1) (get_or u.bytes (j - 1) 0) i (j - 1))
    step_theirs e =
        let a = row_at t (i - 1) in
        let b = row_at u (j - 1) in
        their_step (subst (AllBefore b) (sym ours_last)
        (all_and_last a b (rows_in (i - 1) t) e (all_later a b (rows_in (i - 1) t) e (before_last ours p))))

    -- both have one pair
    pub step_both : (bytes : ℕ) → bytes ≡ capped (get_or t.bytes (i - 1) 0) (get_or u.bytes (j - 1) 0)
        → compared (row_at t (i - 1)) (row_at u (j - 1)) ≡ Equal
        → Last t u i j (before t (i - 1) bytes (i - 1) (j - 1))
    step_both bytes b e =
        record {
          step = ap (λ (l : List Row). joined l (rows_in j u)) ours_last ∙ ap (joined (rows_in (i - 1) t ++ (row_at t (i - 1) ∷ []))) theirs_last
              ∙ last_both (rows_in (i - 1) t) (rows_in (j - 1) u) (row_at t (i - 1)) (row_at u (j - 1)) e (before_last ours p) (before_last theirs q)
              ∙ ap (λ (x : ℕ). joined (rows_in (i - 1) t) (rows_in (j - 1) u) ++ (row (get_or t.ids (i - 1) []) (get_or t.epochs (i - 1) 0) x ∷ []))
              (sym b);
          ours_before = omega arith;
          theirs_before = omega arith;
          falls = omega arith;
        }

    -- our last row is behind theirs
    pub step_ours : compared (row_at t (i - 1)) (row_at u (j - 1)) ≡ Greater → Last t u i j (before t (i - 1) (get_or t.bytes (i - 1) 0) (i - 1) j)
    step_ours e =
        let a = row_at t (i - 1) in
        let b = row_at u (j - 1) in
        let f : compared b a ≡ Less = flipped a b Greater e in
        record {
          step = ap (λ (l : List Row). joined l (rows_in j u)) ours_last
              ∙ last_left (rows_in (i - 1) t) (rows_in j u) a (before_last ours p)
              (subst (AllBefore a) (sym theirs_last) (all_and_last b a (rows_in (j - 1) u) f
              (all_later b a (rows_in (j - 1) u) f (before_last theirs q))));
          ours_before = omega arith;
          theirs_before = omega arith;
          falls = omega arith;
        }

-- where theirs has no rows left, ours are the join
step_end : {t : Tables} {i : ℕ} (u : Tables) (j : ℕ) → Proper i t → j ≤ 0 → joined (rows_in i t) (rows_in j u) ≡ rows_in i t
step_end {t} {i} u j ours e =
    let z : j ≡ 0 = omega arith in
    ap (λ (k : ℕ). joined (rows_in i t) (rows_in k u)) z ∙ joined_none (rows_in i t) ours.rises

-- ---- counting

-- i and j rows are left, and `count` were counted
pub record Counting (t u : Tables) (n m i j count : ℕ) : Type 0 where
  pub ours_left : i ≤ n
  pub theirs_left : j ≤ m
  pub small : count + (i + j) ≤ n + m
  pub counted : count + length (joined (rows_in i t) (rows_in j u)) ≡ length (joined (rows_in n t) (rows_in m u))

module _ {t u : Tables} {n m i j count : ℕ} (c : Counting t u n m i j count) where
  pub counting_done : Proper n t → j ≤ 0 → count + i ≡ length (joined (rows_in n t) (rows_in m u))
  counting_done p e =
      let q = proper_first i c.ours_left p in
      let l = ap (length {A = Row}) (step_end u j q e) ∙ length_rows q.room in
      omega (arith, c.counted)

-- ---- joining in place

-- i and j rows are left, and take the first k places; from there on the tables are as they end
pub record Walking (t₀ t u : Tables) (n m i j k : ℕ) : Type 0 where
  pub ours_left : i ≤ n
  pub theirs_left : j ≤ m
  pub back : Backing (joined (rows_in n t₀) (rows_in m u)) (joined (rows_in i t₀) (rows_in j u)) k t₀ t

pub walking_start : (t u : Tables) (n m count : ℕ) → count ≡ length (joined (rows_in n t) (rows_in m u)) → Room count t → Walking t t u n m n m count
walking_start t u n m count e r =
    let all = joined (rows_in n t) (rows_in m u) in
    record {
      ours_left = omega arith;
      theirs_left = omega arith;
      back = subst (λ (k : ℕ). Backing all all k t t) (sym e) (backing_start all t (subst (λ (k : ℕ). Room k t) e r));
    }

module _ {t₀ t u : Tables} {n m i j k : ℕ} (ours : Proper n t₀) (theirs : Proper m u) (w : Walking t₀ t u n m i j k) where
  -- no row that is left is overwritten
  left_within : i ≤ k
  left_within =
      let p = proper_first i w.ours_left ours in
      let q = proper_first j w.theirs_left theirs in
      let l = more_left (rows_in i t₀) (rows_in j u) p.rises q.rises in
      omega (arith, length_rows p.room, w.back.reached)

  pub walking_ours : Proper i t
  walking_ours =
      let l = left_within in
      record {
        room = room_less i l (backing_fits w.back);
        rises = ap ascends (backing_first w.back i l) ∙ (proper_first i w.ours_left ours).rises;
      }

  pub walking_theirs : Proper j u
  walking_theirs = proper_first j w.theirs_left theirs

  module _ {r : LastRow} (s : Last t u i j r) where
    -- what the last row is of the tables as they are, it is of the tables as they were
    same_step : joined (rows_in i t₀) (rows_in j u) ≡ joined (rows_in r.i t₀) (rows_in r.j u) ++ (row r.id r.epoch r.bytes ∷ [])
    same_step =
        let l = left_within in
        ap (λ (x : List Row). joined x (rows_in j u)) (sym (backing_first w.back i l)) ∙ s.step
        ∙ ap (λ (x : List Row). joined x (rows_in r.j u) ++ (row r.id r.epoch r.bytes ∷ []))
        (backing_first w.back r.i (omega (arith, s.ours_before)))

    pub walking_room : (0 < k) × Room (k - 1 + 1) t
    walking_room = backing_room w.back (joined (rows_in r.i t₀) (rows_in r.j u)) (row r.id r.epoch r.bytes) same_step

    pub walking_step : {t' : Tables} → t' ≡ set_row t (k - 1) (row r.id r.epoch r.bytes) → Walking t₀ t' u n m r.i r.j (k - 1)
    walking_step e =
        record {
          ours_left = omega (arith, s.ours_before, w.ours_left);
          theirs_left = omega (arith, s.theirs_before, w.theirs_left);
          back = backing_step w.back (joined (rows_in r.i t₀) (rows_in r.j u)) (row r.id r.epoch r.bytes) same_step e;
        }

  pub walking_done : j ≤ 0 → t ≡ over_rows (joined (rows_in n t₀) (rows_in m u)) t₀
  walking_done e =
      let p = proper_first i w.ours_left ours in
      let l : joined (rows_in i t₀) (rows_in j u) ≡ rows_in i t₀ = step_end u j p e in
      let k-is : i ≡ k = sym (w.back.reached ∙ ap (length {A = Row}) l ∙ length_rows p.room) in
      backing_stays w.back (l ∙ ap (λ (x : ℕ). rows_in x t₀) k-is)
