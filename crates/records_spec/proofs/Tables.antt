-- Records and the two tables that hold them: the one gives the other back, and records are written into tables one after another.
-- Assumes nothing.
use mathlib.Core.Path.{◌≡◌, refl, sym, ap, ◌∙◌}
use mathlib.Core.List.{List, [], ◌∷◌, ◌++◌, append-nil}
use Prim.Native.Nat.{ℕ, zero, suc, ◌+◌, ◌-◌, ◌≤◌, ◌<◌}
use native.Mathlib.Nat.{zero-add}
use native.Mathlib.Numerals.{add-one}
use native.Mathlib.Omega.{arith}
use lib.ListN.{length, take, drop, get_or, set, length-append, length-drop, drop_of_length-le}
use lib.Seq.{length-take-le, take_at, drop-cons, get_or-take, take-add, sets, sets-eq}
use Rattle.fields_spec.specs.Writing.{Put}
use Rattle.fields_spec.proofs.Parts.{Parts, parts_start, parts_byte, parts_put, parts_then, parts_done, put_long}
use Rattle.records_spec.specs.Tables.{At, ◌⦂◌, records_of, epochs_of, counts_of, over}
use Rattle.records_spec.specs.Inner.Tables.{Placed}
use Rattle.records_spec.specs.Inner.Runs.{RoomFrom}

-- ---- records, and their epochs and counts

pub length_records_of : (es cs : List ℕ) → length es ≡ length cs → length (records_of es cs) ≡ length es
unfolding records_of
length_records_of [] cs h = refl
length_records_of (e ∷ es) [] h = absurd (omega arith)
length_records_of (e ∷ es) (c ∷ cs) h = ap suc (length_records_of es cs (omega arith))

-- a column has what each element gives
module _ {A B : Type 0} (column : List A → List B) (give : A → B) (none : column [] ≡ [])
    (each : (x : A) (xs : List A) → column (x ∷ xs) ≡ give x ∷ column xs) where
  pub length_column : (xs : List A) → length (column xs) ≡ length xs
  length_column [] = ap (length {A = B}) none
  length_column (x ∷ xs) = ap (length {A = B}) (each x xs) ∙ ap suc (length_column xs)

  pub column_append : (xs ys : List A) → column (xs ++ ys) ≡ column xs ++ column ys
  column_append [] ys = rw none
  column_append (x ∷ xs) ys = rw (each x xs) (each x (xs ++ ys) ∙ ap (λ (l : List B). give x ∷ l) (column_append xs ys))

pub length_epochs_of : (rs : List At) → length (epochs_of rs) ≡ length rs
unfolding epochs_of
length_epochs_of = length_column epochs_of (λ (r : At). r.epoch) refl (λ r rs. refl)

pub length_counts_of : (rs : List At) → length (counts_of rs) ≡ length rs
unfolding counts_of
length_counts_of = length_column counts_of (λ (r : At). r.bytes) refl (λ r rs. refl)

pub epochs_records : (es cs : List ℕ) → length es ≡ length cs → epochs_of (records_of es cs) ≡ es
unfolding records_of epochs_of
epochs_records [] cs h = refl
epochs_records (e ∷ es) [] h = absurd (omega arith)
epochs_records (e ∷ es) (c ∷ cs) h = rw (epochs_records es cs (omega arith))

pub counts_records : (es cs : List ℕ) → length es ≡ length cs → counts_of (records_of es cs) ≡ cs
unfolding records_of counts_of
counts_records [] [] h = refl
counts_records [] (c ∷ cs) h = absurd (omega arith)
counts_records (e ∷ es) [] h = absurd (omega arith)
counts_records (e ∷ es) (c ∷ cs) h = rw (counts_records es cs (omega arith))

pub records_back : (rs : List At) → records_of (epochs_of rs) (counts_of rs) ≡ rs
unfolding records_of epochs_of counts_of
records_back [] = refl
records_back (r ∷ rs) = rw (records_back rs)

pub epochs_none : epochs_of [] ≡ []
unfolding epochs_of
epochs_none = refl

pub epochs_cons : (r : At) (rs : List At) → epochs_of (r ∷ rs) ≡ r.epoch ∷ epochs_of rs
unfolding epochs_of
epochs_cons r rs = refl

pub epochs_append : (rs ss : List At) → epochs_of (rs ++ ss) ≡ epochs_of rs ++ epochs_of ss
unfolding epochs_of
epochs_append = column_append epochs_of (λ (r : At). r.epoch) refl (λ r rs. refl)

pub counts_append : (rs ss : List At) → counts_of (rs ++ ss) ≡ counts_of rs ++ counts_of ss
unfolding counts_of
counts_append = column_append counts_of (λ (r : At). r.bytes) refl (λ r rs. refl)

-- ---- from a place on

no_counts : (es : List ℕ) → records_of es [] ≡ []
unfolding records_of
no_counts [] = refl
no_counts (e ∷ es) = refl

pub drop_records : (k : ℕ) (es cs : List ℕ) → drop k (records_of es cs) ≡ records_of (drop k es) (drop k cs)
unfolding records_of
drop_records zero es cs = refl
drop_records (suc k) [] cs = refl
drop_records (suc k) (e ∷ es) [] = sym (no_counts (drop k es))
drop_records (suc k) (e ∷ es) (c ∷ cs) = drop_records k es cs

pub records_on : (es cs : List ℕ) (k : ℕ) → k < length es → k < length cs
    → records_of (drop k es) (drop k cs) ≡ get_or es k 0 ⦂ get_or cs k 0 ∷ records_of (drop (k + 1) es) (drop (k + 1) cs)
unfolding records_of
records_on es cs k p q = rw (add-one, drop-cons es k 0, drop-cons cs k 0)

-- ---- the first n

pub take_records : (n : ℕ) (es cs : List ℕ) → take n (records_of es cs) ≡ records_of (take n es) (take n cs)
unfolding records_of
take_records zero es cs = refl
take_records (suc n) [] cs = refl
take_records (suc n) (e ∷ es) [] = refl
take_records (suc n) (e ∷ es) (c ∷ cs) = rw (take_records n es cs)

pub first_long : (es cs : List ℕ) (n : ℕ) → n ≤ length es → n ≤ length cs → length (take n (records_of es cs)) ≡ n
first_long es cs n he hc =
    ap (length {A = At}) (take_records n es cs)
    ∙ length_records_of (take n es) (take n cs) (length-take-le n es he ∙ sym (length-take-le n cs hc))
    ∙ length-take-le n es he

module _ (es cs : List ℕ) (n i : ℕ) (he : n ≤ length es) (hc : n ≤ length cs) where
  pub first_on : i < n → drop i (take n (records_of es cs)) ≡ get_or es i 0 ⦂ get_or cs i 0 ∷ drop (i + 1) (take n (records_of es cs))
  first_on p =
      let a : i < length (take n es) = rw (length-take-le n es he) p in
      let b : i < length (take n cs) = rw (length-take-le n cs hc) p in
      simp (take_records, drop_records) (records_on (take n es) (take n cs) i a b ∙ rw (get_or-take n es i 0 p, get_or-take n cs i 0 p))

  pub first_end : n ≤ i → drop i (take n (records_of es cs)) ≡ []
  unfolding records_of
  first_end p = simp (take_records, drop_records) (rw (drop_of_length-le (take n es) {i = i} (omega (arith, length-take-le n es he))))

-- the first j: the record at the last of their places comes behind the others
pub first_last : (es cs : List ℕ) (j : ℕ) → 0 < j → j ≤ length es → j ≤ length cs
    → take j (records_of es cs) ≡ take (j - 1) (records_of es cs) ++ (get_or es (j - 1) 0 ⦂ get_or cs (j - 1) 0 ∷ [])
first_last es cs j p he hc =
    let z : (j - 1) + 1 ≡ j = omega arith in
    let e = take-add (j - 1) 1 (records_of es cs) in
    let d = drop_records (j - 1) es cs ∙ records_on es cs (j - 1) (omega arith) (omega arith) in
    rw z at (e ∙ ap (λ (l : List At). take (j - 1) (records_of es cs) ++ take 1 l) d)

-- ---- written one after another

-- what stands at the start is read from there, and there are no fewer places than it has, nor than there were
pub over_first : (xs old : List ℕ) (n : ℕ) → length xs ≡ n → take n (over xs old) ≡ xs
over_first xs old n e = take_at xs (drop (length xs) old) n e

pub over-holds {ℓ} : {A : Type ℓ} (xs old : List A) → length xs ≤ length (over xs old)
over-holds xs old = let a = length-append xs (drop (length xs) old) in omega arith

pub over-long {ℓ} : {A : Type ℓ} (xs old : List A) → length old ≤ length (over xs old)
over-long xs old = let a = length-append xs (drop (length xs) old) in let b = length-drop (length xs) old in omega arith

pub over_sets : (xs old : List ℕ) → length xs ≤ length old → sets old 0 xs ≡ over xs old
over_sets xs old h = sets-eq xs old 0 (omega arith) ∙ rw (zero-add (length xs))

-- the place k is reached, and what is left to write there makes of both tables what all makes of the tables lent
pub record Filling (all left : List At) (at k : ℕ) (es₀ cs₀ es cs : List ℕ) : Type 0 where
  pub epochs : Parts (epochs_of all) at es₀ (epochs_of left) k es
  pub counts : Parts (counts_of all) at cs₀ (counts_of left) k cs

pub filling_start : (all : List At) (at : ℕ) (es cs : List ℕ) → Filling all all at at es cs es cs
filling_start all at es cs = record { epochs = parts_start (epochs_of all) at es; counts = parts_start (counts_of all) at cs }

module _ {all left : List At} {at k : ℕ} {es₀ cs₀ es cs : List ℕ} (f : Filling all left at k es₀ cs₀ es cs) where
  pub filling_reached : k + length left ≡ at + length all
  filling_reached = omega (arith, f.epochs.reached, length_epochs_of left, length_epochs_of all)

  -- one record more is written
  pub filling_step : {rest : List At} {e c : ℕ} → left ≡ e ⦂ c ∷ rest → Filling all rest at (k + 1) es₀ cs₀ (set es k e) (set cs k c)
  unfolding epochs_of counts_of
  filling_step h = record { epochs = parts_byte f.epochs (ap epochs_of h); counts = parts_byte f.counts (ap counts_of h) }

  -- the record has room where all have
  pub filling_room : {rest : List At} {e c : ℕ} → left ≡ e ⦂ c ∷ rest → at + length all ≤ length es₀ → at + length all ≤ length cs₀
      → (k < length es) × (k < length cs)
  filling_room h p q =
      let l = ap (length {A = At}) h in
      (omega (arith, filling_reached, f.epochs.long), omega (arith, filling_reached, f.counts.long))

  pub filling_done : left ≡ [] → Placed all at k es₀ cs₀ es cs
  unfolding epochs_of counts_of
  filling_done h =
      record {
        behind = omega (arith, filling_reached, ap (length {A = At}) h);
        epochs_set = (parts_done f.epochs (ap epochs_of h)).wrote;
        counts_set = (parts_done f.counts (ap counts_of h)).wrote;
      }

-- ---- one run of records after another

module _ {rs : List At} {at next : ℕ} {es cs es' cs' : List ℕ} (p : Placed rs at next es cs es' cs') where
  epochs_put : Put (epochs_of rs) at next es es'
  epochs_put = record { behind = p.behind ∙ rw (length_epochs_of rs); wrote = p.epochs_set }

  counts_put : Put (counts_of rs) at next cs cs'
  counts_put = record { behind = p.behind ∙ rw (length_counts_of rs); wrote = p.counts_set }

  pub placed_long : (length es' ≡ length es) × (length cs' ≡ length cs)
  placed_long = (put_long epochs_put, put_long counts_put)

module _ {all left : List At} {at k : ℕ} {es₀ cs₀ es cs : List ℕ} (f : Filling all left at k es₀ cs₀ es cs) where
  -- a run more is written
  pub filling_run : {rs rest : List At} {n : ℕ} {es' cs' : List ℕ} → left ≡ rs ++ rest → Placed rs k n es cs es' cs'
      → Filling all rest at n es₀ cs₀ es' cs'
  filling_run {rs} {rest} h p =
      record {
        epochs = parts_put f.epochs (ap epochs_of h ∙ epochs_append rs rest) (epochs_put p);
        counts = parts_put f.counts (ap counts_of h ∙ counts_append rs rest) (counts_put p);
      }

  -- what is left is written one after another itself
  pub filling_then : {rest : List At} {n : ℕ} {es' cs' : List ℕ} → Filling left rest k n es cs es' cs' → Filling all rest at n es₀ cs₀ es' cs'
  filling_then g = record { epochs = parts_then f.epochs g.epochs; counts = parts_then f.counts g.counts }

  -- a run that is left has room where all have
  pub filling_fits : (rs rest : List At) → left ≡ rs ++ rest → RoomFrom all at es₀ cs₀ → RoomFrom rs k es cs
  filling_fits rs rest h r =
      let l : length left ≡ length rs + length rest = ap (length {A = At}) h ∙ length-append rs rest in
      record {
        in_epochs = omega (arith, r.in_epochs, filling_reached f, f.epochs.long);
        in_counts = omega (arith, r.in_counts, filling_reached f, f.counts.long);
      }

pub placed_one : (e c k : ℕ) (es cs : List ℕ) → Placed (e ⦂ c ∷ []) k (k + 1) es cs (set es k e) (set cs k c)
unfolding epochs_of counts_of
placed_one e c k es cs = record { behind = refl; epochs_set = refl; counts_set = refl }

pub placed_then : {rs ss : List At} {at k n : ℕ} {es cs es' cs' es'' cs'' : List ℕ} → Placed rs at k es cs es' cs' → Placed ss k n es' cs' es'' cs''
    → Placed (rs ++ ss) at n es cs es'' cs''
placed_then {rs} {ss} {at} {k} {n} {es} {cs} p q =
    filling_done (filling_run (filling_run (filling_start (rs ++ ss) at es cs) refl p) (sym (append-nil ss)) q) refl
