-- What each epoch gives, of ascending records above the base: a record at most what it holds above 3, so it keeps the smaller of its count
-- and 3, and only when all later ones are down to that; the base the rest; no other epoch anything.
-- Assumes nothing.
use mathlib.Core.Path.{◌≡◌, refl, sym, ap, ◌∙◌}
use mathlib.Core.Bool.{true, false}
use mathlib.Core.List.{List, [], ◌∷◌, ◌++◌, append_assoc}
use Prim.Native.Nat.{ℕ, zero, suc, ◌+◌, ◌-◌, ◌≤◌, ◌<◌, min}
use native.Mathlib.Omega.{arith}
use lib.Dec.{eqb, ltb}
use borrow.Author.Tests.{eq-eqb, ne_eqb, lt-ltb}
use Rattle.records_spec.specs.Tables.{At, ◌⦂◌, epochs_of, ascending, has, held}
use Rattle.records_spec.proofs.Rising.{asc_head, asc_tail}
use Rattle.records_spec.proofs.Held.{Passes, has_passes, held_passes, has_above, held_above}
use Rattle.records_spec.proofs.Alike.{apart}
use Rattle.splitting_spec.specs.Sections.{minimum, above, spare, asked, section, sections, split}
use Rattle.splitting_spec.proofs.Sections.{spare_append}
use Rattle.splitting_spec.proofs.Ascending.{sections_ascend}

-- ---- one section before others

has_here : (e n most : ℕ) (ss : List At) → ascending e (epochs_of ss) ≡ true → has e (section e n most ++ ss) ≡ ltb 0 n
unfolding section has
has_here e zero most ss h = has_above e e ss (omega arith) h
has_here e (suc n) most ss h = rw (eq-eqb e e refl) (sym (lt-ltb 0 (suc n) (omega arith)))

held_here : (e n most : ℕ) (ss : List At) → ascending e (epochs_of ss) ≡ true → held e (section e n most ++ ss) ≡ min n most
unfolding section held
held_here e zero most ss h = held_above e e ss (omega arith) h ∙ omega arith
held_here e (suc n) most ss h = rw (eq-eqb e e refl)

-- a section at another epoch is passed
beside : {A : Type 0} (d : ℕ) (read : List At → A) → Passes d read → (e : ℕ) → (d ≡ e → ⊥) → (n most : ℕ) (ss : List At)
    → read (section e n most ++ ss) ≡ read ss
unfolding section
beside d read passes e p zero most ss = refl
beside d read passes e p (suc n) most ss = passes (e ⦂ min (suc n) most) ss p

-- ---- a record, the earlier ones and the later ones

pub later : (b : ℕ) (xs : List At) (r : At) (ys : List At) → ascending b (epochs_of (xs ++ (r ∷ ys))) ≡ true → b < r.epoch
unfolding epochs_of
later b [] r ys h = asc_head b r.epoch (epochs_of ys) h
later b (x ∷ xs) r ys h =
    let p = asc_head b x.epoch (epochs_of (xs ++ (r ∷ ys))) h in
    let q = later x.epoch xs r ys (asc_tail b x.epoch (epochs_of (xs ++ (r ∷ ys))) h) in
    omega arith

module _ (r : At) (ys : List At) (n : ℕ) where
  behind : (b : ℕ) (xs : List At) → ascending b (epochs_of (xs ++ (r ∷ ys))) ≡ true → ascending r.epoch (epochs_of (sections ys n)) ≡ true
  unfolding epochs_of
  behind b [] h = sections_ascend r.epoch ys n (asc_tail b r.epoch (epochs_of ys) h)
  behind b (x ∷ xs) h = behind x.epoch xs (asc_tail b x.epoch (epochs_of (xs ++ (r ∷ ys))) h)

  -- what is read at its epoch is read from its own section on
  module _ {A : Type 0} (read : List At → A) (passes : Passes r.epoch read) where
    sections_at : (b : ℕ) (xs : List At) → ascending b (epochs_of (xs ++ (r ∷ ys))) ≡ true
        → read (sections (xs ++ (r ∷ ys)) n) ≡ read (section r.epoch (asked n ys) (above r) ++ sections ys n)
    unfolding sections epochs_of
    sections_at b [] h = refl
    sections_at b (x ∷ xs) h =
        let t = asc_tail b x.epoch (epochs_of (xs ++ (r ∷ ys))) h in
        let q = later x.epoch xs r ys t in
        beside r.epoch read passes x.epoch (λ e. omega arith) (asked n (xs ++ (r ∷ ys))) (above x) (sections (xs ++ (r ∷ ys)) n)
        ∙ sections_at x.epoch xs t

    split_at : (base : ℕ) (xs : List At) → ascending base (epochs_of (xs ++ (r ∷ ys))) ≡ true
        → read (split base (xs ++ (r ∷ ys)) n) ≡ read (section r.epoch (asked n ys) (above r) ++ sections ys n)
    unfolding split
    split_at base xs h =
        let q = later base xs r ys h in
        beside r.epoch read passes base (λ e. omega arith) (asked n (xs ++ (r ∷ ys))) (asked n (xs ++ (r ∷ ys))) (sections (xs ++ (r ∷ ys)) n)
        ∙ sections_at base xs h

  module _ (base : ℕ) (xs : List At) (h : ascending base (epochs_of (xs ++ (r ∷ ys))) ≡ true) where
    -- a section stands at a record's epoch exactly if the later ones gave less than asked (`gave_less` of Sums)
    pub record_has : has r.epoch (split base (xs ++ (r ∷ ys)) n) ≡ ltb 0 (asked n ys)
    record_has =
        split_at (has r.epoch) (has_passes r.epoch) base xs h ∙ has_here r.epoch (asked n ys) (above r) (sections ys n) (behind base xs h)

    pub record_gives : held r.epoch (split base (xs ++ (r ∷ ys)) n) ≡ min (asked n ys) (above r)
    record_gives =
        split_at (held r.epoch) (held_passes r.epoch) base xs h ∙ held_here r.epoch (asked n ys) (above r) (sections ys n) (behind base xs h)

    -- it keeps at least the smaller of its count and 3
    pub record_keeps : held r.epoch (split base (xs ++ (r ∷ ys)) n) + min r.bytes minimum ≤ r.bytes
    record_keeps = omega (arith, record_gives)

-- what is given is asked for
some_asked : (g n s most : ℕ) → g ≡ min (n - s) most → 0 < g → s < n
some_asked g n s most e p = omega arith

-- a record that is asked for more than it can give is down to the smaller of its count and 3
all_given : (g c n s : ℕ) → g ≡ min (n - s) (c - minimum) → c - minimum + s < n → g + min c minimum ≡ c
all_given g c n s e p = omega arith

-- it gives only when all later ones are down to that
pub latest_first : (base : ℕ) (xs : List At) (r : At) (us : List At) (s : At) (vs : List At) (n : ℕ)
    → ascending base (epochs_of (xs ++ (r ∷ (us ++ (s ∷ vs))))) ≡ true → 0 < held r.epoch (split base (xs ++ (r ∷ (us ++ (s ∷ vs)))) n)
    → held s.epoch (split base (xs ++ (r ∷ (us ++ (s ∷ vs)))) n) + min s.bytes minimum ≡ s.bytes
unfolding spare
latest_first base xs r us s vs n h p =
    let g = record_gives r (us ++ (s ∷ vs)) n base xs h in
    let a = append_assoc xs (r ∷ us) (s ∷ vs) in
    let l = record_gives s vs n base (xs ++ (r ∷ us)) (ap (λ (l : List At). ascending base (epochs_of l)) a ∙ h) in
    let m = ap (λ (l : List At). held s.epoch (split base l n)) (sym a) ∙ l in
    let q = some_asked _ n (spare (us ++ (s ∷ vs))) (above r) g p in
    all_given _ s.bytes n (spare vs) m (omega (arith, q, spare_append us (s ∷ vs)))

-- ---- the base, and no other epoch

module _ (base : ℕ) (rs : List At) (n : ℕ) where
  -- a section stands at the base exactly if the records gave less than asked
  pub base_has : ascending base (epochs_of rs) ≡ true → has base (split base rs n) ≡ ltb 0 (asked n rs)
  unfolding split
  base_has h = has_here base (asked n rs) (asked n rs) (sections rs n) (sections_ascend base rs n h)

  pub base_gives : ascending base (epochs_of rs) ≡ true → held base (split base rs n) ≡ asked n rs
  unfolding split
  base_gives h = held_here base (asked n rs) (asked n rs) (sections rs n) (sections_ascend base rs n h) ∙ omega arith

has_none : (e : ℕ) (rs : List At) (n : ℕ) → has e rs ≡ false → has e (sections rs n) ≡ false
unfolding sections has
has_none e [] n h = refl
has_none e (r ∷ rs) n h =
    let p = apart e r rs h in
    beside e (has e) (has_passes e) r.epoch p.0 (asked n rs) (above r) (sections rs n) ∙ has_none e rs n p.1

-- a section stands nowhere else
pub nowhere_else : (e base : ℕ) (rs : List At) (n : ℕ) → (e ≡ base → ⊥) → has e rs ≡ false → has e (split base rs n) ≡ false
unfolding split
nowhere_else e base rs n p h = beside e (has e) (has_passes e) base p (asked n rs) (asked n rs) (sections rs n) ∙ has_none e rs n h

-- ---- the sections at the records

-- each stands at a record's epoch and takes at most what the record holds
abbrev pub Within : List At → List At → Type 0
Within rs [] = Unit {0}
Within rs (s ∷ ss) = (has s.epoch rs ≡ true) × (s.bytes ≤ held s.epoch rs) × Within rs ss

-- sections after a record's epoch, within the records behind it
within_behind : (r : At) (rs : List At) (b : ℕ) (ss : List At) → r.epoch ≤ b → ascending b (epochs_of ss) ≡ true → Within rs ss → Within (r ∷ rs) ss
unfolding has held epochs_of
within_behind r rs b [] p h w = tt
within_behind r rs b (s ∷ ss) p h w =
    let q = asc_head b s.epoch (epochs_of ss) h in
    let d : eqb s.epoch r.epoch ≡ false = ne_eqb s.epoch r.epoch (λ e. omega arith) in
    (rw d w.0, rw d w.1, within_behind r rs s.epoch ss (omega arith) (asc_tail b s.epoch (epochs_of ss) h) w.2)

-- a record's own section before them
within_section : (r : At) (rs : List At) (n : ℕ) (ss : List At) → Within (r ∷ rs) ss → Within (r ∷ rs) (section r.epoch n (above r) ++ ss)
unfolding section has held
within_section r rs zero ss w = w
within_section r rs (suc n) ss w =
    let d = eq-eqb r.epoch r.epoch refl in
    (rw d refl, rw d (omega arith), w)

pub sections_within : (b : ℕ) (rs : List At) (n : ℕ) → ascending b (epochs_of rs) ≡ true → Within rs (sections rs n)
unfolding sections epochs_of
sections_within b [] n h = tt
sections_within b (r ∷ rs) n h =
    let t = asc_tail b r.epoch (epochs_of rs) h in
    within_section r rs (asked n rs) (sections rs n)
    (within_behind r rs r.epoch (sections rs n) (omega arith) (sections_ascend r.epoch rs n t) (sections_within r.epoch rs n t))
