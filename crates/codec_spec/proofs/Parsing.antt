-- Records one after another: the equations of `next` and `parse`, and one turn over the records at a place of the input.
-- Assumes nothing.
use Prim.Native.Nat.{ℕ, zero, suc, pred, ◌+◌, ◌-◌, ◌≤◌, ◌<◌}
use native.Mathlib.Decide.{dec_lt}
use native.Mathlib.Nat.{add-zero}
use native.Mathlib.Omega.{arith}
use mathlib.Core.Path.{◌≡◌, refl, sym, ap, ap₂, ◌∙◌}
use Rattle.std.specs.Prelude.{None, Some}
use mathlib.Core.List.{List, [], ◌∷◌}
use borrow.Author.Tests.{lt-ltb, le-ltb, le-leb, lt-leb}
use lib.ListN.{length, take, drop, length-drop, drop_of_length-le}
use lib.Seq.{drop-drop}
use Rattle.fields_spec.specs.Big.{said}
use Rattle.fields_spec.specs.Varint.{Found, incomplete, notCanonical, whole, found}
use Rattle.fields_spec.proofs.RoundTrip.{found_inv}
use Rattle.records_spec.specs.Tables.{At, ◌⦂◌}
use Rattle.records_spec.specs.declared.refusal.Refusal.{Refusal}
use Rattle.records_spec.specs.declared.refusal.Refusal.TheVariants.{WrongSize, NonCanonical}
use Rattle.codec_spec.specs.Reading.{fault_at}
use Rattle.codec_spec.specs.Reading.{Next, bad, good, with_count, next, Parsed, following, parse}

-- ---- one record

pub next_short : (prev : ℕ) (xs : List ℕ) → length xs < 2 → next prev xs ≡ bad WrongSize
unfolding next
next_short prev xs h = rw (lt-ltb (length xs) 2 h)

pub next_long : (prev : ℕ) (xs : List ℕ) → 2 ≤ length xs → next prev xs ≡ with_count prev (said (take 2 xs)) (found (drop 2 xs))
unfolding next
next_long prev xs h = rw (le-ltb (length xs) 2 h)

pub with_count_low : (prev e n used : ℕ) → e ≤ prev → with_count prev e (whole n used) ≡ bad NonCanonical
with_count_low prev e n used h = rw (le-leb e prev h)

pub with_count_above : (prev e n used : ℕ) → prev < e → with_count prev e (whole n used) ≡ good (e ⦂ n) (2 + used)
with_count_above prev e n used h = rw (lt-leb e prev h)

-- the record at a place of the input, whose epoch and varint are known
pub next_at : (d : List ℕ) (at prev e : ℕ) (f : Found) → 2 ≤ length d - at → e ≡ said (take 2 (drop at d)) → found (drop (at + 2) d) ≡ f
    → next prev (drop at d) ≡ with_count prev e f
next_at d at prev e f h ee ef =
    next_long prev (drop at d) (rw length-drop h)
    ∙ ap₂ (with_count prev) (sym ee) (ap found (drop-drop 2 at d) ∙ ef)

-- what a record that was read is
pub record Good (prev : ℕ) (xs : List ℕ) (r : At) (u : ℕ) : Type 0 where
  pub used : ℕ
  pub size : u ≡ 2 + used
  pub some_bytes : 1 ≤ used
  pub inside : u ≤ length xs
  pub epoch_is : r.epoch ≡ said (take 2 xs)
  pub count_is : found (drop 2 xs) ≡ whole r.bytes used
  pub above : prev < r.epoch

with_count_inv : (prev e : ℕ) (f : Found) (r : At) (u : ℕ) → with_count prev e f ≡ good r u
    → (used : ℕ) × (u ≡ 2 + used) × (f ≡ whole r.bytes used) × (r.epoch ≡ e) × (prev < r.epoch)
with_count_inv prev e incomplete r u q = let z : ◌≡◌ {A = ℕ} 0 1 = cc in absurd (omega arith)
with_count_inv prev e notCanonical r u q = let z : ◌≡◌ {A = ℕ} 0 1 = cc in absurd (omega arith)
with_count_inv prev e (whole n v) r u q =
    elim (dec_lt prev e) [
      | yes h ↦
          let g : good (e ⦂ n) (2 + v) ≡ good r u = sym (with_count_above prev e n v h) ∙ q in
          let re : e ⦂ n ≡ r = cc in
          let ee : e ≡ r.epoch = ap (λ (x : At). x.epoch) re in
          (v, cc, ap (λ (x : At). whole x.bytes v) re, sym ee, omega arith)
      | no h ↦
          let g : bad NonCanonical ≡ good r u = sym (with_count_low prev e n v (omega arith)) ∙ q in
          let z : ◌≡◌ {A = ℕ} 0 1 = cc in
          absurd (omega arith)
    ]

pub next_good : (prev : ℕ) (xs : List ℕ) (r : At) (u : ℕ) → next prev xs ≡ good r u → Good prev xs r u
next_good prev xs r u q =
    elim (dec_lt (length xs) 2) [
      | yes h ↦
          let g : bad WrongSize ≡ good r u = sym (next_short prev xs h) ∙ q in
          let z : ◌≡◌ {A = ℕ} 0 1 = cc in
          absurd (omega arith)
      | no h ↦
          let c = with_count_inv prev (said (take 2 xs)) (found (drop 2 xs)) r u (sym (next_long prev xs (omega arith)) ∙ q) in
          let a = found_inv (drop 2 xs) r.bytes c.0 c.2 in
          let l = length-drop 2 xs in
          record {
            used = c.0;
            size = c.1;
            some_bytes = omega (arith, a.used);
            inside = omega (arith, a.inside, c.1);
            epoch_is = c.3;
            count_is = c.2;
            above = c.4;
          }
    ]

-- ---- all records

pub parse_skip : (at k prev : ℕ) (xs : List ℕ) → parse at k prev xs ≡ parse (at + k) 0 prev (drop k xs)
unfolding parse
parse_skip at zero prev [] = refl
parse_skip at (suc k) prev [] = refl
parse_skip at zero prev (x ∷ xs) = rw (add-zero at)
parse_skip at (suc k) prev (x ∷ xs) =
    let e : suc at + k ≡ at + suc k = omega arith in
    parse_skip (suc at) k prev xs ∙ ap (λ (i : ℕ). parse i 0 prev (drop k xs)) e

pub parse_nil : (at prev : ℕ) → parse at 0 prev [] ≡ record { fault = None; records = [] }
unfolding parse
parse_nil at prev = refl

pub parse_bad : (at prev : ℕ) (xs : List ℕ) (r : Refusal) → 1 ≤ length xs → next prev xs ≡ bad r
    → parse at 0 prev xs ≡ record { fault = Some (fault_at r at); records = [] }
unfolding parse
parse_bad at prev [] r h q = absurd (omega arith)
parse_bad at prev (x ∷ xs) r h q = ap (λ (n : Next). following n at (λ r used. parse (suc at) (pred used) r.epoch xs)) q

-- what a record and those behind it make
abbrev pub before : At → Parsed → Parsed
before r p = record { fault = p.fault; records = r ∷ p.records }

pub parse_good : (at prev : ℕ) (xs : List ℕ) (r : At) (u : ℕ) → 1 ≤ length xs → 1 ≤ u → next prev xs ≡ good r u
    → parse at 0 prev xs ≡ before r (parse (at + u) 0 r.epoch (drop u xs))
unfolding parse
parse_good at prev [] r u h hu q = absurd (omega arith)
parse_good at prev (x ∷ xs) r zero h hu q = absurd (omega arith)
parse_good at prev (x ∷ xs) r (suc u) h hu q =
    let e : suc at + u ≡ at + suc u = omega arith in
    ap (λ (n : Next). following n at (λ r used. parse (suc at) (pred used) r.epoch xs)) q
    ∙ ap (before r) (parse_skip (suc at) u r.epoch xs ∙ ap (λ (i : ℕ). parse i 0 r.epoch (drop u xs)) e)

-- ---- at a place of the input

-- what is found from a place on
abbrev pub rest : List ℕ → ℕ → ℕ → Parsed
rest d at prev = parse at 0 prev (drop at d)

pub rest_end : (d : List ℕ) (at prev : ℕ) → length d ≤ at → rest d at prev ≡ record { fault = None; records = [] }
rest_end d at prev h = ap (parse at 0 prev) (drop_of_length-le d {i = at} h) ∙ parse_nil at prev

pub rest_bad : (d : List ℕ) (at prev : ℕ) (r : Refusal) → at < length d → next prev (drop at d) ≡ bad r
    → rest d at prev ≡ record { fault = Some (fault_at r at); records = [] }
rest_bad d at prev r h q = parse_bad at prev (drop at d) r (omega (arith, length-drop at d)) q

-- a record that was read, and those behind it
pub record Turn (d : List ℕ) (at prev : ℕ) (r : At) (u : ℕ) : Type 0 where
  pub inside : at + u ≤ length d
  pub some_bytes : 3 ≤ u
  pub step : rest d at prev ≡ before r (rest d (at + u) r.epoch)

pub rest_good : (d : List ℕ) (at prev : ℕ) (r : At) (u : ℕ) → at < length d → next prev (drop at d) ≡ good r u → Turn d at prev r u
rest_good d at prev r u h q =
    let g = next_good prev (drop at d) r u q in
    let l = length-drop at d in
    record {
      inside = omega (arith, g.inside);
      some_bytes = omega (arith, g.size, g.some_bytes);
      step =
          parse_good at prev (drop at d) r u (omega arith) (omega (arith, g.size)) q
          ∙ ap (λ (xs : List ℕ). before r (parse (at + u) 0 r.epoch xs)) (drop-drop u at d);
    }

-- each record has a byte or more; f bytes are left at most
rest_bytes : (f : ℕ) (d : List ℕ) (at prev : ℕ) → at ≤ length d → length d ≤ at + f → at + length (rest d at prev).records ≤ length d
rest_bytes zero d at prev h g = omega (arith, ap (λ (p : Parsed). length p.records) (rest_end d at prev (omega arith)))
rest_bytes (suc f) d at prev h g =
    elim (dec_lt at (length d)) [
      | yes i ↦ by i (next prev (drop at d)) refl (λ j e. rest_bytes f d j e)
      | no i ↦ omega (arith, ap (λ (p : Parsed). length p.records) (rest_end d at prev (omega arith)))
    ]
  where
    by : at < length d → (x : Next) → next prev (drop at d) ≡ x
        → ((j e : ℕ) → j ≤ length d → length d ≤ j + f → j + length (rest d j e).records ≤ length d)
        → at + length (rest d at prev).records ≤ length d
    by i (bad r) q ih = omega (arith, ap (λ (p : Parsed). length p.records) (rest_bad d at prev r i q))
    by i (good r u) q ih =
        let t = rest_good d at prev r u i q in
        omega (
          arith,
          t.some_bytes,
          ap (λ (p : Parsed). length p.records) t.step,
          ih (at + u) r.epoch t.inside (omega (arith, t.some_bytes)),
        )

pub rest_long : (d : List ℕ) (at prev : ℕ) → at ≤ length d → at + length (rest d at prev).records ≤ length d
rest_long d at prev h = rest_bytes (length d) d at prev h (omega arith)
