-- Reading flags, case by case: what the tests of the code say of `read_as` and `read`. Assumes nothing.
use Rattle.std.specs.Prelude.{Result, Ok, Err}
use Prim.Native.Nat.{ℕ, suc, ◌≤◌, ◌<◌}
use native.Mathlib.Omega.{arith}
use mathlib.Core.Path.{◌≡◌, refl, sym, ap, ap₂, ◌∙◌}
use mathlib.Core.Bool.{true, false}
use Rattle.std.specs.Prelude.{Option, None, Some}
use mathlib.Core.List.{List, [], ◌∷◌}
use borrow.Author.Tests.{le-leb, lt-leb, eq-eqb, ne_eqb}
use lib.ListN.{length, get_or}
use Rattle.records_spec.specs.Tables.{At}
use Rattle.records_spec.specs.Flags.{flags, owned, multi, agrees, kind_of_byte}
use Rattle.records_spec.specs.declared.refusal.Refusal.TheVariants.{WrongSize}
use Rattle.records_spec.specs.declared.head.Kind.{Kind}
use Rattle.codec_spec.specs.Bytes.{unowned_head, owned_head, head_size}
use Rattle.codec_spec.specs.declared.judging.Fault.{Fault}
use Rattle.codec_spec.specs.Reading.{Parsed, no_flags, some_flags, refused_at, with_records, base_in, owner_in, records_in, flags_in, read_as, fault_at}
use Rattle.codec_spec.specs.Reading.{read_byte, read}
use Rattle.codec_spec.specs.Inner.Blocks.{scan_of}
use Rattle.codec_spec.proofs.Parsing.{rest}
use Rattle.codec_spec.proofs.Turns.{scan_some}

-- ---- the head's size

pub owned_size : (k : Kind) (n : ℕ) → owned k ≡ true → head_size k ≤ n → owned_head ≤ n
owned_size k n e h = rw e at h

pub unowned_size : (k : Kind) (n : ℕ) → owned k ≡ false → head_size k ≤ n → unowned_head ≤ n
unowned_size k n e h = rw e at h

-- ---- flags of a kind

module _ (k : Kind) (xs : List ℕ) where
  pub multi_short : multi k ≡ true → length xs < head_size k → read_as k xs ≡ refused_at WrongSize (length xs)
  unfolding read_as
  multi_short m h = rw (m, lt-leb (head_size k) (length xs) h)

  pub multi_long : multi k ≡ true → head_size k ≤ length xs
      → read_as k xs ≡ with_records (length xs) (base_in k xs) (owner_in k xs) (records_in k xs).fault (records_in k xs).records
  unfolding read_as
  multi_long m h = rw (m, le-leb (head_size k) (length xs) h)

  pub single_right : multi k ≡ false → length xs ≡ head_size k → read_as k xs ≡ some_flags (flags (base_in k xs) (owner_in k xs) [])
  unfolding read_as
  single_right m h = rw (m, eq-eqb (length xs) (head_size k) h)

  pub single_wrong : multi k ≡ false → (length xs ≡ head_size k → ⊥) → read_as k xs ≡ refused_at WrongSize (length xs)
  unfolding read_as
  single_wrong m h = rw (m, ne_eqb (length xs) (head_size k) h)

pub agrees_multi : (k : Kind) (n : ℕ) → multi k ≡ true → 1 ≤ n → agrees k n ≡ true
agrees_multi k n m h = rw m (le-leb 1 n h)

pub agrees_single : (k : Kind) → multi k ≡ false → agrees k 0 ≡ true
agrees_single k m = rw m

-- ---- records that were scanned

module _ (end base : ℕ) (owner : Option (List ℕ)) where
  pub scanned_faulty : (f : Option Fault) (rs : List At) (x : Fault) → scan_of end f (length rs) ≡ Err x
      → with_records end base owner f rs ≡ refused_at x.refusal x.place
  scanned_faulty (Some f) rs x e = let g : f ≡ x = cc in ap (λ (y : Fault). refused_at y.refusal y.place) g
  scanned_faulty None [] x e = let g : fault_at WrongSize end ≡ x = cc in ap (λ (y : Fault). refused_at y.refusal y.place) g
  scanned_faulty None (a ∷ rs) x e =
      let g : Ok (suc (length rs)) ≡ Err x = scan_some end _ _ None refl refl (λ z. omega arith) ∙ e in cc

  pub record Scanned (f : Option Fault) (rs : List At) (n : ℕ) : Type 0 where
    pub reads : with_records end base owner f rs ≡ some_flags (flags base owner rs)
    pub count : n ≡ length rs
    pub some_records : 1 ≤ n

  pub scanned_records : (f : Option Fault) (rs : List At) (n : ℕ) → scan_of end f (length rs) ≡ Ok n → Scanned f rs n
  scanned_records (Some f) rs n e = let z : ◌≡◌ {A = ℕ} 0 1 = cc in absurd (omega arith)
  scanned_records None [] n e = let z : ◌≡◌ {A = ℕ} 0 1 = cc in absurd (omega arith)
  scanned_records None (a ∷ rs) n e =
      let g : Ok (suc (length rs)) ≡ Ok n = scan_some end _ _ None refl refl (λ z. omega arith) ∙ e in
      let c : suc (length rs) ≡ n = cc in
      record { reads = refl; count = sym c; some_records = omega arith }

-- ---- flags of a kind whose records were scanned from the place size on, above base

module _ (k : Kind) (xs : List ℕ) (size base : ℕ) (s : Result ℕ Fault) (es : size ≡ head_size k) (eb : base ≡ base_in k xs)
    (e : s ≡ scan_of (length xs) (rest xs size base).fault (length (rest xs size base).records)) (m : multi k ≡ true) (h : size ≤ length xs) where
  in_place : scan_of (length xs) (records_in k xs).fault (length (records_in k xs).records) ≡ s
  in_place =
      let p : rest xs size base ≡ records_in k xs = ap₂ (rest xs) es eb in
      sym (e ∙ ap (λ (p : Parsed). scan_of (length xs) p.fault (length p.records)) p)

  pub scan_faulty : (x : Fault) → s ≡ Err x → read_as k xs ≡ refused_at x.refusal x.place
  scan_faulty x q =
      multi_long k xs m (omega arith)
      ∙ scanned_faulty (length xs) (base_in k xs) (owner_in k xs) (records_in k xs).fault (records_in k xs).records x (in_place ∙ q)

  pub scan_records : (n : ℕ) → s ≡ Ok n → Scanned (length xs) (base_in k xs) (owner_in k xs) (records_in k xs).fault (records_in k xs).records n
  scan_records n q = scanned_records (length xs) (base_in k xs) (owner_in k xs) (records_in k xs).fault (records_in k xs).records n (in_place ∙ q)

  -- so many records
  pub scan_read : (n : ℕ) → s ≡ Ok n → read_as k xs ≡ some_flags (flags_in k xs)
  scan_read n q = multi_long k xs m (omega arith) ∙ (scan_records n q).reads

-- ---- by byte 0

pub read_nothing : (xs : List ℕ) → length xs ≡ 0 → read xs ≡ no_flags
unfolding read
read_nothing [] h = refl
read_nothing (x ∷ xs) h = absurd (omega arith)

-- `deserialize` IS THE READER OF ITS KIND BYTE
pub read_by_byte : (xs : List ℕ) → 0 < length xs → read xs ≡ read_byte (kind_of_byte (get_or xs 0 0)) xs
unfolding read
read_by_byte [] h = absurd (omega arith)
read_by_byte (x ∷ xs) h = refl
