-- What judging and reading answer tells what is found: each answer is given for one case of it. By cases. Assumes nothing.
use Rattle.std.proofs.Common.{ℕ, ◌+◌, ◌≡◌, true, refl, sym, ap, Ok, Err}
use Rattle.fields_spec.specs.Varint.{Found, incomplete, notCanonical, whole}
use Rattle.fields_spec.specs.Inner.Varints.{judged_at, read_at, is_whole}
use Rattle.fields_spec.specs.declared.varint.Varint.{Varint}
use Rattle.fields_spec.specs.declared.varint.VarintFault.TheVariants.{Incomplete, NotCanonical}

-- ---- what judging answered

pub judged_incomplete : (at place : ℕ) (f : Found) → judged_at at f ≡ Err (Incomplete place) → f ≡ incomplete
judged_incomplete at place incomplete e = refl
judged_incomplete at place notCanonical e = cc
judged_incomplete at place (whole v u) e = cc

pub judged_strange : (at place : ℕ) (f : Found) → judged_at at f ≡ Err (NotCanonical place) → f ≡ notCanonical
judged_strange at place incomplete e = cc
judged_strange at place notCanonical e = refl
judged_strange at place (whole v u) e = cc

pub judged_whole : (at next : ℕ) (f : Found) → judged_at at f ≡ Ok next → is_whole f ≡ true
judged_whole at next incomplete e = cc
judged_whole at next notCanonical e = cc
judged_whole at next (whole v u) e = refl

-- ---- what was read

pub read_incomplete : (at place : ℕ) (f : Found) → read_at at f ≡ Err (Incomplete place) → f ≡ incomplete
read_incomplete at place incomplete e = refl
read_incomplete at place notCanonical e = cc
read_incomplete at place (whole v u) e = cc

pub read_strange : (at place : ℕ) (f : Found) → read_at at f ≡ Err (NotCanonical place) → f ≡ notCanonical
read_strange at place incomplete e = cc
read_strange at place notCanonical e = refl
read_strange at place (whole v u) e = cc

-- a whole varint, with its number of bytes
pub told_read : (at count next : ℕ) (f : Found) → Ok (record { count = count; next = next }) ≡ read_at at f
    → (used : ℕ) × (f ≡ whole count used) × (next ≡ at + used)
told_read at count next incomplete e = (0, cc, cc)
told_read at count next notCanonical e = (0, cc, cc)
told_read at count next (whole v u) e =
    let r : ◌≡◌ {A = Varint} (record { count = count; next = next }) (record { count = v; next = at + u }) = cc in
    (u, ap (λ (x : Varint). whole x.count u) (sym r), ap (λ (x : Varint). x.next) r)
