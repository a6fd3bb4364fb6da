-- A record that was read, and records that were scanned, as the code tells it. Assumes nothing.
use Rattle.std.specs.Prelude.{Result, Ok, Err}
use Prim.Native.Nat.{ℕ, ◌+◌}
use native.Mathlib.Omega.{arith}
use mathlib.Core.Path.{◌≡◌, sym, ap, ap₂, ◌∙◌}
use Rattle.std.specs.Prelude.{Option, None}
use borrow.Author.Tests.{ne_eqb}
use Rattle.records_spec.specs.Tables.{◌⦂◌}
use Rattle.records_spec.specs.declared.refusal.Refusal.{Refusal}
use Rattle.records_spec.specs.declared.refusal.Refusal.TheVariants.{WrongSize}
use Rattle.codec_spec.specs.declared.judging.Fault.{Fault}
use Rattle.codec_spec.specs.declared.record.GotRecord.{GotRecord}
use Rattle.codec_spec.specs.Reading.{Next, bad, good, fault_at}
use Rattle.codec_spec.specs.Inner.Blocks.{scan_of, got_of}

-- a record that was read
pub got_bad : (at : ℕ) (n : Next) (f : Fault) → got_of at n ≡ Err f → (n ≡ bad f.refusal) × (f ≡ fault_at f.refusal at)
got_bad at (bad r) f e =
    let is : fault_at r at ≡ f = cc in
    let why = ap (λ (g : Fault). g.refusal) is in
    (ap bad why, sym is ∙ ap (λ (s : Refusal). fault_at s at) why)
got_bad at (good a u) f e = let z : ◌≡◌ {A = ℕ} 0 1 = cc in absurd (omega arith)

pub got_good : (at : ℕ) (n : Next) (g : GotRecord) → got_of at n ≡ Ok g → (u : ℕ) × (n ≡ good (g.epoch ⦂ g.count) u) × (g.next ≡ at + u)
got_good at (bad s) g q = let z : ◌≡◌ {A = ℕ} 0 1 = cc in absurd (omega arith)
got_good at (good a u) g q =
    let s : record { epoch = a.epoch; count = a.bytes; next = at + u } ≡ g = cc in
    (u, ap (λ (y : GotRecord). good (y.epoch ⦂ y.count) u) s, sym (ap (λ (y : GotRecord). y.next) s))

-- a record that was got ends where it ends
pub got_here : (e k i j : ℕ) → i ≡ j
    → ◌≡◌ {A = Result GotRecord Fault} (Ok (record { epoch = e; count = k; next = i })) (Ok (record { epoch = e; count = k; next = j }))
got_here e k i j q = λ z. Ok (record { epoch = e; count = k; next = q z })

-- no record, and one or more
pub scan_none : (end n : ℕ) (f : Option Fault) → f ≡ None → n ≡ 0 → Err (fault_at WrongSize end) ≡ scan_of end f n
scan_none end n f e z = ap₂ (scan_of end) (sym e) (sym z)

pub scan_some : (end m n : ℕ) (f : Option Fault) → f ≡ None → m ≡ n → (m ≡ 0 → ⊥) → Ok m ≡ scan_of end f n
scan_some end m n f e q z =
    sym (ap₂ (scan_of end) e (sym q) ∙ rw (ne_eqb m 0 z))
