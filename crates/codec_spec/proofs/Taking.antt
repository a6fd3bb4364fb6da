-- Records read into a block, one after another: each is there whole, and goes to its place of the block's tables.
-- Assumes nothing.
use Rattle.std.specs.Prelude.{Ok, Err}
use Prim.Native.Nat.{ℕ, ◌+◌, ◌≤◌, ◌<◌}
use native.Mathlib.Omega.{arith}
use mathlib.Core.Path.{◌≡◌, refl, sym, ap, ◌∙◌}
use Rattle.std.specs.Prelude.{Some}
use mathlib.Core.List.{List, [], ◌∷◌, ◌++◌}
use lib.ListN.{length, take, drop, set, length-drop}
use lib.Seq.{drop-drop, take-add, length-sets}
use Rattle.records_spec.specs.Tables.{At, ◌⦂◌, epochs_of, counts_of}
use Rattle.records_spec.specs.declared.refusal.Refusal.{Refusal}
use Rattle.records_spec.proofs.Tables.{filling_start, filling_done, placed_one, placed_then}
use Rattle.codec_spec.specs.declared.blocks.Block.{Block}
use Rattle.codec_spec.specs.declared.judging.Fault.{Fault}
use Rattle.codec_spec.specs.declared.record.GotRecord.{GotRecord}
use Rattle.codec_spec.specs.Reading.{fault_at}
use Rattle.codec_spec.specs.Reading.{next, Parsed}
use Rattle.codec_spec.specs.Inner.Blocks.{got_of, Taken, block_records, Blocked}
use Rattle.codec_spec.proofs.Parsing.{rest, rest_bad, rest_good}
use Rattle.codec_spec.proofs.Turns.{got_bad, got_good}

-- ---- a block

pub taken_start : (d : List ℕ) (at prev : ℕ) (es cs : List ℕ) → at ≤ length d → Taken d at prev 0 at prev es cs es cs
taken_start d at prev es cs h =
    record {
      within = h;
      gains = omega arith;
      enough = omega arith;
      placed = filling_done (filling_start [] 0 es cs) refl;
      fault_on = refl;
      records_on = refl;
    }

module _ {d : List ℕ} {at prev n j e : ℕ} {es₀ cs₀ es cs : List ℕ} (t : Taken d at prev n j e es₀ cs₀ es cs) where
  -- the tables are as long as they were
  pub taken_epochs : length es ≡ length es₀
  taken_epochs = ap length t.placed.epochs_set ∙ length-sets es₀ 0 (epochs_of (take n (rest d at prev).records))

  pub taken_counts : length cs ≡ length cs₀
  taken_counts = ap length t.placed.counts_set ∙ length-sets cs₀ 0 (counts_of (take n (rest d at prev).records))

  module _ (inside : j < length d) where
    -- the next record is at fault
    pub taken_bad : (f : Fault) → got_of j (next e (drop j d)) ≡ Err f → (rest d at prev).fault ≡ Some f
    taken_bad f q =
        let bad = got_bad j (next e (drop j d)) f q in
        t.fault_on ∙ ap (λ (p : Parsed). p.fault) (rest_bad d j e f.refusal inside bad.0) ∙ ap Some (sym bad.1)

    -- the next record is read too
    pub taken_more : (y : GotRecord) → got_of j (next e (drop j d)) ≡ Ok y
        → Taken d at prev (n + 1) y.next y.epoch es₀ cs₀ (set es n y.epoch) (set cs n y.count)
    taken_more y q =
        let x : ℕ = y.epoch in
        let k : ℕ = y.count in
        let i : ℕ = y.next in
        let g = got_good j (next e (drop j d)) y q in
        let u = rest_good d j e (x ⦂ k) g.0 inside g.1 in
        let all : List At = (rest d at prev).records in
        let on : rest d (j + g.0) x ≡ rest d i x = ap (λ (m : ℕ). rest d m x) (sym g.2) in
        let left : drop n all ≡ x ⦂ k ∷ (rest d i x).records =
        t.records_on ∙ ap (λ (p : Parsed). p.records) u.step ∙ ap (λ (p : Parsed). x ⦂ k ∷ p.records) on in
        let first : take n all ++ (x ⦂ k ∷ []) ≡ take (n + 1) all = sym (take-add n 1 all ∙ ap (λ (l : List At). take n all ++ take 1 l) left) in
        record {
          within = omega (arith, u.inside, g.2);
          gains = omega (arith, t.gains, u.some_bytes, g.2);
          enough = omega (arith, t.enough, length-drop n all, ap (length {A = At}) left);
          placed = rw first at (placed_then t.placed (placed_one x k n es cs));
          fault_on = t.fault_on ∙ ap (λ (p : Parsed). p.fault) u.step ∙ ap (λ (p : Parsed). p.fault) on;
          records_on = sym (drop-drop 1 n all) ∙ ap (λ (l : List At). drop 1 l) left;
        }

-- ---- a block, as the code tells it

pub blocked_faulty : (d : List ℕ) (at prev : ℕ) (es cs es' cs' : List ℕ) (f : Fault)
    → (rest d at prev).fault ≡ Some f
    → Blocked d at prev (Err f) es cs es' cs'
blocked_faulty d at prev es cs es' cs' f h =
    record {
      at_fault = λ g e. let a : f ≡ g = cc in h ∙ ap Some a;
      taken = λ x q. let z : ◌≡◌ {A = ℕ} 0 1 = cc in absurd (omega arith);
    }

pub blocked_taken : {d : List ℕ} {at prev n j e : ℕ} {es cs es' cs' : List ℕ} → Taken d at prev n j e es cs es' cs' → (j < length d → 1 ≤ n)
    → n ≤ block_records → Blocked d at prev (Ok (record { n = n; next = j; last = e })) es cs es' cs'
blocked_taken {d} {at} {prev} {n} {j} {e} {es} {cs} {es'} {cs'} t here few =
    record {
      at_fault = λ g q. let z : ◌≡◌ {A = ℕ} 0 1 = cc in absurd (omega arith);
      taken = λ x q.
          let s : record { n = n; next = j; last = e } ≡ x = cc in
          let a : n ≡ x.n = ap (λ (y : Block). y.n) s in
          let b : j ≡ x.next = ap (λ (y : Block). y.next) s in
          let f : e ≡ x.last = ap (λ (y : Block). y.last) s in
          (rw (a, b, f) at t, rw (a, b) at here, rw a at few);
    }
