-- The second pass over records that are known to be right: each is there whole, and goes to its place of the tables.
-- Assumes nothing.
use Prim.Native.Nat.{ℕ, ◌+◌, ◌≤◌, ◌<◌}
use native.Mathlib.Decide.{dec_lt}
use native.Mathlib.Omega.{arith}
use mathlib.Core.Path.{◌≡◌, refl, sym, ap, ap₂, ◌∙◌}
use mathlib.Core.Bool.{true}
use Rattle.std.specs.Prelude.{None}
use Rattle.std.proofs.lemmas.Option.{none-some}
use mathlib.Core.List.{List, [], ◌∷◌}
use lib.ListN.{length, take, drop, set}
use lib.Seq.{drop-drop}
use Rattle.fields_spec.specs.Big.{said}
use Rattle.fields_spec.specs.Varint.{found, whole}
use Rattle.fields_spec.specs.Inner.Varints.{is_whole, read_at}
use Rattle.fields_spec.specs.declared.varint.Varint.{Varint}
use Rattle.std.proofs.Common.{Ok}
use Rattle.fields_spec.proofs.Told.{told_read}
use Rattle.records_spec.specs.Tables.{At, ◌⦂◌}
use Rattle.records_spec.specs.Inner.Tables.{Placed}
use Rattle.records_spec.proofs.Tables.{Filling, filling_start, filling_reached, filling_step, filling_done}
use Rattle.codec_spec.specs.Reading.{Next, bad, good, next, Parsed}
use Rattle.codec_spec.specs.Inner.Blocks.{Sound}
use Rattle.codec_spec.proofs.Parsing.{Good, next_good, rest, rest_end, rest_bad, Turn, rest_good}

-- the record that is ahead where some are left without a fault
pub record Ahead (d : List ℕ) (at prev : ℕ) : Type 0 where
  pub item : At
  pub size : ℕ
  pub is_next : next prev (drop at d) ≡ good item size
  pub turn : Turn d at prev item size

pub ahead : (d : List ℕ) (at prev : ℕ) → (rest d at prev).fault ≡ None → 1 ≤ length (rest d at prev).records → Ahead d at prev
ahead d at prev f n =
    elim (dec_lt at (length d)) [
      | yes h ↦ by h (next prev (drop at d)) refl
      | no h ↦ absurd (omega (arith, ap (λ (p : Parsed). length p.records) (rest_end d at prev (omega arith))))
    ]
  where
    by : at < length d → (x : Next) → next prev (drop at d) ≡ x → Ahead d at prev
    by h (bad r) q = absurd (none-some _ (sym (sym (ap (λ (p : Parsed). p.fault) (rest_bad d at prev r h q)) ∙ f)))
    by h (good r u) q = record { item = r; size = u; is_next = q; turn = rest_good d at prev r u h q }

module _ (d : List ℕ) (at prev : ℕ) (a : Ahead d at prev) where
  pub ahead_inside : at + 2 ≤ length d
  ahead_inside = omega (arith, a.turn.inside, a.turn.some_bytes)

  ahead_good : Good prev (drop at d) a.item a.size
  ahead_good = next_good prev (drop at d) a.item a.size a.is_next

  ahead_found : found (drop (at + 2) d) ≡ whole a.item.bytes ahead_good.used
  ahead_found = ap found (sym (drop-drop 2 at d)) ∙ ahead_good.count_is

  pub ahead_whole : is_whole (found (drop (at + 2) d)) ≡ true
  ahead_whole = ap is_whole ahead_found

  -- what the code reads there
  pub ahead_read : (e : ℕ) (v : Varint) → e ≡ said (take 2 (drop at d)) → Ok v ≡ read_at (at + 2) (found (drop (at + 2) d))
      → (e ⦂ v.count ≡ a.item) × (v.next ≡ at + a.size)
  ahead_read e v ee ev =
      let t = told_read (at + 2) v.count v.next (found (drop (at + 2) d)) ev in
      let w : whole v.count t.0 ≡ whole a.item.bytes ahead_good.used = sym t.1 ∙ ahead_found in
      let c : v.count ≡ a.item.bytes = cc in
      let u : t.0 ≡ ahead_good.used = cc in
      let x : e ≡ a.item.epoch = ee ∙ sym ahead_good.epoch_is in
      ((λ i. x i ⦂ c i), omega (arith, t.2, u, ahead_good.size))

-- the place reached in the bytes and in the tables
pub record Going (all : List At) (d : List ℕ) (k : ℕ) (es₀ cs₀ es cs : List ℕ) (at i : ℕ) : Type 0 where
  pub prev : ℕ
  pub no_fault : (rest d at prev).fault ≡ None
  pub filling : Filling all (rest d at prev).records k i es₀ cs₀ es cs

pub going_start : (d es cs : List ℕ) (at n k : ℕ) (s : Sound d at n) → Going (rest d at s.before).records d k es cs es cs at k
going_start d es cs at n k s =
    record { prev = s.before; no_fault = s.no_fault; filling = filling_start (rest d at s.before).records k es cs }

module _ {all : List At} {d es₀ cs₀ es cs : List ℕ} {k at i : ℕ} (g : Going all d k es₀ cs₀ es cs at i) where
  pub going_ahead : i < k + length all → Ahead d at g.prev
  going_ahead h = ahead d at g.prev g.no_fault (omega (arith, filling_reached g.filling))

  pub going_room : i < k + length all → k + length all ≤ length es₀ → k + length all ≤ length cs₀ → (i < length es) × (i < length cs)
  going_room h p q =
      let f = g.filling in
      (omega (arith, f.epochs.long), omega (arith, f.counts.long))

  pub going_more : (h : i < k + length all) (e : ℕ) (v : Varint) → e ≡ said (take 2 (drop at d)) → Ok v ≡ read_at (at + 2) (found (drop (at + 2) d))
      → Going all d k es₀ cs₀ (set es i e) (set cs i v.count) v.next (i + 1)
  going_more h e v ee ev =
      let a = going_ahead h in
      let r = ahead_read d at g.prev a e v ee ev in
      let s = a.turn.step in
      let same : rest d (at + a.size) a.item.epoch
      ≡ rest d v.next a.item.epoch = ap (λ (i : ℕ). rest d i a.item.epoch) (sym r.1) in
      let left : (rest d at g.prev).records ≡ e ⦂ v.count ∷ (rest d v.next a.item.epoch).records =
      ap (λ (p : Parsed). p.records) s ∙ ap₂ (λ (x : At) (p : Parsed). x ∷ p.records) (sym r.0) same in
      record {
        prev = a.item.epoch;
        no_fault = sym (ap (λ (p : Parsed). p.fault) s ∙ ap (λ (p : Parsed). p.fault) same) ∙ g.no_fault;
        filling = filling_step g.filling left;
      }

  pub going_done : k + length all ≤ i → Placed all k i es₀ cs₀ es cs
  going_done h = filling_done g.filling (nil (rest d at g.prev).records (omega (arith, filling_reached g.filling)))
    where
      nil : (rs : List At) → length rs ≡ 0 → rs ≡ []
      nil [] e = refl
      nil (r ∷ rs) e = absurd (omega arith)
