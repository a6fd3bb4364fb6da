-- The byte that ends a varint, as judging and reading answer it: the bytes end first, the last byte is 0, or the varint is whole. `Begun` says
-- what is known of the bytes before it. By the laws of `Places`. Assumes nothing.
use Rattle.std.proofs.Common.{ℕ, suc, ◌+◌, ◌*◌, ◌%◌, ◌^◌, ◌≤◌, ◌<◌, ◌≡◌, ◌⊎◌, inl, inr, true, List, length, get_or, take, drop, Ok, Err}
use Rattle.std.proofs.Common.{sym, ap, ◌∙◌, arith, length-take}
use Rattle.std.proofs.Math.Decide.{dec_lt}
use Rattle.fields_spec.specs.Varint.{largest, value, found, notCanonical}
use Rattle.fields_spec.specs.Inner.Varints.{is_whole, judged_at, read_at, Begun, Ending}
use Rattle.fields_spec.specs.declared.varint.VarintFault.TheVariants.{NotCanonical}
use Rattle.fields_spec.proofs.Places.{value_below, value_on, first_more, first_value, passed_more, passed_zero, passed_whole}
use Rattle.fields_spec.proofs.Places.{passed_small, passed_read, passed_long, fifth_fits, fifth_large}

-- ---- as judging answers it

module _ {d : List ℕ} {at k : ℕ} (e : Ending d at k) where
  -- the last byte is not 0, and what the bytes say fits 32 bits
  pub ending_whole : 1 ≤ get_or d (at + k) 0 → (k < 4) ⊎ ((4 ≤ k) × (k ≡ 4) × (get_or d (at + k) 0 < 16))
      → Ok (at + k + 1) ≡ judged_at at (found (drop at d))
  ending_whole some fits =
      let small : value (take (suc k) (drop at d)) ≤ largest =
      elim fits [ inl h ↦ passed_small d at k e.passed h | inr h ↦ fifth_fits d at k h.1 e.passed e.inside h.2 ] in
      let next : at + k + 1 ≡ at + suc k = omega arith in
      ap Ok next ∙ ap (judged_at at) (sym (passed_whole d at k e.passed e.inside e.low e.ten some small))

  -- it is 0, or there are too many bytes, or the fifth is too large
  pub ending_strange : (1 ≤ get_or d (at + k) 0 → k < 5 → (k ≡ 4) × (16 ≤ get_or d (at + k) 0))
      → Err (NotCanonical at) ≡ judged_at at (found (drop at d))
  ending_strange h =
      let strange : found (drop at d) ≡ notCanonical =
      elim (dec_lt 0 (get_or d (at + k) 0)) [
        | no z ↦ passed_zero d at k e.passed e.inside e.low e.ten e.some (omega arith)
        | yes n ↦
            elim (dec_lt k 5) [
              | no l ↦ passed_long d at k e.passed e.inside e.low e.ten (omega arith)
              | yes s ↦ fifth_large d at k (h n s).0 e.passed e.inside e.low (h n s).1
            ]
      ] in
      ap (judged_at at) (sym strange)

-- ---- as reading answers it

pub begun_first : (d : List ℕ) (at : ℕ) → at < length d → 128 ≤ get_or d at 0 → Begun d at 1 (get_or d at 0 % 128)
begun_first d at inside h = record { passed = first_more d at inside h; says = first_value d at inside }

module _ {d : List ℕ} {at k v : ℕ} (b : Begun d at k v) where
  -- they say less than k groups can
  pub begun_below : v < 128 ^ k
  begun_below = omega (arith, b.says, value_below k (take k (drop at d)) (simp length-take (omega arith)))

  module _ (inside : at + k < length d) where
    pub begun_more : (j w : ℕ) → j ≡ k + 1 → w ≡ v + get_or d (at + k) 0 % 128 * 128 ^ k → 128 ≤ get_or d (at + k) 0 → Begun d at j w
    begun_more j w ej ew h =
        let z : j ≡ suc k = omega arith in
        record { passed = passed_more d at k b.passed inside j ej h; says = rw z (ew ∙ value_on d at k v inside b.says) }

    module _ (low : get_or d (at + k) 0 < 128) (ten : k < 10) where
      -- the varint ends here: it is known to be whole, or is by what its last byte says
      module _ {count next : ℕ} (all : count ≡ v + get_or d (at + k) 0 * 128 ^ k) (behind : next ≡ at + suc k) where
        of_all : count ≡ value (take (suc k) (drop at d))
        of_all =
            let m : get_or d (at + k) 0 % 128 ≡ get_or d (at + k) 0 = omega arith in
            all ∙ ap (λ (x : ℕ). v + x * 128 ^ k) (sym m) ∙ value_on d at k v inside b.says

        pub begun_whole : is_whole (found (drop at d)) ≡ true → Ok (record { count = count; next = next }) ≡ read_at at (found (drop at d))
        begun_whole w = passed_read d at k b.passed inside low ten count next w of_all behind

        pub begun_ends : 1 ≤ get_or d (at + k) 0 → count ≤ largest → Ok (record { count = count; next = next }) ≡ read_at at (found (drop at d))
        begun_ends some fits = begun_whole (ap is_whole (passed_whole d at k b.passed inside low ten some (omega (arith, of_all))))
