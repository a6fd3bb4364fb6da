-- Flags that a call placed in lent tables stand there, and are proper again. By reading them back.
-- Assumes nothing.
use mathlib.Core.Path.{◌≡◌, sym, ap, ◌∙◌}
use mathlib.Core.Bool.{true}
use Prim.Native.Nat.{ℕ}
use native.Mathlib.Omega.{arith}
use lib.ListN.{length, take}
use Rattle.records_spec.specs.Tables.{epochs_of, counts_of, ascending, over}
use Rattle.records_spec.specs.Flags.{Flags, flags_of, Held, proper, Lent}
use Rattle.records_spec.specs.Answers.{in_tables}
use Rattle.records_spec.proofs.Tables.{over_first, over-holds, length_epochs_of, length_counts_of}
use Rattle.records_spec.proofs.Proper.{proper_inv, proper_ascends, proper_long, stand_proper, stand_flags}

-- held flags are proper, and these
pub record Stands (h : Held) (f : Flags) : Type 0 where
  pub are_proper : proper h ≡ true
  pub are : flags_of h ≡ f

-- ---- what was placed

module _ (f : Flags) (t : Lent) where
  abbrev n : ℕ
  n = length f.records

  epochs_first : take n (over (epochs_of f.records) t.epochs) ≡ epochs_of f.records
  epochs_first = over_first (epochs_of f.records) t.epochs n (length_epochs_of f.records)

  counts_first : take n (over (counts_of f.records) t.counts) ≡ counts_of f.records
  counts_first = over_first (counts_of f.records) t.counts n (length_counts_of f.records)

  -- FLAGS THAT WERE PLACED STAND IN THE TABLES
  pub placed_stands : ascending f.base (epochs_of f.records) ≡ true → Stands (in_tables f t) f
  placed_stands h =
      record {
        are_proper =
            stand_proper f _ _ epochs_first (omega (arith, length_epochs_of f.records, over-holds (epochs_of f.records) t.epochs))
            (omega (arith, length_counts_of f.records, over-holds (counts_of f.records) t.counts)) h;
        are = stand_flags f _ _ epochs_first counts_first;
      }

-- ---- what stands

module _ {h : Held} {f : Flags} (s : Stands h f) where
  -- the records ascend above the base, and the head tells their number
  pub stands_ascend : ascending f.base (epochs_of f.records) ≡ true
  stands_ascend =
      ap (λ (g : Flags). ascending g.base (epochs_of g.records)) (sym s.are)
      ∙ proper_ascends (proper_inv h.head h.epochs h.counts s.are_proper)

  pub stands_long : length f.records ≡ h.head.records
  stands_long = ap (λ (g : Flags). length g.records) (sym s.are) ∙ proper_long (proper_inv h.head h.epochs h.counts s.are_proper)
