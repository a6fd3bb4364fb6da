-- Loops over the records of a table, an epoch and a count in each turn: the record at hand, from the front or from the back, and that none is
-- left where the loop ends. From the front by the place of the turn, from the back by what the iterator has left. Assumes nothing.
use Rattle.std.proofs.Common.{◌≡◌, ℕ, ◌+◌, ◌-◌, ◌<◌, ◌≤◌, List, Iter, [], ◌∷◌, ◌++◌, length, get_or, take, refl, sym, ap, ◌∙◌, arith}
use Rattle.std.proofs.lemmas.List.{length_push, take_at, get_or_at, take-take, get_or-take, take_all}
use Rattle.std.proofs.lemmas.Iterator.{zips}
use Rattle.std.proofs.lemmas.Slice.Zip.{zip_turn, zip_end}
use Rattle.std.proofs.iter.Yields.{fronts}
use Rattle.std.specs.Prelude.{Option, Some, None}
use Rattle.std.specs.Borrow.{Bor}
use Rattle.std.specs.Iterator.{Yields}
use Rattle.std.specs.Iterator.Adapters.{zip_first, zip_second}
use Rattle.std.specs.Slice.Iter.{iter_rest}
use Rattle.std.specs.declared.iter.Zip.{Zip}

-- ---- from the front

-- the record at hand stands at the place of the turn
pub record AtHand (es cs : List ℕ) (i epoch count : ℕ) : Type 0 where
  pub within : i < length es
  pub epoch_is : epoch ≡ get_or es i 0
  pub count_is : count ≡ get_or cs i 0

module _ (es cs : List ℕ) (xs : List (Bor ℕ × Bor ℕ)) (s t u : Zip (Iter ℕ) (Iter ℕ)) (r : Option (Bor ℕ × Bor ℕ))
    (epochs : iter_rest (zip_first s) ≡ es) (counts : iter_rest (zip_second s) ≡ cs)
    (so_far : Yields (zips fronts fronts) s xs t) (step : zips fronts fronts t r u) where
  pub at_hand : (epoch count : Bor ℕ) → r ≡ Some (epoch, count) → AtHand es cs (length xs) epoch.now count.now
  at_hand epoch count e =
      let turn = zip_turn es cs xs s t u r epochs counts so_far (epoch, count) e step in
      record { within = turn.0; epoch_is = turn.2 0; count_is = turn.3 0 }

  pub none_left : length es ≡ length cs → r ≡ None → length es ≤ length xs
  none_left even e = omega (arith, zip_end es cs xs s t u r epochs counts so_far e step)

-- ---- from the back

-- what is to come are the first records
pub record LeftOf (es cs epochs counts : List ℕ) : Type 0 where
  pub even : length counts ≡ length epochs
  pub epochs_first : epochs ≡ take (length epochs) es
  pub counts_first : counts ≡ take (length epochs) cs

pub all_left : (es cs : List ℕ) → length es ≡ length cs → LeftOf es cs es cs
all_left es cs h = record {
  even = sym h;
  epochs_first = sym (take_all (length es) es (omega arith));
  counts_first = sym (take_all (length es) cs (omega arith));
}

-- the last of the first elements of a list
last_first : (n : ℕ) (xs rest : List ℕ) (x : ℕ) → length rest ≡ n → rest ++ (x ∷ []) ≡ take (n + 1) xs
    → (rest ≡ take n xs) × (x ≡ get_or xs n 0)
last_first n xs rest x h e = (
  sym (take_at rest (x ∷ []) n h) ∙ ap (take n) e ∙ take-take n (n + 1) xs (omega arith),
  sym (get_or_at rest x [] 0 n h) ∙ ap (λ (l : List ℕ). get_or l n 0) e ∙ get_or-take (n + 1) xs n 0 (omega arith),
)

-- the record at hand is the last of those that were to come
pub record LastOf (es cs epochs rest_epochs rest_counts : List ℕ) (epoch count : ℕ) : Type 0 where
  pub some : 0 < length epochs
  pub one_less : length rest_epochs ≡ length epochs - 1
  pub epoch_is : epoch ≡ get_or es (length epochs - 1) 0
  pub count_is : count ≡ get_or cs (length epochs - 1) 0
  pub to_come : LeftOf es cs rest_epochs rest_counts

pub last_of : (es cs epochs counts rest_epochs rest_counts : List ℕ) (epoch count : ℕ) → LeftOf es cs epochs counts
    → epochs ≡ rest_epochs ++ (epoch ∷ []) → counts ≡ rest_counts ++ (count ∷ []) → LastOf es cs epochs rest_epochs rest_counts epoch count
last_of es cs epochs counts rest_epochs rest_counts epoch count l e f =
    let n = length rest_epochs in
    let long : length epochs ≡ n + 1 = ap length e ∙ length_push rest_epochs epoch in
    let same : length rest_counts ≡ n = omega (arith, ap length f, length_push rest_counts count, l.even) in
    let place : n ≡ length epochs - 1 = omega arith in
    let last_epoch = last_first n es rest_epochs epoch refl (sym e ∙ rw long at l.epochs_first) in
    let last_count = last_first n cs rest_counts count same (sym f ∙ rw long at l.counts_first) in
    record {
      some = omega arith;
      one_less = place;
      epoch_is = rw place at last_epoch.1;
      count_is = rw place at last_count.1;
      to_come = record { even = same; epochs_first = last_epoch.0; counts_first = last_count.0 };
    }
