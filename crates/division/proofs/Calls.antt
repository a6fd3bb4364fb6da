-- The same of proper flags, and of what an accepted call of `split_value_removed_bytes` leaves: its sections are the only fair ones, and a
-- call for more bytes takes no less from any epoch.
-- Assumes nothing.
use mathlib.Core.Path.{◌≡◌, sym, ap, subst, ◌∙◌}
use mathlib.Core.Bool.{true}
use mathlib.Core.List.{List}
use Prim.Native.Nat.{ℕ, ◌≤◌}
use Rattle.records_spec.specs.Flags.{id_of, owner_of, flags_of, proper, holding}
use Rattle.records_spec.specs.Outcomes.{ok}
use Rattle.records_spec.specs.declared.head.Head.{Head}
use Rattle.records_spec.proofs.Proper.{proper_inv, proper_ascends}
use Rattle.rows_spec.specs.Rows.{Tables, parts_of}
use Rattle.rows_spec.specs.Removals.{Removal, rows_of_removal}
use Rattle.splitting_spec.specs.Sections.{split}
use Rattle.splitting_spec.specs.Calls.{Told, split_value}
use Rattle.splitting_spec.proofs.Ascending.{value_parts}
use Rattle.splitting_spec.proofs.Accepted.{flags_proper, value_stands}
use Rattle.division.specs.Fair.{OnlyFair, NoLess, NeverLess}
use Rattle.division.specs.Calls.{sections_left}
use Rattle.division.proofs.OnlyFair.{split_only_fair}
use Rattle.division.proofs.Larger.{split_never_less}

-- ---- proper flags

module _ (h : Head) (es cs : List ℕ) (p : proper (holding h es cs) ≡ true) where
  -- of all kinds, kinds 1 and 3 among them, and of any amount
  pub only_fair : (n : ℕ) → OnlyFair h.base (flags_of (holding h es cs)).records n (split h.base (flags_of (holding h es cs)).records n)
  only_fair = split_only_fair h.base (flags_of (holding h es cs)).records (proper_ascends (proper_inv h es cs p))

  pub never_less : NeverLess (split h.base (flags_of (holding h es cs)).records)
  never_less = split_never_less h.base (flags_of (holding h es cs)).records (proper_ascends (proper_inv h es cs p))

-- ---- accepted calls

module _ (h : Head) (es cs : List ℕ) (n : ℕ) (t : Tables) (u : Told) (e : (split_value (holding h es cs) n t).answer ≡ ok u) where
  left_split : sections_left u (split_value (holding h es cs) n t) ≡ split h.base (flags_of (holding h es cs)).records n
  left_split =
      ap (λ (r : Removal). parts_of (rows_of_removal r)) (value_stands (holding h es cs) n t u e)
      ∙ value_parts (id_of (owner_of h)) h.base (flags_of (holding h es cs)).records n

  pub left_only_fair : OnlyFair h.base (flags_of (holding h es cs)).records n (sections_left u (split_value (holding h es cs) n t))
  left_only_fair =
      subst (OnlyFair h.base (flags_of (holding h es cs)).records n) (sym left_split)
      (only_fair h es cs (flags_proper (holding h es cs) n t u e) n)

-- two calls of the same flags, the second for no fewer bytes
pub left_never_less : (h : Head) (es cs : List ℕ) (m n : ℕ) (t t' : Tables) (u u' : Told) → (split_value (holding h es cs) m t).answer ≡ ok u
    → (split_value (holding h es cs) n t').answer ≡ ok u' → m ≤ n → (e : ℕ)
    → NoLess (sections_left u (split_value (holding h es cs) m t)) (sections_left u' (split_value (holding h es cs) n t')) e
left_never_less h es cs m n t t' u u' p q less =
    rw (left_split h es cs m t u p, left_split h es cs n t' u' q) (never_less h es cs (flags_proper (holding h es cs) m t u p) m n less)
