-- Bytes as hexadecimal digits: from a place on, their number, and how they are written. Assumes nothing.
use mathlib.Core.Path.{◌≡◌, refl, ap}
use Rattle.std.specs.Prelude.{Some}
use mathlib.Core.List.{List, [], ◌∷◌}
use Prim.Native.Nat.{ℕ, ◌+◌, ◌*◌, ◌/◌, ◌%◌, ◌≤◌, ◌<◌}
use native.Mathlib.Numerals.{add-one}
use native.Mathlib.Omega.{arith}
use lib.ListN.{length, get_or, drop, set, drop_of_length-le, length-append}
use lib.Seq.{drop-cons}
use Rattle.fields_spec.specs.Writing.{Put}
use Rattle.fields_spec.proofs.Parts.{Parts, parts_put}
use Rattle.listing_spec.specs.Text.{ascii, hex_digit, hex, owner_line}

pub length_hex : (bs : List ℕ) → length (hex bs) ≡ 2 * length bs
unfolding hex
length_hex [] = refl
length_hex (b ∷ bs) = omega (arith, length_hex bs)

-- the owner's line
pub length_owner : (o : List ℕ) → length (owner_line (Some o)) ≡ 7 + length (hex o)
length_owner o = omega (arith, length-append (hex o) (ascii "\n"))

module _ (bs : List ℕ) (k : ℕ) where
  pub hex_end : length bs ≤ k → hex (drop k bs) ≡ []
  unfolding hex
  hex_end h = rw (drop_of_length-le bs {i = k} h)

  module _ (h : k < length bs) where
    hex_on : hex (drop k bs) ≡ hex_digit (get_or bs k 0 / 16) ∷ hex_digit (get_or bs k 0 % 16) ∷ hex (drop (k + 1) bs)
    unfolding hex
    hex_on = rw (add-one, drop-cons bs k 0)

    -- two digits are left for the byte there
    pub hex_two : 2 ≤ length (hex (drop k bs))
    hex_two = omega (arith, ap length hex_on)

    -- and are written
    pub hex_put : {all : List ℕ} {at : ℕ} {old new : List ℕ} {i x y : ℕ}
        → Parts all at old (hex (drop k bs)) i new
        → x ≡ hex_digit (get_or bs k 0 / 16)
        → y ≡ hex_digit (get_or bs k 0 % 16)
        → Parts all at old (hex (drop (k + 1) bs)) (i + 2) (set (set new i x) (i + 1) y)
    hex_put {all} {at} {old} {new} {i} {x} {y} p ex ey =
        let q : Put (x ∷ y ∷ []) i (i + 2) new (set (set new i x) (i + 1) y) = record { behind = refl; wrote = rw add-one } in
        parts_put p (rw (ex, ey) hex_on) q
