-- Records as they stand in old bytes: document 02 (iv), what is read of kinds 1 and 3. Nothing is judged here: a count is a whole number
-- of any size, and epochs come in any order. Assumes nothing.
use Rattle.std.specs.Prelude.{ℕ, zero, suc, pred, ◌+◌, cond, ◌&&◌, List, [], ◌∷◌, leb, ltb, length, take, drop}
use Rattle.std.specs.Prelude.{Option, None, Some}
use Rattle.fields_spec.specs.Big.{said}
use Rattle.fields_spec.specs.Varint.{high, value}

-- an old record: the offset of its first byte, its epoch, its count, and its number of bytes
pub record Old : Type 0 where
  pub offset : ℕ
  pub epoch : ℕ
  pub count : ℕ
  pub size : ℕ

-- the record at the start of xs, which stand from an offset on; none where it is cut, or its varint has ten continued bytes
unfoldable pub old_at : ℕ → List ℕ → Option Old
old_at offset xs =
    cond (leb 2 (length xs) && (ltb (high (drop 2 xs)) 10 && ltb (high (drop 2 xs)) (length (drop 2 xs))))
    (Some (record {
      offset = offset;
      epoch = said (take 2 xs);
      count = value (take (suc (high (drop 2 xs))) (drop 2 xs));
      size = 3 + high (drop 2 xs);
    }))
    None

-- the records that are read, and where the reading ends before the bytes do
pub record Olds : Type 0 where
  pub records : List Old
  pub cut : Option ℕ

-- a record that is not there ends the reading; another stands before those that go finds behind it
abbrev pub following_old : Option Old → ℕ → (Old → Olds) → Olds
following_old None offset go = record { records = []; cut = Some offset }
following_old (Some o) offset go = record { records = o ∷ (go o).records; cut = (go o).cut }

-- of the bytes from an offset on, of which the first k belong to the record before
unfoldable pub olds : ℕ → ℕ → List ℕ → Olds
olds offset k [] = record { records = []; cut = None }
olds offset (suc k) (x ∷ xs) = olds (suc offset) k xs
olds offset zero (x ∷ xs) = following_old (old_at offset (x ∷ xs)) offset (λ o. olds (suc offset) (pred o.size) xs)
