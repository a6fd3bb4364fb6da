-- Records and the two lent tables that hold them: document 01, "Flags and their bytes" and "Merging".
-- Assumes nothing.
use Rattle.std.specs.Prelude.{ℕ, suc, Bool, true, false, cond, ◌&&◌, List, [], ◌∷◌, ◌++◌, ltb, eqb, length, take, drop}

infix 68 ◌⦂◌
-- an epoch with a number of bytes
pub record At : Type 0 where
  pub epoch : ℕ
  pub bytes : ℕ

-- {7:10} is 7 ⦂ 10 ∷ []
abbrev pub ◌⦂◌ : ℕ → ℕ → At
e ⦂ n = record { epoch = e; bytes = n }

-- the records that a table of epochs and one of counts hold, place by place
unfoldable pub records_of : List ℕ → List ℕ → List At
records_of [] cs = []
records_of (e ∷ es) [] = []
records_of (e ∷ es) (c ∷ cs) = e ⦂ c ∷ records_of es cs

-- the records' epochs
unfoldable pub epochs_of : List At → List ℕ
epochs_of [] = []
epochs_of (r ∷ rs) = r.epoch ∷ epochs_of rs

-- the records' counts
unfoldable pub counts_of : List At → List ℕ
counts_of [] = []
counts_of (r ∷ rs) = r.bytes ∷ counts_of rs

-- epochs strictly ascending, and all above the base
unfoldable pub ascending : ℕ → List ℕ → Bool
ascending base [] = true
ascending base (e ∷ es) = ltb base e && ascending e es

-- epochs strictly ascending
unfoldable pub rising : List ℕ → Bool
rising [] = true
rising (e ∷ es) = ascending e es

-- the place of an epoch: how many epochs of a rising table are below it
unfoldable pub place_of : ℕ → List ℕ → ℕ
place_of e [] = 0
place_of e (x ∷ xs) = cond (ltb x e) (suc (place_of e xs)) 0

-- a record put into an ascending table; one at its epoch gives way
unfoldable pub put : At → List At → List At
put r [] = r ∷ []
put r (s ∷ ss) = cond (ltb r.epoch s.epoch) (r ∷ s ∷ ss) (cond (eqb r.epoch s.epoch) (r ∷ ss) (s ∷ put r ss))

-- all records of both; where both have an epoch, the incoming count stands
unfoldable pub union : List At → List At → List At
union ours [] = ours
union ours (r ∷ theirs) = put r (union ours theirs)

-- whether there is a record at an epoch
unfoldable pub has : ℕ → List At → Bool
has e [] = false
has e (r ∷ rs) = cond (eqb e r.epoch) true (has e rs)

-- the count of the record at an epoch; 0 where there is none
unfoldable pub held : ℕ → List At → ℕ
held e [] = 0
held e (r ∷ rs) = cond (eqb e r.epoch) r.bytes (held e rs)

-- a list without what stands at a place
abbrev pub without : ℕ → List ℕ → List ℕ
without k xs = take k xs ++ drop (suc k) xs

-- an answer at the start of what was lent, and the places behind it untouched
abbrev pub over {ℓ} : {A : Type ℓ} → List A → List A → List A
over xs old = xs ++ drop (length xs) old

-- ---- what the functions on tables ask and promise
