-- What remains of flags takes no more bytes, whatever the sections: a record is dropped or holds no more than it did, and a smaller count has no
-- longer varint.
-- Assumes nothing.
use Rattle.std.specs.Prelude.{Option}
use mathlib.Core.List.{List, [], ◌∷◌, ◌++◌}
use Prim.Native.Nat.{ℕ, ◌≤◌}
use native.Mathlib.Omega.{arith}
use lib.ListN.{length}
use Rattle.fields_spec.proofs.Varints.{length_mono}
use Rattle.records_spec.specs.Tables.{At, counts_of}
use Rattle.records_spec.specs.Flags.{flags}
use Rattle.codec_spec.specs.Bytes.{bytes_of}
use Rattle.codec_spec.specs.Inner.Sizes.{counts_size}
use Rattle.codec_spec.proofs.Sizing.{length_bytes}
use Rattle.removal_spec.specs.Removing.{minus}
use Rattle.removal_spec.proofs.Lessening.{lessened_cases}

counts_less : (rs ss : List At) → counts_size (counts_of (minus rs ss)) ≤ counts_size (counts_of rs)
unfolding minus counts_of counts_size
counts_less [] ss = omega arith
counts_less (r ∷ rs) ss =
    let i = counts_less rs ss in
    lessened_cases (λ (l : List At). counts_size (counts_of (l ++ minus rs ss)) ≤ counts_size (counts_of (r ∷ rs))) ss r
    (omega arith) (λ n p. omega (arith, length_mono n r.bytes p))

pub bytes_less : (base : ℕ) (o : Option (List ℕ)) (rs ss : List At)
    → length (bytes_of (flags base o (minus rs ss))) ≤ length (bytes_of (flags base o rs))
bytes_less base o rs ss = omega (arith, length_bytes base o (minus rs ss), length_bytes base o rs, counts_less rs ss)
