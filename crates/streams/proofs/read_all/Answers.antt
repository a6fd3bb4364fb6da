-- What a turn reads stands behind what was read before, and is what the reader has lost. Assumes nothing.
use Rattle.std.proofs.Common.{◌≡◌, ℕ, zero, suc, ◌+◌, ◌-◌, ◌≤◌, List, ◌++◌, length, take, arith, ap, ◌∙◌, length-take-le}
use Rattle.std.specs.Prelude.{Some, Result, Ok, Err}
use Rattle.std.proofs.Math.Seq.{take-append-add}
use Rattle.std.proofs.lemmas.List.{take-append-le}
use Rattle.std.proofs.KnownBytes.{Consumes-trans}
use borrow.Rule.Slice.PartMut.{put_mid, post_of}
use Rattle.streams.specs.Reading.{meaning}
use Rattle.streams.proofs.read_all.Goals as goal

-- a read whose answer means some bytes has brought as many
brought : {E : Type 0} (r : Result ℕ E) (n : ℕ) → meaning r ≡ Ok (Some n) → r ≡ Ok n
brought (Err e) n h = cc
brought (Ok zero) n h = cc
brought (Ok (suc k)) n h = cc

-- the start of what was lent, up to behind the first n bytes that were put at a
put_behind : (a k n : ℕ) (xs ys : List ℕ) → a ≤ length xs → n ≤ length ys → take (a + n) (put_mid a k xs ys) ≡ take a xs ++ take n ys
put_behind a k n xs ys within fits =
    let front = take a xs in
    let same : length front + n ≡ a + n = omega (arith, length-take-le a xs within) in
    rw (← same) (take-append-add front (ys ++ post_of a k xs) n ∙ ap (λ l. front ++ l) (take-append-le n ys _ fits))

pub loop-done-preserved : goal.loop-done-preserved
loop-done-preserved g c =
    let before = c.loop-done in
    let n = c.in-Some.got in
    let answer = brought c.read.result n cc in
    let fits = rw answer at c.read.ensures.bound in
    let lost = rw answer at c.read.ensures.bytes in
    let behind = put_behind before.done (length before.buf - before.done) n before.buf c.read.new.buf before.invariant.within fits.0 in
    record { within = omega arith; read = rw behind (Consumes-trans _ _ _ _ _ before.invariant.read lost.0) }
