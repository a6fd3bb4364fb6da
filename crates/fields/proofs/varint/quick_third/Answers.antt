-- Where five bytes are there: both the third and the fourth have the top bit set, and the fifth is the last, or the varint ends with one of the
-- two: with the fourth where the third has the top bit set. Assumes nothing.
use Rattle.std.proofs.Common.{ℕ, ◌+◌, ◌-◌, ◌*◌, ◌%◌, ◌≤◌, ◌<◌, ◌≡◌, false, ◌&&◌, ltb, List, length, get_or, refl, arith}
use Rattle.std.proofs.lemmas.Bool.Decides.{nat_tests}
use Rattle.fields_spec.specs.Inner.Varints.{Begun}
use Rattle.fields_spec.proofs.Endings.{begun_below, begun_more, begun_ends}
use Rattle.fields.proofs.varint.quick_third.Goals.{then-third-gt127, else-third-gt127}
use Rattle.fields.proofs.varint.quick_third.Goals as goal

-- the third byte is passed, and the fourth is the last where not both have the top bit set
module _ (d : List ℕ) (at two : ℕ) (b : Begun d at 2 two) (long : 5 ≤ length d - at) (h : 127 < get_or d (at + 2) 0) where
  three : Begun d at 3 (two + get_or d (at + 2) 0 % 128 * 16384)
  three = begun_more b (omega arith) _ _ refl refl (omega arith)

  fourth_low : ltb 127 (get_or d (at + 2) 0) && ltb 127 (get_or d (at + 3) 0) ≡ false → get_or d (at + 3) 0 < 128
  fourth_low e = grind (arith, nat_tests)

pub overflow_add-three : goal.overflow_add-three
overflow_add-three c = omega (arith, begun_below c.requires.begun)

pub overflow_add-four : goal.overflow_add-four
overflow_add-four c = omega (arith, begun_below c.requires.begun)

pub overflow_add-result : goal.overflow_add-result
overflow_add-result c = omega (arith, begun_below c.requires.begun)

pub returns-in-1-to-15 : goal.returns-in-1-to-15
returns-in-1-to-15 c =
    let d = c.args.src.now in
    let at : ℕ = c.args.at in
    let b = c.requires.begun in
    let s = begun_below b in
    let h : (127 < get_or d (at + 2) 0) × (127 < get_or d (at + 3) 0) = grind (arith, nat_tests, c.if-third-fourth.true) in
    let four = begun_more (three d at c.args.two b c.if-src-at-lt5.false h.0) (omega arith) 4 _ refl refl (omega arith) in
    begun_ends four (omega arith) (omega arith) (omega arith) refl refl (omega arith) (omega arith)

pub overflow_add-result-else-last-eq0 : goal.overflow_add-result-else-last-eq0
overflow_add-result-else-last-eq0 c =
    let d = c.args.src.now in
    let b = c.requires.begun in
    let s = begun_below b in
    elim c.if-third-gt127.branch [
      | then-third-gt127 w ↦
          let low = fourth_low d c.args.at c.args.two b c.if-src-at-lt5.false w.if-third-gt127.true c.if-third-fourth.false in
          rw w.last-is (omega arith)
      | else-third-gt127 w ↦ rw w.last-is (omega arith)
    ]

pub returns-else-last-eq0 : goal.returns-else-last-eq0
returns-else-last-eq0 c =
    let d = c.args.src.now in
    let at : ℕ = c.args.at in
    let b = c.requires.begun in
    let s = begun_below b in
    elim c.if-third-gt127.branch [
      | then-third-gt127 w ↦
          let h = w.if-third-gt127.true in
          let low = fourth_low d at c.args.two b c.if-src-at-lt5.false h c.if-third-fourth.false in
          let some = rw w.last-is at c.if-last-eq0.false in
          let passed = three d at c.args.two b c.if-src-at-lt5.false h in
          rw w.last-is (begun_ends passed (omega arith) low (omega arith) refl refl (omega arith) (omega arith))
      | else-third-gt127 w ↦
          let some = rw w.last-is at c.if-last-eq0.false in
          rw w.last-is (begun_ends b (omega arith) (omega arith) (omega arith) (omega arith) refl (omega arith) (omega arith))
    ]
