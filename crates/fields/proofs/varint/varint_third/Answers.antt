-- A whole varint goes on while its bytes have the top bit set (`whole_inside`), and each adds its group (`Begun`). The fifth byte is the last.
-- Assumes nothing.
use Rattle.std.proofs.Common.{ℕ, ◌+◌, ◌*◌, ◌%◌, ◌≤◌, ◌<◌, ◌≡◌, true, List, length, get_or, drop, refl, arith}
use Rattle.fields_spec.specs.Varint.{found}
use Rattle.fields_spec.specs.Inner.Varints.{Begun, is_whole}
use Rattle.fields_spec.proofs.Places.{whole_inside, fifth_whole}
use Rattle.fields_spec.proofs.Endings.{begun_below, begun_more, begun_whole}
use Rattle.fields.proofs.varint.varint_third.Goals as goal

-- the third and the fourth byte are passed
module _ (d : List ℕ) (at two : ℕ) (w : is_whole (found (drop at d)) ≡ true) (b : Begun d at 2 two) where
  third_inside : at + 2 < length d
  third_inside = whole_inside d at 2 b.passed w

  module _ (h : 128 ≤ get_or d (at + 2) 0) where
    three : Begun d at 3 (two + get_or d (at + 2) 0 % 128 * 16384)
    three = begun_more b third_inside _ _ refl refl h

    fourth_inside : at + 3 < length d
    fourth_inside = whole_inside d at 3 three.passed w

    module _ (i : 128 ≤ get_or d (at + 3) 0) where
      four : Begun d at 4 (two + get_or d (at + 2) 0 % 128 * 16384 + get_or d (at + 3) 0 % 128 * 2097152)
      four = begun_more three fourth_inside _ _ refl refl i

      fifth_inside : at + 4 < length d
      fifth_inside = whole_inside d at 4 four.passed w

pub bounds-src-at : goal.bounds-src-at
bounds-src-at c = third_inside c.args.src.now c.args.at c.args.two c.requires.src_value c.requires.begun

pub overflow_add-three : goal.overflow_add-three
overflow_add-three c = omega (arith, begun_below c.requires.begun)

pub returns-then-third-lt128 : goal.returns-then-third-lt128
returns-then-third-lt128 c =
    let a = c.args in
    let r = c.requires in
    begun_whole r.begun (third_inside a.src.now a.at a.two r.src_value r.begun) c.if-third-lt128.true (omega arith) (omega arith) refl r.src_value

pub bounds-src-at-2 : goal.bounds-src-at-2
bounds-src-at-2 c =
    fourth_inside c.args.src.now c.args.at c.args.two c.requires.src_value c.requires.begun c.if-third-lt128.false

pub overflow_add-four : goal.overflow_add-four
overflow_add-four c = omega (arith, begun_below c.requires.begun)

pub returns-then-fourth-lt128 : goal.returns-then-fourth-lt128
returns-then-fourth-lt128 c =
    let a = c.args in
    let r = c.requires in
    let h = c.if-third-lt128.false in
    begun_whole (three a.src.now a.at a.two r.src_value r.begun h) (fourth_inside a.src.now a.at a.two r.src_value r.begun h)
    c.if-fourth-lt128.true (omega arith) (omega arith) refl r.src_value

pub bounds-src-at-3 : goal.bounds-src-at-3
bounds-src-at-3 c =
    fifth_inside c.args.src.now c.args.at c.args.two c.requires.src_value c.requires.begun c.if-third-lt128.false c.if-fourth-lt128.false

pub overflow_add-result-2 : goal.overflow_add-result-2
overflow_add-result-2 c = omega (arith, begun_below c.requires.begun)

pub returns : goal.returns
returns c =
    let a = c.args in
    let r = c.requires in
    let h = c.if-third-lt128.false in
    let i = c.if-fourth-lt128.false in
    let b = four a.src.now a.at a.two r.src_value r.begun h i in
    let inside = fifth_inside a.src.now a.at a.two r.src_value r.begun h i in
    let last = fifth_whole a.src.now a.at 4 refl b.passed inside r.src_value in
    begun_whole b inside (omega arith) (omega arith) (omega arith) refl r.src_value
