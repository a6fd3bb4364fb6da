-- Each store is a group of the varint, the last one where less than 128 is left: `Parts` says what is written and what is left, with its room.
-- Assumes nothing.
use Rattle.std.proofs.Common.{ℕ, ◌+◌, ◌/◌, ◌%◌, ◌≤◌, ◌<◌, List, length, set, refl, arith}
use Rattle.fields_spec.specs.Varint.{varint}
use Rattle.fields_spec.proofs.Varints.{length_pos}
use Rattle.fields_spec.proofs.Parts.{Parts, parts_start, parts_inside}
use Rattle.fields_spec.proofs.Putting.{putting_more, putting_last}
use Rattle.fields.proofs.varint.put_varint.Goals as goal

-- none to four groups are written, and there is room for what is left
module _ (out : List ℕ) (at count : ℕ) (room : at + length (varint count) ≤ length out) where
  none : Parts (varint count) at out (varint count) at out
  none = parts_start (varint count) at out

  abbrev out_one : List ℕ
  out_one = set out at (count % 128 + 128)

  one : 128 ≤ count → Parts (varint count) at out (varint (count / 128)) (at + 1) out_one
  one h = putting_more none (at + 1) (count / 128) h refl refl

  abbrev out_two : List ℕ
  out_two = set out_one (at + 1) (count / 128 % 128 + 128)

  two : 16384 ≤ count → Parts (varint count) at out (varint (count / 16384)) (at + 2) out_two
  two h = putting_more (one (omega arith)) (at + 2) (count / 16384) (omega arith) (omega arith) (omega arith)

  abbrev out_three : List ℕ
  out_three = set out_two (at + 2) (count / 16384 % 128 + 128)

  three : 2097152 ≤ count → Parts (varint count) at out (varint (count / 2097152)) (at + 3) out_three
  three h = putting_more (two (omega arith)) (at + 3) (count / 2097152) (omega arith) (omega arith) (omega arith)

  abbrev out_four : List ℕ
  out_four = set out_three (at + 3) (count / 2097152 % 128 + 128)

  four : 268435456 ≤ count → Parts (varint count) at out (varint (count / 268435456)) (at + 4) out_four
  four h = putting_more (three (omega arith)) (at + 4) (count / 268435456) (omega arith) (omega arith) (omega arith)

  first_in : at < length out
  first_in = parts_inside none (length_pos count) room

  second_in : 128 ≤ count → at + 1 < length out_one
  second_in h = parts_inside (one h) (length_pos (count / 128)) room

  third_in : 16384 ≤ count → at + 2 < length out_two
  third_in h = parts_inside (two h) (length_pos (count / 16384)) room

  fourth_in : 2097152 ≤ count → at + 3 < length out_three
  fourth_in h = parts_inside (three h) (length_pos (count / 2097152)) room

  fifth_in : 268435456 ≤ count → at + 4 < length out_four
  fifth_in h = parts_inside (four h) (length_pos (count / 268435456)) room

pub bounds-out-at : goal.bounds-out-at
bounds-out-at c = first_in c.args.out.now c.args.at c.args.count c.requires

pub returns-then-count-lt128 : goal.returns-then-count-lt128
returns-then-count-lt128 c =
    let a = c.args in
    putting_last (none a.out.now a.at a.count c.requires) _ c.if-count-lt128.true refl

pub bounds-out-at-2 : goal.bounds-out-at-2
bounds-out-at-2 c = first_in c.args.out.now c.args.at c.args.count c.requires

pub bounds-out-at-then-count-lt16384 : goal.bounds-out-at-then-count-lt16384
bounds-out-at-then-count-lt16384 c = second_in c.args.out.now c.args.at c.args.count c.requires c.if-count-lt128.false

pub returns-then-count-lt16384 : goal.returns-then-count-lt16384
returns-then-count-lt16384 c =
    let a = c.args in
    putting_last (one a.out.now a.at a.count c.requires c.if-count-lt128.false) _ (omega arith) (omega arith)

pub bounds-out-at-3 : goal.bounds-out-at-3
bounds-out-at-3 c = second_in c.args.out.now c.args.at c.args.count c.requires c.if-count-lt128.false

pub bounds-out-at-then-count-lt2097152 : goal.bounds-out-at-then-count-lt2097152
bounds-out-at-then-count-lt2097152 c = third_in c.args.out.now c.args.at c.args.count c.requires c.if-count-lt16384.false

pub returns-then-count-lt2097152 : goal.returns-then-count-lt2097152
returns-then-count-lt2097152 c =
    let a = c.args in
    putting_last (two a.out.now a.at a.count c.requires c.if-count-lt16384.false) _ (omega arith) (omega arith)

pub bounds-out-at-4 : goal.bounds-out-at-4
bounds-out-at-4 c = third_in c.args.out.now c.args.at c.args.count c.requires c.if-count-lt16384.false

pub bounds-out-at-then-count-lt268435456 : goal.bounds-out-at-then-count-lt268435456
bounds-out-at-then-count-lt268435456 c = fourth_in c.args.out.now c.args.at c.args.count c.requires c.if-count-lt2097152.false

pub returns-then-count-lt268435456 : goal.returns-then-count-lt268435456
returns-then-count-lt268435456 c =
    let a = c.args in
    putting_last (three a.out.now a.at a.count c.requires c.if-count-lt2097152.false) _ (omega arith) (omega arith)

pub bounds-out-at-5 : goal.bounds-out-at-5
bounds-out-at-5 c = fourth_in c.args.out.now c.args.at c.args.count c.requires c.if-count-lt2097152.false

pub bounds-out-at-6 : goal.bounds-out-at-6
bounds-out-at-6 c = fifth_in c.args.out.now c.args.at c.args.count c.requires c.if-count-lt268435456.false

pub returns : goal.returns
returns c =
    let a = c.args in
    putting_last (four a.out.now a.at a.count c.requires c.if-count-lt268435456.false) _ (omega arith) (omega arith)
