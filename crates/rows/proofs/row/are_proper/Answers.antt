-- `are_proper` meets its contract: the rows are proper where those from the one before the place on ascend. Assumes nothing.
use Rattle.std.proofs.Common.{◌≡◌, ℕ, ◌+◌, ◌-◌, ◌&&◌, Bool, drop, is_lt, sym, ap, ◌∙◌, arith}
use Rattle.rows_spec.specs.Rows.{tables, rows_in, ascends}
use Rattle.rows_spec.proofs.Rows.{room_in_lem, proper_room, proper_short, asc_next, asc_last}
use Rattle.rows.proofs.row.are_proper.Goals as goal

pub returns-then-not-rows_fit : goal.returns-then-not-rows_fit
returns-then-not-rows_fit c =
    let a = c.args in
    sym (proper_short a.n (tables a.ids.now a.epochs.now a.bytes.now) (sym c.rows_fit.ensures ∙ c.if-not-rows_fit.true))

pub loop-i-init : goal.loop-i-init
loop-i-init c =
    let a = c.args in
    let r = room_in_lem a.n (tables a.ids.now a.epochs.now a.bytes.now) (sym c.rows_fit.ensures ∙ c.if-not-rows_fit.false) in
    record { room = r; behind = proper_room r }

pub returns-then-not-is_lt : goal.returns-then-not-is_lt
returns-then-not-is_lt c =
    let l = c.loop-i in
    let a = c.args in
    let rest = ascends (drop l.i (rows_in a.n (tables a.ids.now a.epochs.now a.bytes.now))) in
    let not_less = sym (ap is_lt c.compare_rows.ensures) ∙ sym c.is_lt.ensures ∙ c.if-not-is_lt.true in
    sym (l.invariant.behind ∙ asc_next l.invariant.room l.i (omega arith) (omega arith) ∙ ap (λ (b : Bool). b && rest) not_less)

pub loop-i-preserved : goal.loop-i-preserved
loop-i-preserved c =
    let l = c.loop-i in
    let a = c.args in
    let rest = ascends (drop l.i (rows_in a.n (tables a.ids.now a.epochs.now a.bytes.now))) in
    let less = sym (ap is_lt c.compare_rows.ensures) ∙ sym c.is_lt.ensures ∙ c.if-not-is_lt.false in
    let e : l.i ≡ l.i + 1 - 1 = omega arith in
    record {
      room = l.invariant.room;
      behind = l.invariant.behind ∙ asc_next l.invariant.room l.i (omega arith) (omega arith) ∙ ap (λ (b : Bool). b && rest) less
          ∙ ap (λ (k : ℕ). ascends (drop k (rows_in a.n (tables a.ids.now a.epochs.now a.bytes.now)))) e;
    }

pub returns : goal.returns
returns c =
    let l = c.loop-i in
    sym (l.invariant.behind ∙ asc_last l.invariant.room (l.i - 1) (omega arith))
