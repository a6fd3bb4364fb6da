-- The last byte is not 0 and the varint fits 32 bits, or one of the two is wrong. Assumes nothing.
use Rattle.std.proofs.Common.{⊎_elim, arith}
use Rattle.fields_spec.proofs.Endings.{ending_whole, ending_strange}
use Rattle.fields.proofs.varint.end_at.Goals.{else-last-ne0-via-then-last-ne0+else-last-lt-FIFTH_LIMIT, else-last-ne0-via-else-last-ne0}
use Rattle.fields.proofs.varint.end_at.Goals as goal

pub returns-then-last-lt-FIFTH_LIMIT : goal.returns-then-last-lt-FIFTH_LIMIT
returns-then-last-lt-FIFTH_LIMIT c = ending_whole c.requires (omega arith) c.if-last-lt-FIFTH_LIMIT.either

pub returns-else-last-ne0 : goal.returns-else-last-ne0
returns-else-last-ne0 c =
    let a = c.args in
    ending_strange c.requires (λ some small.
    elim c.else-last-ne0.branch [
      | else-last-ne0-via-then-last-ne0+else-last-lt-FIFTH_LIMIT w ↦
          ⊎_elim (λ h. (h.1, h.2)) (λ h. absurd (h.1 (omega arith))) w.if-last-lt-FIFTH_LIMIT.either
      | else-last-ne0-via-else-last-ne0 w ↦ absurd (omega arith)
    ])
