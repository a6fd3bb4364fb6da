-- `totals_rows::words::word` meets its contract: four pairs of bytes, the highest first. Assumes nothing.
use native.Mathlib.Omega.{arith}
use Rattle.totals_spec.proofs.ByWords.{word_at_lem}
use Rattle.totals_rows.proofs.words.word.Goals as goal

pub returns : goal.returns
returns c =
    let a = c.args in
    let p = c.requires in
    word_at_lem a.id.now a.at _ _ _ _ (omega arith) c.be16_at-a.ensures c.be16_at-b.ensures
    c.be16_at-c.ensures c.be16_at-d.ensures
