-- `listing::list_flags` meets its contract: what was read tells the text, which is written where it has room. Assumes nothing.
use Rattle.std.proofs.Common.{length, sym, ap, ◌∙◌, arith}
use Rattle.records_spec.proofs.Answers.{writing_short}
use Rattle.codec_spec.proofs.Writings.{put_written}
use Rattle.listing_spec.specs.Listed.{listed}
use Rattle.listing_spec.proofs.Bounds.{listed_read}
use Rattle.listing_spec.proofs.Shown.{telling}
use Rattle.listing.proofs.list_flags.Goals as goal

pub answer_len-requires : goal.answer_len-requires
answer_len-requires c =
    let a = c.args in
    let p = c.requires in
    (telling a.src.now _ _ a.epochs.now a.counts.now _ p.src_len_bound p.epochs_len c.deserialize-answered.ensures).held

pub returns-then-out-answer_len : goal.returns-then-out-answer_len
returns-then-out-answer_len c =
    let a = c.args in
    let p = c.requires in
    let t = telling a.src.now _ _ a.epochs.now a.counts.now _ p.src_len_bound p.epochs_len c.deserialize-answered.ensures in
    let text = listed_read a.src.now p.src_len_bound ∙ sym t.text in
    sym (writing_short (listed a.src.now) a.out.now (omega (arith, ap length text, c.answer_len.ensures)))

pub put_answer-requires-clause-listable : goal.put_answer-requires-clause-listable
put_answer-requires-clause-listable c =
    let a = c.args in
    let p = c.requires in
    (telling a.src.now _ _ a.epochs.now a.counts.now _ p.src_len_bound p.epochs_len c.deserialize-answered.ensures).held

pub returns : goal.returns
returns c =
    let a = c.args in
    let p = c.requires in
    let t = telling a.src.now _ _ a.epochs.now a.counts.now _ p.src_len_bound p.epochs_len c.deserialize-answered.ensures in
    let text = listed_read a.src.now p.src_len_bound ∙ sym t.text in
    rw text (put_written _ _ _ _ c.put_answer.ensures (omega (arith, c.answer_len.ensures)))
