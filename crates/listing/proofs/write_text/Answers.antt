-- `listing::write_text` meets its contract: the text has room, or it is refused. Assumes nothing.
use Rattle.std.proofs.Common.{sym, arith}
use Rattle.records_spec.proofs.Answers.{writing_short}
use Rattle.codec_spec.proofs.Writings.{put_written}
use Rattle.listing.proofs.write_text.Goals as goal

pub returns-then-out-text : goal.returns-then-out-text
returns-then-out-text c = sym (writing_short c.args.text.now c.args.out.now (omega arith))

pub returns : goal.returns
returns c = put_written _ c.args.out.now _ _ c.put_text.ensures (omega arith)
