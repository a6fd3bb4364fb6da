-- The two stores are the field's bytes, one after the other. Assumes nothing.
use Rattle.fields_spec.proofs.Bigs.{put_two}
use Rattle.fields.proofs.big.put_be16.Goals as goal

pub returns : goal.returns
returns c = rw c.to_be_bytes.ensures (put_two c.args.out.now c.args.at c.args.n)
