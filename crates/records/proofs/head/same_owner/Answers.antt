-- `==` of two owners and `same` both decide whether they are equal. Assumes nothing.
use Rattle.std.proofs.Common.{rules}
use Rattle.std.proofs.lemmas.Bool.Decides.{same_from_decides, Decides-eqb}
use Rattle.std.proofs.lemmas.Slice.Eq.{slice_eq-Decides, compares_Decides}
use Rattle.records_spec.specs.Flags.{same}
use Rattle.records.proofs.head.same_owner.Goals as goal

pub returns : goal.returns
unfolding same
returns c =
    same_from_decides _ _ (slice_eq-Decides Decides-eqb _ _ _ c.eq.ensures) (compares_Decides same (search rules) c.args.ours c.args.theirs)
