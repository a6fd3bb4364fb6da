-- A record stands where fewer are below the epoch than at most there. Assumes nothing.
use Rattle.std.proofs.Common.{◌∙◌}
use Rattle.removal_spec.proofs.Finding.{spot_found}
use Rattle.removal.proofs.sections.find_at.Goals as goal

pub returns : goal.returns
returns c =
    c.then_some.ensures ∙ spot_found c.requires c.args.epoch c.look_up-spot.result c.look_up-spot.ensures
