-- There are rows, and the identifier of each is this: `only_ids`. Assumes nothing.
use Rattle.std.proofs.Common.{rules, tests, ◌∙◌, take, sym}
use Rattle.std.proofs.lemmas.Iterator.{YieldsList-from_slice}
use Rattle.std.proofs.lemmas.Iterator.Search.{all_from_yields_List}
use Rattle.records_spec.specs.Flags.{same}
use Rattle.removal_spec.proofs.Under.{only_ids}
use Rattle.removal.proofs.sections.only_under.Goals as goal

pub returns-then-n-gt0 : goal.returns-then-n-gt0
returns-then-n-gt0 c =
    let a = c.args in
    all_from_yields_List (λ x. same x a.id) _ _ c.all.result c.all.ensures.ran (YieldsList-from_slice (take a.n a.ids.now) cc)
    (λ x b q k. search (rules, tests))
    ∙ sym (only_ids c.requires c.if-n-gt0.true a.id)
