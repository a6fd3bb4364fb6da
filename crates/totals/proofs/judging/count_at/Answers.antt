-- Under the same owner it is the record's count, and else 0. Assumes nothing.
use Rattle.std.proofs.Common.{◌≡◌, true, false, ap, sym, ◌∙◌, rules}
use Rattle.std.proofs.lemmas.Bool.Decides.{same_from_decides, Decides-eqb}
use Rattle.std.proofs.lemmas.Slice.Eq.{slice_eq-Decides, compares_Decides}
use Rattle.records_spec.specs.Flags.{same}
use Rattle.records_spec.specs.declared.table.Spot.{Spot}
use Rattle.totals_spec.proofs.UnderOwner.{total_of}
use Rattle.totals.proofs.judging.count_at.Goals as goal

pub returns-then-eq : goal.returns-then-eq
unfolding same
returns-then-eq c =
    let a = c.args in
    let s : c.eq.result ≡ same a.records_owner a.owner =
    same_from_decides _ _ (slice_eq-Decides Decides-eqb _ _ _ c.eq.ensures) (compares_Decides same (search rules) a.records_owner a.owner) in
    c.from.ensures ∙ ap (λ (s : Spot). s.count) c.look_up.ensures ∙ sym (total_of true _ _ _ 0 _ (sym c.if-eq.true ∙ s))

pub returns-else-eq : goal.returns-else-eq
unfolding same
returns-else-eq c =
    let a = c.args in
    let s : c.eq.result ≡ same a.records_owner a.owner =
    same_from_decides _ _ (slice_eq-Decides Decides-eqb _ _ _ c.eq.ensures) (compares_Decides same (search rules) a.records_owner a.owner) in
    sym (total_of false _ _ _ 0 _ (sym c.if-eq.false ∙ s))
