-- Counting what is above 0 adds one for each such count, as `positives` does. Assumes nothing.
use Rattle.std.proofs.Common.{◌≡◌, ltb, refl, sym, ◌∙◌, rules}
use Rattle.std.specs.List.{count_by}
use Rattle.std.proofs.lemmas.List.Recursion.{is_sum_by}
use Rattle.totals_index_spec.specs.Inner.Judging.{one, positives}
use Rattle.totals_index_judging.proofs.judging.count_positives.Goals as goal

pub returns : goal.returns
unfolding positives
returns c =
    let counts = c.args.counts.now in
    let counted : c.count.result ≡ count_by (ltb 0) counts = search rules in
    counted ∙ sym (is_sum_by positives (λ n. one (ltb 0 n)) refl (λ _ _. refl) counts)
