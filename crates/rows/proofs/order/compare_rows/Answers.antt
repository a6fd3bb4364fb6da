-- `compare_rows` answers by the identifiers, which have one length, and where these are equal by the epochs. Assumes nothing.
use Rattle.std.proofs.Common.{◌≡◌, get_or, Ordering, Less, Equal, Greater, sym, ap, ◌∙◌, rules}
use Rattle.std.specs.Ordering.{ordering_then, nat_cmp, MatchOrdering}
use Rattle.rows_spec.proofs.Comparing.{compared_then}
use Rattle.rows.proofs.order.compare_rows.Goals as goal

-- what `then_with` answers, where its closure answers s
then_is : (o s r : Ordering) → MatchOrdering o (r ≡ Less) (r ≡ s) (r ≡ Greater) → r ≡ ordering_then o s
then_is Less s r h = h
then_is Equal s r h = h
then_is Greater s r h = h

pub returns : goal.returns
returns c =
    let a = c.args in
    let s = nat_cmp (get_or a.epochs.now a.i 0) (get_or a.other_epochs.now a.j 0) in
    let h : MatchOrdering c.compare_ids.result (c.then_with.result ≡ Less) (c.then_with.result ≡ s) (c.then_with.result ≡ Greater) = search rules in
    let long = c.told-ids a.i c.requires.i_in_bounds.0 ∙ sym (c.told-other_ids a.j c.requires.j_in_bounds.0) in
    then_is _ _ _ h ∙ ap (λ (o : Ordering). ordering_then o s) c.compare_ids.ensures ∙ compared_then _ _ _ _ long
