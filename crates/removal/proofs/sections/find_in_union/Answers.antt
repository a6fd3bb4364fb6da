-- Theirs stands, or ours is looked for: `found_union`. Assumes nothing.
use Rattle.std.proofs.Common.{◌≡◌, ℕ, Option, Some, None, MatchOption, rules, ap, ◌∙◌}
use Rattle.std.specs.Option.{option_or}
use Rattle.records_spec.specs.Tables.{records_of}
use Rattle.removal_spec.specs.Inner.Findings.{standing_at}
use Rattle.removal_spec.proofs.Finding.{found_union}
use Rattle.removal.proofs.sections.find_in_union.Goals as goal

-- `or_else` gives the other where there is none
either : {P : Type 0} (x y r : Option ℕ) → MatchOption x P (λ n. r ≡ Some n) → (P → r ≡ y) → r ≡ option_or x y
either None y r h f = f h
either (Some n) y r h f = h

pub returns : goal.returns
returns c =
    let a = c.args in
    let ours = records_of a.our_epochs.now a.our_counts.now in
    let theirs = records_of a.their_epochs.now a.their_counts.now in
    either c.find_at.result (standing_at a.epoch ours) _ c.or_else.ensures (λ h. search rules)
    ∙ ap (λ (x : Option ℕ). option_or x (standing_at a.epoch ours)) c.find_at.ensures
    ∙ found_union a.epoch ours theirs
