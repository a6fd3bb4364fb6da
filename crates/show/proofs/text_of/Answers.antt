-- `show::text_of` meets its contract: the text has room, so `list` counts it and does not refuse. Assumes nothing.
use Rattle.std.proofs.Common.{◌≡◌, refl, ℕ, ◌≤◌, List, arith, length, take, sym, ap}
use Rattle.std.specs.Prelude.{Result, Ok}
use Rattle.io.specs.Counts.{IsPrefixLen}
use Rattle.records_spec.specs.Tables.{over}
use Rattle.records_spec.specs.Answers.{writing}
use Rattle.records_spec.specs.Outcomes.{answered, after}
use Rattle.records_spec.specs.declared.refusal.Refusal.{Refusal}
use Rattle.records_spec.proofs.Tables.{over_first, over-holds}
use Rattle.records_spec.proofs.Answers.{writing_fits}
use Rattle.records_spec.proofs.Only.{left_only, answered_as, answered_back}
use Rattle.listing_spec.specs.Listed.{listed}
use Rattle.listing_spec.proofs.Bounds.{listed_fits}
use Rattle.show.proofs.text_of.Goals as goal

-- a text that has room is counted and written
written : (r : Result ℕ Refusal) (xs old new : List ℕ) → length xs ≤ length old → after (answered r) new ≡ writing xs old
    → (r ≡ Ok (length xs)) × (new ≡ over xs old)
written r xs old new fits e =
    left_only answered answered_as answered_back r (Ok (length xs)) new (over xs old) (writing xs old) e (sym (writing_fits xs old fits))

-- so it stands at the start
stands : (xs old new : List ℕ) → length xs ≤ length old → new ≡ over xs old → IsPrefixLen (length xs) new × (take (length xs) new ≡ xs)
stands xs old new fits e =
    let text : take (length xs) new ≡ xs = rw e (over_first xs old (length xs) refl) in
    let within : length xs ≤ length new = omega (arith, ap length e, over-holds xs old) in
    ((within, ap length (sym text)), text)

pub returns : goal.returns
returns c =
    let text = listed c.args.src.now in
    let fits : length text ≤ length c.args.out.now = omega (arith, listed_fits c.args.src.now (λ i. (c.type_inv.src i).fits), c.requires) in
    let w = written c.list.result text c.args.out.now c.list.new.out fits c.list.ensures in
    let n = rw w.0 at c.unwrap_or.ensures in
    let s = stands text c.args.out.now c.list.new.out fits w.1 in
    record { prefix_len = rw n s.0; out_value = rw n s.1 }
