-- Each turn asks the latest of the records that are left. Where nothing is left, or no record, all were visited. Assumes nothing.
use Rattle.std.proofs.Common.{◌-◌, min, length, ap, ◌∙◌, arith}
use Rattle.std.proofs.lemmas.Iterator.Consumers.{YieldsList-turn, YieldsList-end}
use Rattle.std.proofs.lemmas.Iterator.Adapters.{YieldsList-from_rev_slice}
use Rattle.std.proofs.lemmas.List.{length-reverse, length_push}
use Rattle.splitting_spec.specs.Sections.{minimum}
use Rattle.splitting_spec.proofs.Visiting.{visiting_start, visiting_step, visiting_none, visiting_end}
use Rattle.splitting.proofs.Backwards.{item_from_back}
use Rattle.splitting.proofs.giving.visit.Goals as goal

pub loop-count-init : goal.loop-count-init
loop-count-init c = record {
  j = length c.args.counts.now;
  turns = omega arith;
  visiting = visiting_start c.args.epochs.now c.args.counts.now c.args.amount c.requires;
}

pub loop-count-preserved : goal.loop-count-preserved
loop-count-preserved c =
    let cs = c.args.counts.now in
    let l = c.loop-count in
    let v = l.invariant in
    let turn = YieldsList-turn (YieldsList-from_rev_slice cs cc) l.yielded _ l.yielded_by _ _ c.in-Some.count c.in-Some.is c.next.ensures.steps in
    let item = item_from_back cs (length l.yielded) v.j c.in-Some.count.now v.turns turn in
    let given = c.gives-left.ensures ∙ ap (λ count. min l.left (count - minimum)) item.1 in
    record {
      j = v.j - 1;
      turns = omega (arith, length_push l.yielded c.in-Some.count);
      visiting = visiting_step v.visiting c.gives-left.result item.0 (omega arith) given;
    }

pub returns-in-None : goal.returns-in-None
returns-in-None c =
    let cs = c.args.counts.now in
    let l = c.loop-count in
    let end = YieldsList-end (YieldsList-from_rev_slice cs cc) l.yielded _ l.yielded_by _ _ c.in-None.is c.next.ensures.steps in
    visiting_end l.invariant.visiting (omega (arith, length-reverse cs))

pub returns-then-left-eq0 : goal.returns-then-left-eq0
returns-then-left-eq0 c = visiting_none c.loop-count.invariant.visiting c.if-left-eq0.true
