-- `repair_reading::padded::capped_value` meets its contract. The loop's invariant: what the groups passed say, capped. Assumes nothing.
use Rattle.std.proofs.Common.{ℕ, ◌+◌, ◌-◌, ◌*◌, ◌%◌, ◌≡◌, length, drop, take, sym, ap, ◌∙◌, arith}
use Rattle.std.proofs.lemmas.Iterator.Consumers.{YieldsList-turn, YieldsList-end}
use Rattle.std.proofs.lemmas.Iterator.Adapters.{YieldsList-from_rev_slice}
use Rattle.std.proofs.lemmas.List.{length-reverse, length_push}
use Rattle.fields_spec.specs.Varint.{value}
use Rattle.repair_spec.specs.Inner.Steps.{count_capped}
use Rattle.repair_spec.proofs.Padding.{capped_turn, capped_none, group_from_back}
use Rattle.repair_reading.proofs.padded.capped_value.Goals as goal

pub loop-byte-init : goal.loop-byte-init
loop-byte-init c = let a = c.args in sym (capped_none (take (a.end - a.at) (drop a.at a.src.now)))

pub loop-byte-preserved : goal.loop-byte-preserved
loop-byte-preserved c =
    let a = c.args in
    let l = c.loop-byte in
    let byte : ℕ = c.in-Some.byte.now in
    let groups = take (a.end - a.at) (drop a.at a.src.now) in
    let turn = YieldsList-turn (YieldsList-from_rev_slice groups cc) l.yielded _ l.yielded_by _ _ c.in-Some.byte c.in-Some.is c.next.ensures.steps in
    let more = group_from_back groups (length l.yielded) byte turn in
    let after = value (drop (length groups - length l.yielded) groups) in
    rw (length_push l.yielded c.in-Some.byte)
    (c.cap-says.ensures ∙ ap (λ (n : ℕ). count_capped (n * 128 + byte % 128)) l.invariant ∙ capped_turn after (byte % 128)
    ∙ ap count_capped (sym more))

pub returns : goal.returns
returns c =
    let a = c.args in
    let l = c.loop-byte in
    let groups = take (a.end - a.at) (drop a.at a.src.now) in
    let end = YieldsList-end (YieldsList-from_rev_slice groups cc) l.yielded _ l.yielded_by _ _ c.in-None.is c.next.ensures.steps in
    let all : length groups - length l.yielded ≡ 0 = omega (arith, end, length-reverse groups) in
    l.invariant ∙ ap (λ (j : ℕ). count_capped (value (drop j groups))) all
