-- What was judged decides, and then the room. Assumes nothing.
use Rattle.std.proofs.Common.{◌≡◌, ◌+◌, length, sym, ap, ◌∙◌, arith, Err}
use Rattle.std.specs.Prelude.{None}
use Rattle.std.proofs.lemmas.Result.{err_from_is_err_and}
use Rattle.records_spec.specs.Answers.{room_for}
use Rattle.codec_spec.specs.Reading.{Parsed}
use Rattle.codec_spec.specs.Inner.Blocks.{Sound, filled}
use Rattle.codec_spec.proofs.Parsing.{rest, rest_long}
use Rattle.codec_spec.proofs.Stacking.{filled_short, filled_all, sound_some, judged_faulty, judged_sound}
use Rattle.codec_judging.proofs.two_passes.read_twice.Goals as goal
use Rattle.codec_judging.proofs.two_passes.read_twice.Goals.{Start, In_ok-n, After-fit}

-- what there is from the place on
abbrev found : Start → Parsed
found c = rest c.args.src.now c.args.at c.args.prev

-- none is at fault, and there are so many
sound : (c : In_ok-n) → let f = rest c.args.src.now c.args.at c.args.prev in (f.fault ≡ None) × (c.in_ok-n.n ≡ length f.records)
sound c = judged_sound (length c.args.src.now) _ _ _ c.in_ok-n.ensures

abbrev so_many : (c : In_ok-n) → Sound c.args.src.now c.args.at c.in_ok-n.n
so_many c = record { before = c.args.prev; no_fault = (sound c).0; all_there = sym (sound c).1 }

pub returns-in_err-n : goal.returns-in_err-n
returns-in_err-n c =
    let a = c.args in
    let f = rest a.src.now a.at a.prev in
    let passed = err_from_is_err_and c.from_residual.result c.from_residual.ensures.1 in
    rw (passed.1, passed.2)
    (judged_faulty (length a.src.now) a.k f.fault f.records a.epochs.now a.counts.now _ (sound_some a.src.now a.at a.prev c.requires.k_le_at.1)
    c.in_err-n.ensures)

pub overflow_add-k : goal.overflow_add-k
overflow_add-k c =
    let a = c.args in
    let s = sound (goal.at.overflow_add-k c).In_ok-n in
    omega (arith, s.1, rest_long a.src.now a.at a.prev (omega (arith, c.requires.k_le_at)), c.requires.k_le_at)

pub fill_records-requires-clause-sound : goal.fill_records-requires-clause-sound
fill_records-requires-clause-sound c = so_many (goal.at.fill_records-requires-clause-sound c).In_ok-n

-- what `fit` told, of these records
told : (c : After-fit) → let a = c.args in
    room_for (a.k + length (rest a.src.now a.at a.prev).records) (length a.epochs.now) (length a.counts.now) ≡ c.fit.result
told c =
    let a = c.args in
    ap (λ n. room_for (a.k + n) (length a.epochs.now) (length a.counts.now)) (sym (sound (goal.at.After-fit c).In_ok-n).1) ∙ sym c.fit.ensures

pub returns-then-fit : goal.returns-then-fit
returns-then-fit c =
    let a = c.args in
    let known = (goal.at.returns-then-fit c).In_ok-n in
    let f = rest a.src.now a.at a.prev in
    let p = c.fill_records.ensures (so_many known) in
    filled_all (length a.src.now) a.k f.records a.epochs.now a.counts.now f.fault _ _ _ (sound known).0
    (told (goal.at.returns-then-fit c).After-fit ∙ c.if-fit.true) p.behind p.epochs_set p.counts_set

pub returns-else-fit : goal.returns-else-fit
returns-else-fit c =
    let a = c.args in
    let f = rest a.src.now a.at a.prev in
    ap (λ x. filled (Err x) a.epochs.now a.counts.now) c.fault.ensures
    ∙ filled_short (length a.src.now) a.k f.records a.epochs.now a.counts.now f.fault (sound (goal.at.returns-else-fit c).In_ok-n).0
    (told (goal.at.returns-else-fit c).After-fit ∙ c.if-fit.false)
