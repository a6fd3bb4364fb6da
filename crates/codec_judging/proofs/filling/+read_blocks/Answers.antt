-- A block is read; where records are left behind it, the call for those gives what stands after its own. Assumes nothing.
use Rattle.std.proofs.Common.{refl, sym, ◌∙◌, ◌+◌, length, arith}
use Rattle.std.proofs.lemmas.Result.{err_from_is_err_and}
use Rattle.codec_spec.proofs.Stacking.{filled_faulty, filled_whole, filled_alike, taken_long, last_filled, stacked_room, stacked}
use Rattle.codec_spec.proofs.Taking.{taken_epochs, taken_counts}
use Rattle.codec_judging.proofs.filling.+read_blocks.Goals as goal

pub returns-in_err-block : goal.returns-in_err-block
returns-in_err-block t c =
    let a = c.args in
    let passed = err_from_is_err_and c.from_residual.result c.from_residual.ensures.1 in
    rw (passed.1, passed.2)
    (filled_faulty (length a.src.now) a.k _ a.epochs.now a.counts.now _ _ (c.in_err-block.ensures.at_fault _ refl))

pub place_last-requires-clause-n_in_bounds : goal.place_last-requires-clause-n_in_bounds
place_last-requires-clause-n_in_bounds t c =
    let b = c.in_ok-block.ensures.taken _ refl in
    (omega (arith, taken_epochs b.0, b.2), omega (arith, taken_counts b.0, b.2))

pub place_last-requires-clause-n_bound : goal.place_last-requires-clause-n_bound
place_last-requires-clause-n_bound t c =
    let b = c.in_ok-block.ensures.taken _ refl in
    omega (arith, b.0.gains, b.0.within, c.requires.0, c.well_formed)

pub returns-then-src-block : goal.returns-then-src-block
returns-then-src-block t c =
    let a = c.args in
    let b = c.in_ok-block.ensures.taken _ refl in
    c.place_last.ensures ∙ last_filled b.0 c.if-src-block.true a.k a.epochs.now a.counts.now b.2 b.2

pub overflow_add-k : goal.overflow_add-k
overflow_add-k t c =
    let b = c.in_ok-block.ensures.taken _ refl in
    omega (arith, b.0.gains, b.0.within, c.requires.0, c.well_formed)

pub read_blocks-requires : goal.read_blocks-requires
read_blocks-requires t c =
    let b = c.in_ok-block.ensures.taken _ refl in
    let l = b.1 c.if-src-block.false in (
      omega (arith, c.decreases, b.0.gains, b.0.within),
      (omega (arith, b.0.gains, c.requires.0), b.0.within, λ z. c.if-src-block.false),
    )

pub returns-in_err-all : goal.returns-in_err-all
returns-in_err-all t c =
    let a = c.args in
    let b = c.in_ok-block.ensures.taken _ refl in
    let passed = err_from_is_err_and c.from_residual-in_err-all.result c.from_residual-in_err-all.ensures.1 in
    rw (passed.1, passed.2)
    (filled_alike (length a.src.now) a.k (a.k + _) _ _ _ _ a.epochs.now a.counts.now _ _ _ _ (sym b.0.fault_on) (taken_long b.0 a.k) refl c.in_err-all.ensures)

pub copy_run-requires : goal.copy_run-requires
copy_run-requires t c =
    let a = c.args in
    let b = c.in_ok-block.ensures.taken _ refl in
    let w = filled_whole (length a.src.now) (a.k + _) _ a.epochs.now a.counts.now _ _ _ _ _ refl c.in_ok-all.ensures in
    let r = stacked_room b.0 a.k _ a.epochs.now a.counts.now _ _ w b.2 b.2 in
    record {
      end_in_bounds = (omega (arith, taken_epochs b.0, b.2), omega (arith, taken_counts b.0, b.2));
      room_from = record { in_epochs = r.0; in_counts = r.1 };
    }

pub returns : goal.returns
returns t c =
    let a = c.args in
    let b = c.in_ok-block.ensures.taken _ refl in
    let w = filled_whole (length a.src.now) (a.k + _) _ a.epochs.now a.counts.now _ _ _ _ _ refl c.in_ok-all.ensures in
    stacked b.0 a.k _ a.epochs.now a.counts.now _ _ w b.2 b.2 _ _ _ c.copy_run.ensures
