-- What stands at the place is the row that is looked up where owner and epoch are the same; else there is none. Assumes nothing.
use Rattle.std.proofs.Common.{◌≡◌, ℕ, ◌+◌, ◌<◌, [], get_or, refl, sym, ◌∙◌}
use Rattle.std.proofs.lemmas.Bool.{false≢true}
use Rattle.std.proofs.lemmas.Bool.Decides.{Decides-eqb}
use Rattle.std.proofs.lemmas.Slice.Eq.{slice_eq-Decides}
use Rattle.rows_spec.specs.Rows.{Row, row, compared, Tables, tables, row_at}
use Rattle.std.specs.declared.cmp.Ordering.{Ordering}
use Rattle.std.specs.declared.cmp.Ordering.TheVariants.{Less, Equal, Greater}
use Rattle.rows_spec.proofs.Comparing.{self_same, compared_same}
use Rattle.totals_spec.specs.Inner.Steps.{place_in, rows_between, spot_in, Standing}
use Rattle.totals_spec.proofs.Places.{spot_less, spot_equal, spot_greater, spot_end}
use Rattle.totals_rows.proofs.finding.look_up_row.Goals as goal
use Rattle.totals_rows.proofs.finding.look_up_row.Goals.{else-place-upto-via-then-place-upto+then-eq+else-epochs-place}
use Rattle.totals_rows.proofs.finding.look_up_row.Goals.{else-place-upto-via-then-place-upto+else-eq, else-place-upto-via-else-place-upto}

-- another row stands at the place
spot_other : {from upto : ℕ} {t : Tables} (s : Standing from upto t) (r : Row) (p : ℕ) → p ≡ from + place_in r (rows_between from upto t) → p < upto
    → (compared (row_at t p) r ≡ Equal → ⊥) → record { place = p; total = 0 } ≡ spot_in from r (rows_between from upto t)
spot_other {from} {upto} {t} s r p e h n = go (compared (row_at t p) r) refl
  where
    go : (o : Ordering) → compared (row_at t p) r ≡ o → record { place = p; total = 0 } ≡ spot_in from r (rows_between from upto t)
    go Less k = spot_less s r p e h k
    go Equal k = absurd (n k)
    go Greater k = spot_greater s r p e h k

pub returns-then-epochs-place : goal.returns-then-epochs-place
returns-then-epochs-place c =
    let a = c.args in
    let p = c.find_row-place.result in
    let r = row a.owner a.epoch 0 in
    let same : get_or a.owners.now p [] ≡ a.owner = (slice_eq-Decides Decides-eqb _ _ _ c.eq.ensures).0 c.if-eq.true in
    spot_equal c.requires r p c.find_row-place.ensures c.if-place-upto.true (rw (same, c.if-epochs-place.true) (self_same r))

pub returns-else-place-upto : goal.returns-else-place-upto
returns-else-place-upto c =
    let a = c.args in
    let p = c.find_row-place.result in
    let r = row a.owner a.epoch 0 in
    let there = row_at (tables a.owners.now a.epochs.now a.totals.now) p in
    let found = c.find_row-place.ensures in
    elim c.else-place-upto.branch [
      | else-place-upto-via-then-place-upto+then-eq+else-epochs-place w ↦
          spot_other c.requires r p found w.if-place-upto.true (λ k. w.if-epochs-place.false (compared_same there r k).1)
      | else-place-upto-via-then-place-upto+else-eq w ↦
          let eq = (slice_eq-Decides Decides-eqb there.identifier r.identifier w.eq.result w.eq.ensures).1 in
          spot_other c.requires r p found w.if-place-upto.true (λ k. false≢true (sym w.if-eq.false ∙ eq (compared_same there r k).0))
      | else-place-upto-via-else-place-upto w ↦ spot_end c.requires r p found w.if-place-upto.false
    ]
