-- The union of two tables as the code finds it: as a merge of two lists, one step of it, and what stands around an epoch.
-- Assumes nothing.
use Rattle.std.specs.Prelude.{ℕ, suc, ◌+◌, ◌≤◌, ◌<◌, ◌≡◌, cond, List, [], ◌∷◌, ltb, eqb, length, drop}
use Rattle.records_spec.specs.Tables.{At, ◌⦂◌, records_of, place_of, held, union}
use Rattle.records_spec.specs.declared.table.NextRecord.{NextRecord}
use Rattle.records_spec.specs.declared.table.Spot.{Spot}

-- two rising lists merged from the front: the record with the lower epoch, and of two at one epoch the incoming one
unfoldable pub merged : List At → List At → List At
merged [] ts = ts
merged (o ∷ os) [] = o ∷ os
merged (o ∷ os) (t ∷ ts) =
    cond (ltb o.epoch t.epoch) (o ∷ merged os (t ∷ ts)) (cond (eqb o.epoch t.epoch) (t ∷ merged os ts) (t ∷ merged (o ∷ os) ts))

-- what stands around an epoch: how many records are below it, how many are at most there, and the count there
abbrev pub spot_of : ℕ → List ℕ → List ℕ → Spot
spot_of e es cs = record { below = place_of e es; upto = place_of (suc e) es; count = held e (records_of es cs) }

-- at places i and j of ours and theirs, which are not both at their ends
pub record InBoth (ours theirs : List At) (i j : ℕ) : Type 0 where
  pub ours_left : i ≤ length ours
  pub theirs_left : j ≤ length theirs
  pub some_left : i + j < length ours + length theirs

-- the next record of the union is r's, and r has the places behind it
pub record Stepped (ours theirs : List At) (i j : ℕ) (r : NextRecord) : Type 0 where
  pub step : union (drop i ours) (drop j theirs) ≡ r.epoch ⦂ r.count ∷ union (drop r.i ours) (drop r.j theirs)
  pub ours_next : r.i ≤ length ours
  pub theirs_next : r.j ≤ length theirs
  pub falls : i + j < r.i + r.j
