-- Lines ascend by offset: kind changed stands at 0, before all records, each record's lines at its own offset, and the cut behind all
-- records. Assumes nothing.
use Prim.Native.Nat.{ℕ, ◌+◌, ◌≤◌}
use native.Mathlib.Omega.{arith}
use mathlib.Core.Path.{◌≡◌}
use mathlib.Core.Bool.{Bool, true, false}
use Rattle.std.specs.Prelude.{Option, None, Some}
use mathlib.Core.List.{List, [], ◌∷◌, ◌++◌, append_assoc}
use Rattle.records_spec.specs.Tables.{At}
use Rattle.records_spec.specs.Flags.{multi}
use Rattle.records_spec.specs.Outcomes.{ok}
use Rattle.records_spec.specs.declared.head.Kind.{Kind}
use Rattle.codec_spec.specs.Bytes.{head_size}
use Rattle.codec_spec.specs.Reading.{base_in}
use Rattle.repair_spec.specs.Olds.{Old}
use Rattle.repair_spec.specs.Changes.{Line, line_if, again, some_above, dropped, record_lines, keeping, lines_after, cut_line}
use Rattle.repair_spec.specs.Repairing.{Repaired, olds_in, records_left, kind_line, lines_of, repaired}
use Rattle.repair_spec.specs.declared.change.Change.{Change}
use Rattle.repair_spec.specs.declared.change.Change.TheVariants.{ReEncoded, Moved, KindChanged}
use Rattle.repair_spec.specs.Theorems.{Chain, all_read, bytes_left, longer, Climbs}
use Rattle.repair_spec.proofs.Chains.{read_chain}
use Rattle.repair_spec.proofs.Fitting.{lines_on}
use Rattle.repair_spec.proofs.AnswerRead.{Answered, no_bytes, some_bytes, answered}

climbs_lower : (a b : ℕ) (ls : List Line) → a ≤ b → Climbs b ls → Climbs a ls
climbs_lower a b [] h p = tt
climbs_lower a b (l ∷ ls) h p = (omega (arith, p.0), p.1)

climbs_if : (b : Bool) (a n : ℕ) (c : Change) (ls : List Line) → a ≤ n → Climbs n ls → Climbs a (line_if b n c ++ ls)
climbs_if true a n c ls h p = (h, p)
climbs_if false a n c ls h p = climbs_lower a n ls h p

-- the lines of a record, before those behind its offset
climbs_record : (d : Option Change) (moved : Bool) (a : ℕ) (o : Old) (ls : List Line) → a ≤ o.offset → Climbs o.offset ls
    → Climbs a (record_lines d moved o ++ ls)
climbs_record (Some c) moved a o ls h p = (h, p)
climbs_record None moved a o ls h p =
    let n : ℕ = o.offset in
    rw (append_assoc (line_if (longer o) n ReEncoded) (line_if moved n Moved) ls)
    (climbs_if (longer o) a n ReEncoded (line_if moved n Moved ++ ls) h (climbs_if moved n n Moved ls (omega arith) p))

-- those of records one after another, and of the cut
pub chain_climbs : (k : Kind) (d : List ℕ) (base : ℕ) (before : List ℕ) (at : ℕ) (os : List Old) (c : Option ℕ) → Chain k d at os c
    → Climbs at (lines_after base before os ++ cut_line c)
unfolding lines_after
chain_climbs k d base before at [] c (all_read h) = tt
chain_climbs k d base before at [] c (bytes_left h q) = (omega arith, tt)
chain_climbs k d base before at (o ∷ os) c p =
    let x : Option Change = dropped base (again base o.epoch os) o in
    let moved : Bool = some_above o.epoch before in
    let behind : List ℕ = keeping x o before in
    let later : List Line = lines_after base behind os ++ cut_line c in
    let l = p.0 in
    rw (lines_on base before o os (cut_line c))
    (climbs_record x moved at o later (omega (arith, l.starts))
    (climbs_lower o.offset (at + o.size) later (omega (arith, l.starts)) (chain_climbs k d base behind (at + o.size) os c p.1)))

climbs_kind : (k : Kind) (rs : List At) (ls : List Line) → Climbs 0 ls → Climbs 0 (kind_line k rs ++ ls)
climbs_kind k [] ls p = climbs_if (multi k) 0 0 KindChanged ls (omega arith) p
climbs_kind k (r ∷ rs) ls p = p

-- LINES ASCEND BY OFFSET
pub lines_climb : (k : Kind) (xs : List ℕ) → Climbs 0 (lines_of k xs)
lines_climb k xs =
    let behind : List Line = lines_after (base_in k xs) [] (olds_in k xs).records ++ cut_line (olds_in k xs).cut in
    climbs_kind k (records_left k xs) behind
    (climbs_lower 0 (head_size k) behind (omega arith)
    (chain_climbs k xs (base_in k xs) [] (head_size k) (olds_in k xs).records (olds_in k xs).cut (read_chain k xs)))

-- so do those of every answer
pub answer_climbs : (xs : List ℕ) (r : Repaired) → repaired xs ≡ ok r → Climbs 0 r.lines
answer_climbs xs r e = by (answered xs r e)
  where
    by : Answered xs r → Climbs 0 r.lines
    by (no_bytes x q) = rw q tt
    by (some_bytes k a) = rw a.lines_are (lines_climb k xs)
