-- Lines put one after another into a buffer, and chunks one after another: together they are the text of all lines. Assumes nothing.
use Prim.Native.Nat.{ℕ, ◌+◌, ◌*◌, ◌≤◌, ◌<◌}
use native.Mathlib.Omega.{arith}
use mathlib.Core.Path.{◌≡◌, refl, sym, ap, ◌∙◌}
use mathlib.Core.List.{List, [], ◌∷◌, ◌++◌, append-nil}
use lib.ListN.{length, take, drop, get_or, take-append-drop, drop_of_length-le}
use lib.Seq.{length-take-le, take-take, drop-append-le, take_all}
use Rattle.fields_spec.specs.Writing.{Put}
use Rattle.fields_spec.proofs.Parts.{parts_start, parts_put, parts_last, put_long}
use Rattle.repair_spec.specs.Changes.{Line, line}
use Rattle.change_lines_spec.specs.Text.{line_text, lines_text, change_of, lines_in}
use Rattle.change_lines_spec.specs.Inner.Chunks.{longest_line, lines_between, OneLine, Chunked}
use Rattle.change_lines_spec.proofs.Texts.{text_append, length_lines, lines_more}

-- the lines from the place from up to the place next are put, and take size bytes
pub record Putting (os cs : List ℕ) (from : ℕ) (old : List ℕ) (size next : ℕ) (new : List ℕ) : Type 0 where
  pub put : Put (lines_text (lines_between from next os cs)) 0 size old new
  pub begun : from ≤ next
  pub inside : next ≤ length os
  pub few : size + longest_line * from ≤ longest_line * next
  pub fits : size ≤ length new
  pub long : length new ≡ length old

module _ (os cs : List ℕ) (from : ℕ) (even : length os ≡ length cs) (h : from ≤ length os) where
  none_yet : lines_text (lines_between from from os cs) ≡ []
  unfolding lines_text
  none_yet = rw (drop_of_length-le (take from (lines_in os cs)) {i = from}
      (omega (arith, length-take-le from (lines_in os cs) (omega (arith, length_lines os cs even)))))

  pub putting_start : (old : List ℕ) → Putting os cs from old 0 from old
  putting_start old =
      record {
        put = rw none_yet (record { behind = refl; wrote = refl });
        begun = omega arith;
        inside = h;
        few = omega arith;
        fits = omega arith;
        long = refl;
      }

module _ {os cs : List ℕ} {from : ℕ} {old : List ℕ} {size next : ℕ} {new : List ℕ} (p : Putting os cs from old size next new) where
  module _ (even : length os ≡ length cs) (h : next < length os) where
    -- the text with one line more
    text_more : lines_text (lines_between from (next + 1) os cs)
        ≡ lines_text (lines_between from next os cs) ++ line_text (line (get_or os next 0) (change_of (get_or cs next 0)))
    unfolding lines_text
    text_more =
        let l = line (get_or os next 0) (change_of (get_or cs next 0)) in
        let n : length (take next (lines_in os cs)) ≡ next = length-take-le next (lines_in os cs) (omega (arith, length_lines os cs even)) in
        let e : lines_between from (next + 1) os cs ≡ lines_between from next os cs ++ (l ∷ []) =
        ap (drop from) (lines_more os cs next even h) ∙ drop-append-le from (take next (lines_in os cs)) (l ∷ []) (omega (arith, p.begun)) in
        ap lines_text e ∙ text_append (lines_between from next os cs) (l ∷ [])
        ∙ ap (λ (t : List ℕ). lines_text (lines_between from next os cs) ++ t) (append-nil (line_text l))

    -- one line more is put
    pub putting_line : {size' : ℕ} {new' : List ℕ} → size + longest_line ≤ length new
        → OneLine (line (get_or os next 0) (change_of (get_or cs next 0))) size size' new new' → Putting os cs from old size' (next + 1) new'
    putting_line {size'} {new'} room q =
        record {
          put = rw text_more (parts_last (parts_put (parts_start _ _ _) refl p.put) q.put);
          begun = omega (arith, p.begun);
          inside = omega arith;
          few = omega (arith, p.few, q.short);
          fits = omega (arith, q.short, put_long q.put);
          long = put_long q.put ∙ p.long;
        }

  -- no line may have room: one at least is put, since one has room in the whole
  pub putting_full : longest_line ≤ length old → length new < size + longest_line → Chunked os cs from (record { next = next; size = size }) old new
  putting_full r h =
      record { put = p.put; goes_on_lem = λ i. omega (arith, p.few, p.long); inside = p.inside; fits = p.fits }

  -- no line is left
  pub putting_all : length os ≤ next → Chunked os cs from (record { next = next; size = size }) old new
  putting_all h = record { put = p.put; goes_on_lem = λ i. omega arith; inside = p.inside; fits = p.fits }

-- ---- chunks

-- CHUNKS ARE ONE TEXT: that of the lines up to a place, and that of the lines from there on
pub chunks_join : (os cs : List ℕ) (i j k : ℕ) → length os ≡ length cs → i ≤ j → j ≤ k → k ≤ length os
    → lines_text (lines_between i j os cs) ++ lines_text (lines_between j k os cs) ≡ lines_text (lines_between i k os cs)
chunks_join os cs i j k even a b h =
    let ls = lines_in os cs in
    let n : length (take j ls) ≡ j = length-take-le j ls (omega (arith, length_lines os cs even)) in
    let e : take j ls ++ drop j (take k ls) ≡ take k ls =
    ap (λ (t : List Line). t ++ drop j (take k ls)) (sym (take-take j k ls b)) ∙ take-append-drop j (take k ls) in
    sym (text_append (lines_between i j os cs) (lines_between j k os cs))
    ∙ ap lines_text (sym (drop-append-le i (take j ls) (drop j (take k ls)) (omega arith)) ∙ ap (drop i) e)

-- from the first line up to the last one they are all lines
pub chunks_all : (os cs : List ℕ) → length os ≡ length cs → lines_between 0 (length os) os cs ≡ lines_in os cs
chunks_all os cs even = take_all (length os) (lines_in os cs) (omega (arith, length_lines os cs even))
