-- Flags that are written are read back, and bytes that are read are, byte for byte, those that would be written. So reading accepts
-- exactly the canonical encodings. Assumes nothing.
use Prim.Native.Nat.{ℕ, zero, suc, ◌+◌, ◌^◌, ◌≤◌, ◌<◌}
use native.Mathlib.Nat.{le_refl}
use native.Mathlib.Omega.{arith}
use mathlib.Core.Path.{◌≡◌, refl, sym, ap, ap₂, ◌∙◌}
use mathlib.Core.Bool.{Bool}
use Rattle.std.specs.Prelude.{Option, None, Some}
use Rattle.std.proofs.lemmas.Option.{none-some}
use mathlib.Core.List.{List, [], ◌∷◌, ◌++◌, append_assoc}
use lib.ListN.{length, take, drop, length-take, length-drop, length-append, take-append-drop}
use lib.Seq.{drop_at, take_at, take-add, get_or-drop}
use Rattle.fields_spec.specs.Big.{big, said}
use Rattle.fields_spec.specs.Varint.{largest, varint, found, whole}
use Rattle.fields_spec.proofs.Bigs.{length_big, said_big, big_said, said_below}
use Rattle.fields_spec.specs.Theorems.{Bytes}
use Rattle.fields_spec.proofs.RoundTrip.{found_back, found_inv, found_written}
use Rattle.records_spec.specs.Tables.{At}
use Rattle.records_spec.specs.Flags.{owned}
use Rattle.records_spec.specs.declared.head.Kind.{Kind}
use Rattle.codec_spec.specs.Bytes.{record_bytes, records_bytes, head_bytes, head_size}
use Rattle.codec_spec.specs.Reading.{Next, bad, good, next, Parsed, parse, with_count, base_in, owner_in}
use Rattle.codec_spec.specs.Theorems.{Canonical, OwnerFits, unowned, owner}
use Rattle.codec_spec.proofs.Parsing.{next_long, with_count_above, Good, next_good, parse_nil, parse_bad, parse_good, before}

-- ---- records

-- a written record is the next one read, whatever stands behind it
next_back : (prev : ℕ) (r : At) (ys : List ℕ) → prev < r.epoch → r.epoch < 65536 → r.bytes ≤ largest
    → next prev (record_bytes r ++ ys) ≡ good r (2 + length (varint r.bytes))
next_back prev r ys h he hc =
    let xs : List ℕ = record_bytes r ++ ys in
    let a : xs ≡ big 2 r.epoch ++ (varint r.bytes ++ ys) = append_assoc (big 2 r.epoch) (varint r.bytes) ys in
    let two = length_big 2 r.epoch in
    let l : 2 ≤ length xs = omega (arith, ap length a, length-append (big 2 r.epoch) (varint r.bytes ++ ys)) in
    let e : said (take 2 xs) ≡ r.epoch = ap (λ (l : List ℕ). said (take 2 l)) a
    ∙ ap said (take_at (big 2 r.epoch) (varint r.bytes ++ ys) 2 two) ∙ said_big 2 r.epoch he in
    let v : found (drop 2 xs) ≡ whole r.bytes (length (varint r.bytes)) =
    ap (λ (l : List ℕ). found (drop 2 l)) a ∙ ap found (drop_at (big 2 r.epoch) (varint r.bytes ++ ys) 2 two) ∙ found_back r.bytes ys hc in
    next_long prev xs l ∙ ap₂ (with_count prev) e v ∙ with_count_above prev r.epoch r.bytes (length (varint r.bytes)) h

pub records_back : (at prev : ℕ) (rs : List At) → Canonical prev rs → parse at 0 prev (records_bytes rs) ≡ record { fault = None; records = rs }
unfolding records_bytes
records_back at prev [] p = parse_nil at prev
records_back at prev (r ∷ rs) p =
    let n : ℕ = length (varint r.bytes) in
    let xs : List ℕ = record_bytes r ++ records_bytes rs in
    let l : length (record_bytes r) ≡ 2 + n = omega (arith, length-append (big 2 r.epoch) (varint r.bytes), length_big 2 r.epoch) in
    parse_good at prev xs r (2 + n) (omega (arith, length-append (record_bytes r) (records_bytes rs))) (omega arith)
    (next_back prev r (records_bytes rs) p.0 p.1 p.2)
    ∙ ap (λ (ys : List ℕ). before r (parse (at + (2 + n)) 0 r.epoch ys)) (drop_at (record_bytes r) (records_bytes rs) (2 + n) l)
    ∙ ap (before r) (records_back (at + (2 + n)) r.epoch rs p.3)

-- ---- and back

pub bytes_drop : (u : ℕ) (xs : List ℕ) → Bytes xs → Bytes (drop u xs)
bytes_drop u xs b i = rw get_or-drop (b (u + i))

-- of the first bytes too: past their end there are zeros
pub bytes_take : (u : ℕ) (xs : List ℕ) → Bytes xs → Bytes (take u xs)
bytes_take zero xs b i = omega arith
bytes_take (suc u) [] b i = omega arith
bytes_take (suc u) (x ∷ xs) b zero = b 0
bytes_take (suc u) (x ∷ xs) b (suc i) = bytes_take u xs (λ j. b (suc j)) i

-- a field that was read is the written one
pub field_back : (k : ℕ) (xs : List ℕ) → Bytes xs → k ≤ length xs → big k (said (take k xs)) ≡ take k xs
field_back k xs b h =
    let n : length (take k xs) ≡ k = length-take k xs ∙ omega arith in
    ap (λ (j : ℕ). big j (said (take k xs))) (sym n) ∙ big_said (take k xs) (bytes_take k xs b)

pub field_below : (k : ℕ) (xs : List ℕ) → Bytes xs → k ≤ length xs → said (take k xs) < 256 ^ k
field_below k xs b h =
    let n : length (take k xs) ≡ k = length-take k xs ∙ omega arith in
    rw n at (said_below (take k xs) (bytes_take k xs b))

-- a record that was read is a written one
next_written : (prev : ℕ) (xs : List ℕ) (r : At) (u : ℕ) → Bytes xs → Good prev xs r u → record_bytes r ++ drop u xs ≡ xs
next_written prev xs r u b g =
    let e : big 2 r.epoch ≡ take 2 xs = ap (big 2) g.epoch_is ∙ field_back 2 xs b (omega (arith, g.size, g.inside)) in
    let v : varint r.bytes ≡ take g.used (drop 2 xs) = found_written (drop 2 xs) r.bytes g.used (bytes_drop 2 xs b) g.count_is in
    ap (λ (l : List ℕ). l ++ drop u xs) (ap₂ (λ (x y : List ℕ). x ++ y) e v ∙ sym (take-add 2 g.used xs))
    ∙ ap (λ (j : ℕ). take (2 + g.used) xs ++ drop j xs) g.size
    ∙ take-append-drop (2 + g.used) xs

-- what was parsed without a fault
pub record Reread (at prev : ℕ) (xs : List ℕ) : Type 0 where
  pub same_bytes : records_bytes (parse at 0 prev xs).records ≡ xs
  pub canonical : Canonical prev (parse at 0 prev xs).records

reread_more : (at prev : ℕ) (xs : List ℕ) (r : At) (u : ℕ) → Bytes xs → 1 ≤ length xs → next prev xs ≡ good r u
    → Reread (at + u) r.epoch (drop u xs) → Reread at prev xs
unfolding records_bytes
reread_more at prev xs r u b h q later =
    let g = next_good prev xs r u q in
    let s : (parse at 0 prev xs).records ≡ r ∷ (parse (at + u) 0 r.epoch (drop u xs)).records =
    ap (λ (p : Parsed). p.records) (parse_good at prev xs r u h (omega (arith, g.size)) q) in
    let low : r.epoch < 65536 = rw g.epoch_is (field_below 2 xs b (omega (arith, g.size, g.inside))) in
    record {
      same_bytes = ap records_bytes s ∙ ap (λ (l : List ℕ). record_bytes r ++ l) later.same_bytes ∙ next_written prev xs r u b g;
      canonical = rw s (g.above, low, (found_inv (drop 2 xs) r.bytes g.used g.count_is).fits, later.canonical);
    }

reread_none : (at prev : ℕ) → Reread at prev []
unfolding records_bytes
reread_none at prev =
    record { same_bytes = ap (λ (p : Parsed). records_bytes p.records) (parse_nil at prev); canonical = rw (parse_nil at prev) tt }

reread : (n at prev : ℕ) (xs : List ℕ) → length xs ≤ n → Bytes xs → (parse at 0 prev xs).fault ≡ None → Reread at prev xs
reread zero at prev [] h b z = reread_none at prev
reread (suc n) at prev [] h b z = reread_none at prev
reread zero at prev (x ∷ xs) h b z = absurd (omega arith)
reread (suc n) at prev (x ∷ xs) h b z = by (next prev (x ∷ xs)) refl
    (λ r u k. reread n (at + u) r.epoch (drop u (x ∷ xs)) k (bytes_drop u (x ∷ xs) b))
  where
    by : (m : Next) → next prev (x ∷ xs) ≡ m
        → ((r : At) (u : ℕ) → length (drop u (x ∷ xs)) ≤ n → (parse (at + u) 0 r.epoch (drop u (x ∷ xs))).fault ≡ None
        → Reread (at + u) r.epoch (drop u (x ∷ xs)))
        → Reread at prev (x ∷ xs)
    by (bad r) q later = absurd (none-some _ (sym (sym (ap (λ (p : Parsed). p.fault) (parse_bad at prev (x ∷ xs) r (omega arith) q)) ∙ z)))
    by (good r u) q later =
        let g = next_good prev (x ∷ xs) r u q in
        let s = parse_good at prev (x ∷ xs) r u (omega arith) (omega (arith, g.size)) q in
        reread_more at prev (x ∷ xs) r u b (omega arith) q
        (later r u (omega (arith, length-drop u (x ∷ xs), g.size)) (sym (ap (λ (p : Parsed). p.fault) s) ∙ z))

pub records_reread : (at prev : ℕ) (xs : List ℕ) → Bytes xs → (parse at 0 prev xs).fault ≡ None → Reread at prev xs
records_reread at prev xs = reread (length xs) at prev xs (le_refl (length xs))

-- ---- what stands before the records

-- what reading finds behind byte 0, where the records' bytes are ys
pub record HeadIn (k : Kind) (xs : List ℕ) (o : Option (List ℕ)) (base : ℕ) (ys : List ℕ) : Type 0 where
  pub base_is : base_in k xs ≡ base
  pub owner_is : owner_in k xs ≡ o
  pub behind : drop (head_size k) xs ≡ ys
  pub long : length xs ≡ head_size k + length ys

-- a written head is the one that is read
pub head_back : (k : Kind) (b : Bool) (o : Option (List ℕ)) (base : ℕ) (ys : List ℕ) → owned k ≡ b → OwnerFits b o → base < 65536
    → HeadIn k (head_bytes k o base ++ ys) o base ys
head_back k b o base ys e unowned h =
    let two = length_big 2 base in
    let t : take 2 (big 2 base ++ ys) ≡ big 2 base = take_at (big 2 base) ys 2 two in
    record {
      base_is = rw e (ap said t ∙ said_big 2 base h);
      owner_is = rw e;
      behind = rw e (drop_at (big 2 base) ys 2 two);
      long = rw e (omega (arith, length-append (big 2 base) ys));
    }
head_back k b o base ys e (owner w n bs) h =
    let two = length_big 2 base in
    let a : (w ++ big 2 base) ++ ys ≡ w ++ (big 2 base ++ ys) = append_assoc w (big 2 base) ys in
    let d : drop 32 ((w ++ big 2 base) ++ ys) ≡ big 2 base ++ ys = ap (drop 32) a ∙ drop_at w (big 2 base ++ ys) 32 n in
    let l = length-append w (big 2 base) in
    record {
      base_is = rw e (ap (λ (x : List ℕ). said (take 2 x)) d ∙ ap said (take_at (big 2 base) ys 2 two) ∙ said_big 2 base h);
      owner_is = rw e (ap Some (ap (take 32) a ∙ take_at w (big 2 base ++ ys) 32 n));
      behind = rw e (drop_at (w ++ big 2 base) ys 34 (omega arith));
      long = rw e (omega (arith, length-append (w ++ big 2 base) ys));
    }
