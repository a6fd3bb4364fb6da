-- Rows stand as the tuples of their words and epochs: the first numbers that differ decide. Assumes nothing.
use Rattle.std.proofs.Common.{◌≡◌, ℕ, Bool, ltb, refl, arith}
use Rattle.std.specs.Prelude.{Option, Some, None}
use Rattle.std.specs.declared.cmp.Ordering.{Ordering}
use Rattle.std.specs.declared.cmp.Ordering.TheVariants.{Less, Equal, Greater}
use Rattle.std.specs.Ordering.{nat_cmp, partial_ordering_then, is_some_and, is_lt}
use Rattle.std.proofs.lemmas.Bool.Decides.{nat_tests}
use Rattle.totals_spec.proofs.ByWords.{less_or, less_words}
use Rattle.totals_rows.proofs.words.is_less.Goals as goal

-- whether an order of two things says that the first is less
abbrev less : Option Ordering → Bool
less o = is_some_and is_lt o

-- an order, and where it says nothing the order of two numbers
abbrev next : Option Ordering → ℕ → ℕ → Option Ordering
next o x y = partial_ordering_then o (Some (nat_cmp x y))

then_assoc : (a b c : Option Ordering) → partial_ordering_then (partial_ordering_then a b) c ≡ partial_ordering_then a (partial_ordering_then b c)
then_assoc None b c = refl
then_assoc (Some Less) b c = refl
then_assoc (Some Equal) b c = refl
then_assoc (Some Greater) b c = refl

-- by the first numbers, and where these are equal by what comes next
less_then : (x y : ℕ) (o : Option Ordering) → less (partial_ordering_then (Some (nat_cmp x y)) o) ≡ less_or x y (less o)
less_then x y o = grind (arith, nat_tests)

less_last : (x y : ℕ) → less (Some (nat_cmp x y)) ≡ ltb x y
less_last x y = grind (arith, nat_tests)

-- four words, and then the epochs
by_words : (p q r s x k l m n y : ℕ)
    → less (next (next (next (next (Some (nat_cmp p k)) q l) r m) s n) x y) ≡ less_or p k (less_or q l (less_or r m (less_or s n (ltb x y))))
by_words p q r s x k l m n y = simp (then_assoc, less_then, less_last)

pub returns : goal.returns
returns c =
    let a = c.args in
    let told = by_words c.word.result c.word-2.result c.word-3.result c.word-4.result a.x
    c.word-5.result c.word-6.result c.word-7.result c.word-8.result a.y in
    let words = less_words a.a.now a.b.now (λ (i : ℕ). (c.type_inv.a i).fits) (λ (i : ℕ). (c.type_inv.b i).fits) a.x a.y c.requires.0 c.requires.1 in
    cc
