-- Each sentence of document 02 (vii) by an example: a table of totals, old and new flags, and what `replace` answers and leaves. By computation.
-- Assumes nothing.
use Prim.Native.Nat.{ℕ}
use mathlib.Core.Path.{◌≡◌, refl}
use mathlib.Core.Bool.{Bool, true, false, ◌&&◌}
use Rattle.std.specs.Prelude.{Option}
use mathlib.Core.List.{List, [], ◌∷◌, ◌++◌, map}
use lib.ListN.{length}
use Rattle.records_spec.specs.Tables.{At, ◌⦂◌, records_of, epochs_of, counts_of, ascending}
use Rattle.records_spec.specs.Flags.{Flags, zeros, proper, holding}
use Rattle.records_spec.specs.Outcomes.{refused, ok, leaving, after}
use Rattle.records_spec.specs.declared.head.Kind.{Kind}
use Rattle.records_spec.specs.declared.head.Kind.TheVariants.{SingleEpoch, MultiEpoch, SingleEpochOwned, MultiEpochOwned}
use Rattle.records_spec.specs.declared.head.Head.{Head}
use Rattle.rows_spec.specs.Order.{order}
use Rattle.rows_spec.specs.Rows.{Row, row, ascends, ids_of, parts_of, rows_under, Tables, tables, rows_of, proper_rows, over_rows}
use Rattle.totals_spec.specs.Table.{all_positive, total_at, put_total, add_counts, take_counts}
use Rattle.totals_spec.specs.Recount.{recount}
use Rattle.totals_spec.specs.Replacing.{covered, all_fit}
use Rattle.totals_spec.specs.Calls.{proper_table, given, proper_given, replacing, RowsAfter}

-- flags as the call is given them: whether they are absent or proper, and which they are
pub record GivenFlags : Type 0 where
  pub good : Bool
  pub flags : Option Flags

-- a number of rows, the table, old and new flags, and what is left
pub record Example : Type 0 where
  pub number : ℕ
  pub table : Tables
  pub old : GivenFlags
  pub new : GivenFlags
  pub left : RowsAfter

-- what the call leaves
abbrev made : Example → RowsAfter
made e = replacing e.number e.table (e.old.good && e.new.good) e.old.flags e.new.flags

-- flags with base 5, by kind, owner, number of records and their tables; present or not
abbrev lent : Bool → Kind → List ℕ → ℕ → List ℕ → List ℕ → GivenFlags
lent present k o n es cs =
    let h : Head = record { kind = k; base = 5; owner = o; records = n } in
    record { good = proper_given present (holding h es cs); flags = given present (holding h es cs) }

-- flags with records, and a place more in their tables
abbrev having : Kind → List ℕ → List At → GivenFlags
having k o rs = lent true k o (length rs) (epochs_of rs ++ (9 ∷ [])) (counts_of rs ++ (9 ∷ []))

-- flags under an owner of one byte
abbrev under : ℕ → List At → GivenFlags
under o = having MultiEpochOwned (o ∷ [])

-- flags without an owner: the owner's bytes are not read
abbrev unowned : List At → GivenFlags
unowned = having MultiEpoch (1 ∷ [])

-- absent flags: the head is not looked at
abbrev absent : GivenFlags
absent = lent false MultiEpoch [] 9 [] []

-- flags not proper: records of kind 0, none of kind 3, an epoch twice, one at the base, a table too short
abbrev wrong : List GivenFlags
wrong =
    having SingleEpoch [] (7 ⦂ 1 ∷ []) ∷ under 1 [] ∷ under 1 (7 ⦂ 1 ∷ 7 ⦂ 1 ∷ []) ∷ under 1 (5 ⦂ 1 ∷ [])
    ∷ lent true MultiEpoch [] 1 [] (1 ∷ []) ∷ lent true MultiEpoch [] 1 (7 ∷ []) [] ∷ []

-- a row under an owner of one byte
abbrev total : ℕ → ℕ → ℕ → Row
total o = row (o ∷ [])

-- a place that holds no row
abbrev spare : Row
spare = row [] 0 0

-- tables that hold rows, and nothing else
abbrev tables_of : List Row → Tables
tables_of rs = over_rows rs (tables [] [] [])

-- four rows by their totals, and a place more
abbrev four : ℕ → ℕ → ℕ → ℕ → List Row
four k l m n = row zeros 7 k ∷ total 1 7 l ∷ total 1 8 m ∷ total 2 7 n ∷ spare ∷ []

-- two rows, at epochs 7 and 9, and other places
abbrev two : List Row → List Row
two places = total 1 7 10 ∷ total 1 9 4 ∷ places

-- two places, but for one of the three tables
abbrev uneven : List Tables
uneven =
    tables ((1 ∷ []) ∷ []) (7 ∷ 8 ∷ []) (10 ∷ 4 ∷ [])
    ∷ tables ((1 ∷ []) ∷ (1 ∷ []) ∷ []) (7 ∷ []) (10 ∷ 4 ∷ [])
    ∷ tables ((1 ∷ []) ∷ (1 ∷ []) ∷ []) (7 ∷ 8 ∷ []) (10 ∷ [])
    ∷ []

-- an example by its parts
abbrev example : ℕ → Tables → GivenFlags → GivenFlags → (Tables → RowsAfter) → Example
example n t old new expected = record { number = n; table = t; old = old; new = new; left = expected t }

-- a number of rows is answered, and these are all places
abbrev gives : ℕ → List Row → Tables → RowsAfter
gives n places t = after (ok n) (tables_of places)

-- a refusal: no place has changed
abbrev refuses : ℕ → Tables → RowsAfter
refuses n t = after (refused n) t

-- four rows stay, and are these
abbrev stay : GivenFlags → GivenFlags → List Row → Example
stay old new places = example 4 (tables_of (four 9 10 4 5)) old new (gives 4 places)

-- three elements: an unowned one, one that may change, and one of owner 1
abbrev elements : GivenFlags → List (Option Flags)
elements f = map (λ (x : GivenFlags). x.flags) (unowned (7 ⦂ 3 ∷ []) ∷ f ∷ under 1 (7 ⦂ 2 ∷ 8 ⦂ 0 ∷ 9 ⦂ 4 ∷ []) ∷ [])

-- the second one replaced: the table has the old recount and a place more, and the new recount stands there
abbrev follows : GivenFlags → GivenFlags → Example
follows old new =
    let was = recount (elements old) in
    let is = recount (elements new) in
    example (length was) (tables_of (was ++ (spare ∷ []))) old new (λ (t : Tables). after (ok (length is)) (over_rows is t))

pub examples : List Example
examples =
    -- under one owner, at two epochs and at one; under two owners
    stay (under 1 (7 ⦂ 3 ∷ [])) (under 1 (8 ⦂ 2 ∷ [])) (four 9 7 6 5)
    ∷ stay (under 1 (7 ⦂ 3 ∷ [])) (under 1 (7 ⦂ 4 ∷ [])) (four 9 11 4 5)
    ∷ stay (under 1 (7 ⦂ 3 ∷ [])) (under 2 (7 ⦂ 2 ∷ [])) (four 9 7 4 7)
    -- the old ones unowned, the new ones, both
    ∷ stay (unowned (7 ⦂ 3 ∷ [])) (under 2 (7 ⦂ 2 ∷ [])) (four 6 10 4 7)
    ∷ stay (under 1 (7 ⦂ 3 ∷ [])) (unowned (7 ⦂ 2 ∷ [])) (four 11 7 4 5)
    ∷ stay (unowned (7 ⦂ 3 ∷ [])) (unowned (7 ⦂ 1 ∷ [])) (four 7 10 4 5)
    -- the old ones absent, the new ones, both
    ∷ stay absent (under 1 (7 ⦂ 1 ∷ 8 ⦂ 2 ∷ [])) (four 9 11 6 5)
    ∷ stay (under 1 (7 ⦂ 1 ∷ 8 ⦂ 2 ∷ [])) absent (four 9 9 2 5)
    ∷ stay absent absent (four 9 10 4 5)
    -- equal flags; kinds 0 and 2, which name no rows
    ∷ stay (under 1 (7 ⦂ 10 ∷ 8 ⦂ 4 ∷ [])) (under 1 (7 ⦂ 10 ∷ 8 ⦂ 4 ∷ [])) (four 9 10 4 5)
    ∷ stay (having SingleEpoch (1 ∷ []) []) (having SingleEpochOwned (1 ∷ []) []) (four 9 10 4 5)
    ∷ stay (having SingleEpochOwned (1 ∷ []) []) (under 1 (8 ⦂ 2 ∷ [])) (four 9 10 6 5)
    -- counts of 0 make no row and need none
    ∷ stay absent (under 1 (6 ⦂ 0 ∷ 7 ⦂ 0 ∷ [])) (four 9 10 4 5)
    ∷ stay (under 1 (6 ⦂ 0 ∷ 7 ⦂ 0 ∷ [])) absent (four 9 10 4 5)
    -- a total that reaches 0 loses its row: those behind move down, and the places behind them stay
    ∷ example 4 (tables_of (four 9 10 4 5)) (under 1 (7 ⦂ 10 ∷ [])) absent
    (gives 3 (row zeros 7 9 ∷ total 1 8 4 ∷ total 2 7 5 ∷ total 2 7 5 ∷ spare ∷ []))
    ∷ example 4 (tables_of (four 9 10 4 5)) (under 1 (7 ⦂ 10 ∷ 8 ⦂ 4 ∷ [])) (under 1 (7 ⦂ 0 ∷ []))
    (gives 2 (row zeros 7 9 ∷ total 2 7 5 ∷ total 1 8 4 ∷ total 2 7 5 ∷ spare ∷ []))
    ∷ example 1 (tables_of (total 1 7 10 ∷ [])) (under 1 (7 ⦂ 10 ∷ [])) absent (gives 0 (total 1 7 10 ∷ []))
    -- a new pair gets a row: at the front, in the middle, at the end, and where there were none
    ∷ example 2 (tables_of (two (spare ∷ spare ∷ []))) absent (unowned (9 ⦂ 1 ∷ [])) (gives 3 (row zeros 9 1 ∷ two (spare ∷ [])))
    ∷ example 2 (tables_of (two (spare ∷ spare ∷ []))) absent (under 1 (8 ⦂ 1 ∷ [])) (gives 3 (total 1 7 10 ∷ total 1 8 1 ∷ total 1 9 4 ∷ spare ∷ []))
    ∷ example 2 (tables_of (two (spare ∷ spare ∷ []))) absent (under 2 (6 ⦂ 1 ∷ [])) (gives 3 (two (total 2 6 1 ∷ spare ∷ [])))
    ∷ example 0 (tables_of (spare ∷ spare ∷ [])) absent (under 1 (7 ⦂ 1 ∷ [])) (gives 1 (total 1 7 1 ∷ spare ∷ []))
    -- 11: not ascending by owner, by epoch, a pair twice, a total 0; before 14
    ∷ example 2 (tables_of (total 2 7 1 ∷ total 1 8 1 ∷ [])) absent absent (refuses 11)
    ∷ example 2 (tables_of (total 1 8 1 ∷ total 1 7 1 ∷ [])) absent absent (refuses 11)
    ∷ example 2 (tables_of (total 1 7 1 ∷ total 1 7 2 ∷ [])) absent absent (refuses 11)
    ∷ example 2 (tables_of (total 1 7 1 ∷ total 1 8 0 ∷ [])) absent absent (refuses 11)
    ∷ example 2 (tables_of (total 1 7 1 ∷ total 1 7 2 ∷ [])) (under 1 (7 ⦂ 9 ∷ [])) absent (refuses 11)
    ∷ example 1 (tables_of (total 1 7 1 ∷ [])) (under 1 (7 ⦂ 9 ∷ [])) (under 1 []) (refuses 11)
    -- 14: a total less than the old count, also at the second record and where there is no row; before 6 and before 10
    ∷ example 2 (tables_of (two [])) (under 1 (7 ⦂ 11 ∷ [])) (under 1 (7 ⦂ 11 ∷ [])) (refuses 14)
    ∷ example 2 (tables_of (two [])) (under 1 (7 ⦂ 1 ∷ 9 ⦂ 5 ∷ [])) absent (refuses 14)
    ∷ example 2 (tables_of (two [])) (under 1 (8 ⦂ 1 ∷ [])) absent (refuses 14)
    ∷ example 2 (tables_of (total 1 7 10 ∷ total 2 7 18446744073709551615 ∷ [])) (under 1 (7 ⦂ 11 ∷ [])) (under 2 (7 ⦂ 1 ∷ [])) (refuses 14)
    ∷ example 2 (tables_of (two [])) (under 1 (7 ⦂ 11 ∷ [])) (under 1 (8 ⦂ 1 ∷ [])) (refuses 14)
    -- 6: at 2⁶⁴, and not one below; the old count is taken first, under its own owner; before 10
    ∷ example 1 (tables_of (total 1 7 18446744073709551615 ∷ [])) absent (under 1 (7 ⦂ 1 ∷ [])) (refuses 6)
    ∷ example 1 (tables_of (total 1 7 18446744073709551614 ∷ [])) absent (under 1 (7 ⦂ 1 ∷ [])) (gives 1 (total 1 7 18446744073709551615 ∷ []))
    ∷ example 1 (tables_of (total 1 7 18446744073709551615 ∷ [])) (under 1 (7 ⦂ 5 ∷ [])) (under 1 (7 ⦂ 5 ∷ []))
    (gives 1 (total 1 7 18446744073709551615 ∷ []))
    ∷ example 1 (tables_of (total 1 7 18446744073709551615 ∷ [])) (under 1 (7 ⦂ 5 ∷ [])) (under 1 (7 ⦂ 6 ∷ [])) (refuses 6)
    ∷ example 2 (tables_of (total 1 7 18446744073709551615 ∷ total 2 7 5 ∷ [])) (under 2 (7 ⦂ 5 ∷ [])) (under 1 (7 ⦂ 5 ∷ [])) (refuses 6)
    ∷ example 1 (tables_of (total 1 7 18446744073709551615 ∷ [])) absent (under 1 (7 ⦂ 1 ∷ 8 ⦂ 1 ∷ [])) (refuses 6)
    -- 10: exact room and one place less; a row that goes makes room
    ∷ example 2 (tables_of (two (spare ∷ []))) absent (under 1 (8 ⦂ 1 ∷ [])) (gives 3 (total 1 7 10 ∷ total 1 8 1 ∷ total 1 9 4 ∷ []))
    ∷ example 2 (tables_of (two [])) absent (under 1 (8 ⦂ 1 ∷ [])) (refuses 10)
    ∷ example 2 (tables_of (two [])) (under 1 (7 ⦂ 10 ∷ [])) (under 2 (7 ⦂ 1 ∷ [])) (gives 2 (total 1 9 4 ∷ total 2 7 1 ∷ []))
    -- the table follows the recount: the second element absent at first, then with a pair of the third, then under another owner
    ∷ follows absent (under 1 (7 ⦂ 5 ∷ []))
    ∷ follows (under 1 (7 ⦂ 5 ∷ [])) (under 2 (7 ⦂ 1 ∷ []))
    ∷ follows (under 2 (7 ⦂ 1 ∷ [])) absent
    -- 11 for flags that are not proper, old and new, and for rows past one of the three tables; 10 where one of these lacks a place
    ∷ (map (λ (f : GivenFlags). example 4 (tables_of (four 9 10 4 5)) f absent (refuses 11)) wrong
    ++ (map (λ (f : GivenFlags). example 4 (tables_of (four 9 10 4 5)) absent f (refuses 11)) wrong
    ++ (map (λ (t : Tables). example 2 t absent absent (refuses 11)) uneven
    ++ map (λ (t : Tables). example 1 t absent (under 1 (8 ⦂ 1 ∷ [])) (refuses 10)) uneven)))

pub marked : map made examples ≡ map (λ (e : Example). e.left) examples
unfolding examples recount replacing leaving proper_table proper_rows all_positive proper ascending records_of epochs_of counts_of ids_of parts_of rows_of
    rows_under ascends order covered all_fit total_at put_total add_counts take_counts
marked = refl

-- the recount of the three: the second absent, and with a pair of the third
pub recounted : map (λ (f : GivenFlags). recount (elements f)) (absent ∷ under 1 (7 ⦂ 5 ∷ []) ∷ [])
    ≡ (row zeros 7 3 ∷ total 1 7 2 ∷ total 1 9 4 ∷ []) ∷ (row zeros 7 3 ∷ total 1 7 7 ∷ total 1 9 4 ∷ []) ∷ []
unfolding recount records_of epochs_of counts_of rows_under order total_at put_total add_counts
recounted = refl
