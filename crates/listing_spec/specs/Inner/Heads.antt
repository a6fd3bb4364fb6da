-- The text of flags by their head and tables, and of what a call answered.
-- Assumes nothing.
use Rattle.std.specs.Prelude.{ℕ, ◌≤◌, List, ◌++◌, length, take, Option, None, Some, Result, Ok, Err}
use Rattle.records_spec.specs.Refusals.{number}
use Rattle.records_spec.specs.Tables.{records_of}
use Rattle.records_spec.specs.Flags.{type_byte, owner_of}
use Rattle.records_spec.specs.Outcomes.{refused}
use Rattle.records_spec.specs.declared.head.Head.{Head}
use Rattle.records_spec.specs.declared.refusal.Refusal.{Refusal}
use Rattle.listing_spec.specs.Text.{ascii, word_line, owner_line, record_texts}
use Rattle.listing_spec.specs.Listed.{record_places}

-- flags by their head and two tables that hold just their records
abbrev pub head_text : Head → List ℕ → List ℕ → List ℕ
head_text h es cs =
    word_line "kind " (type_byte h.kind)
    ++ (owner_line (owner_of h) ++ (word_line "base " h.base ++ (record_texts (records_of es cs) ++ word_line "records " (length es))))

-- what a reader answered, with the lent tables of flags
abbrev pub outcome_text : Result (Option Head) Refusal → List ℕ → List ℕ → List ℕ
outcome_text (Ok None) es cs = ascii "none\n"
outcome_text (Ok (Some h)) es cs = head_text h (take h.records es) (take h.records cs)
outcome_text (Err r) es cs = word_line "refused " (number r)

-- the tables hold the records of a head, and these are no more than have room
pub record Listable (h : Head) (es cs : List ℕ) : Type 0 where
  pub few : h.records ≤ record_places
  pub epochs_long : h.records ≤ length es
  pub counts_long : h.records ≤ length cs
