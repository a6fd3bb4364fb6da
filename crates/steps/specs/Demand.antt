-- Demand 3 of document 00: its premises, and what it promises.
-- Assumes nothing.
use Rattle.std.specs.Prelude.{ℕ, ◌+◌, ◌-◌, ◌≤◌, ◌<◌, ◌≡◌, ◌⊎◌, true, false, List, [], ◌∷◌, ◌++◌, length}
use Rattle.std.specs.Prelude.{None}
use Rattle.fields_spec.specs.Varint.{largest}
use Rattle.records_spec.specs.Tables.{At, ◌⦂◌, over}
use Rattle.records_spec.specs.Flags.{multi, id_of, owner_of, flags_of, Held, proper}
use Rattle.codec_spec.specs.Bytes.{bytes_of}
use Rattle.rows_spec.specs.Rows.{row, Room}
use Rattle.records_spec.specs.Outcomes.{ok, after}
use Rattle.codec_spec.specs.Calls.{serialized}
use Rattle.steps.specs.History.{Edit, Step, add, remove, State, state, run, all_added, all_removed, refund_at}

-- ---- the premises of a step, f being the first flags

-- incoming flags are single-epoch (kind 0 or 2), with no owner or the one we have
pub record Single (f theirs : Held) : Type 0 where
  pub are_proper : proper theirs ≡ true
  pub kind_0_or_2 : multi theirs.head.kind ≡ false
  pub no_owner_or_ours : (owner_of theirs.head ≡ None) ⊎ (owner_of theirs.head ≡ owner_of f.head)

-- tables have room for the first records
pub record RecordRoom (f : Held) (x : Edit) : Type 0 where
  pub epochs_long : f.head.records ≤ length x.out.epochs
  pub counts_long : f.head.records ≤ length x.out.counts

-- an addition: incoming flags at e
pub record Adds (f : Held) (e : ℕ) (x : Edit) : Type 0 where
  pub single : Single f x.incoming
  pub at_e : x.incoming.head.base ≡ e
  pub record_room : RecordRoom f x

-- a removal: incoming flags above our base, at most 4,294,967,295 bytes, rows for one more
pub record Removes (f : Held) (x : Edit) : Type 0 where
  pub single : Single f x.incoming
  pub above_our_base : f.head.base < x.incoming.head.base
  pub at_most : x.amount ≤ largest
  pub record_room : RecordRoom f x
  pub row_room : Room (f.head.records + 1) x.row_tables

-- first come additions at e and removals, where the latest record held c at first, and A were added and R removed so far:
-- never more removed than added so far, and no count past 4,294,967,295
abbrev pub First : Held → ℕ → ℕ → ℕ → ℕ → List Step → Type 0
First f e c A R [] = Unit {0}
First f e c A R (add x ∷ xs) = Adds f e x × (c + (A + x.amount) - R ≤ largest) × First f e c (A + x.amount) R xs
First f e c A R (remove x ∷ xs) = Removes f x × (R + x.amount ≤ A) × First f e c A (R + x.amount) xs

-- then removals only
abbrev pub Then : Held → List Step → Type 0
Then f [] = Unit {0}
Then f (add x ∷ xs) = ⊥
Then f (remove x ∷ xs) = Removes f x × Then f xs

-- ---- the demand

-- canonical flags f whose latest record, at e, holds c bytes, 4 or more; the first steps, then the later ones; with A added and R removed,
-- one removal of R - A, which is from 0 to 4,294,967,295; and an output with room for the first flags
pub record Premises (f : Held) (e c : ℕ) (first later : List Step) (one : Edit) (out : List ℕ) : Type 0 where
  pub canonical : proper f ≡ true
  pub earlier : List At
  pub latest : (flags_of f).records ≡ earlier ++ (e ⦂ c ∷ [])
  pub four_or_more : 4 ≤ c
  pub first_steps : First f e c 0 0 first
  pub later_steps : Then f later
  pub not_below_0 : all_added first ≤ all_removed (first ++ later)
  pub one_amount : one.amount ≡ all_removed (first ++ later) - all_added first
  pub one_removal : Removes f one
  pub byte_room : length (bytes_of (flags_of f)) ≤ length out

-- no step is refused and no room is lacking, nor for the one removal; the final bytes are those of the one removal; and for each
-- identifier and epoch the sections of all removals sum to that removal's, plus A at e under our owner
pub record Refunds (f : Held) (e : ℕ) (first later : List Step) (one : Edit) (out : List ℕ) : Type 0 where
  pub final : State
  pub single : State
  pub bytes : List ℕ
  pub all_accepted : run (state f []) (first ++ later) ≡ ok final
  pub one_accepted : run (state f []) (remove one ∷ []) ≡ ok single
  pub final_bytes : serialized final.flags out ≡ after (ok (length bytes)) (over bytes out)
  pub one_bytes : serialized single.flags out ≡ after (ok (length bytes)) (over bytes out)
  pub sections_sum : (i : List ℕ) (d : ℕ)
      → refund_at i d final.rows ≡ refund_at i d (row (id_of (owner_of f.head)) e (all_added first) ∷ single.rows)
