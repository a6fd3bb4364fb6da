-- Reading records in blocks: what one record answers, what a block holds, and what all leave in the lent tables.
-- Assumes nothing.
use Rattle.std.specs.Prelude.{ℕ, ◌+◌, ◌≤◌, ◌<◌, ◌≡◌, cond, List, length, take, drop, eqb}
use Rattle.std.specs.Prelude.{Option, None, Some, Result, Ok, Err}
use Rattle.std.proofs.lemmas.List.Edits.{sets}
use Rattle.records_spec.specs.Tables.{At, epochs_of, counts_of}
use Rattle.records_spec.specs.Inner.Tables.{Placed}
use Rattle.records_spec.specs.Answers.{room_for}
use Rattle.records_spec.specs.declared.refusal.Refusal.{Refusal}
use Rattle.records_spec.specs.declared.refusal.Refusal.TheVariants.{NoRoom, WrongSize}
use Rattle.codec_spec.specs.Reading.{Next, bad, good, fault_at, parse, records_in}
use Rattle.codec_spec.specs.declared.record.GotRecord.{GotRecord}
use Rattle.codec_spec.specs.declared.judging.Fault.{Fault}
use Rattle.codec_spec.specs.declared.blocks.Block.{Block}
use Rattle.records_spec.specs.declared.head.Kind.{Kind}
use Rattle.codec_spec.specs.Bytes.{head_size}

-- a record at a place, as reading answers it
abbrev pub got_of : ℕ → Next → Result GotRecord Fault
got_of at (bad r) = Err (fault_at r at)
got_of at (good r used) = Ok (record { epoch = r.epoch; count = r.bytes; next = at + used })

-- the first n records from the place at on, after one at the epoch prev, were put at the start of two tables; they end before the place
-- next, the last of them at the epoch last, and what is found behind them is what is left of all
pub record Taken (src : List ℕ) (at prev n next last : ℕ) (es cs es' cs' : List ℕ) : Type 0 where
  pub within : next ≤ length src
  pub gains : at + n ≤ next
  pub enough : n ≤ length (parse at 0 prev (drop at src)).records
  pub placed : Placed (take n (parse at 0 prev (drop at src)).records) 0 n es cs es' cs'
  pub fault_on : (parse at 0 prev (drop at src)).fault ≡ (parse next 0 last (drop next src)).fault
  pub records_on : drop n (parse at 0 prev (drop at src)).records ≡ (parse next 0 last (drop next src)).records

-- n records stand from the place at on, without a fault after one at the epoch before
pub record Sound (src : List ℕ) (at n : ℕ) : Type 0 where
  pub before : ℕ
  pub no_fault : (parse at 0 before (drop at src)).fault ≡ None
  pub all_there : length (parse at 0 before (drop at src)).records ≡ n

-- the most records of a block
abbrev pub block_records : ℕ
block_records = 64

-- a block that was read: its first fault, or its records, not too many and not none where bytes are left behind them
pub record Blocked (src : List ℕ) (at prev : ℕ) (b : Result Block Fault) (es cs es' cs' : List ℕ) : Type 0 where
  pub at_fault : (f : Fault) → b ≡ Err f → (parse at 0 prev (drop at src)).fault ≡ Some f
  pub taken : (x : Block) → b ≡ Ok x
      → Taken src at prev x.n x.next x.last es cs es' cs' × (x.next < length src → 1 ≤ x.n) × (x.n ≤ block_records)

-- all that reading records leaves: what it found, and the lent tables
pub record Filled : Type 0 where
  pub scan : Result ℕ Fault
  pub epochs : List ℕ
  pub counts : List ℕ

-- what the code found and left
abbrev pub filled : Result ℕ Fault → List ℕ → List ℕ → Filled
filled s es cs = record { scan = s; epochs = es; counts = cs }

-- records go to the tables from the place k on, where nothing is at fault and they have room there; the bytes end at end
abbrev pub filled_from : ℕ → ℕ → Option Fault → List At → List ℕ → List ℕ → Filled
filled_from end k (Some f) rs es cs = filled (Err f) es cs
filled_from end k None rs es cs =
    cond (room_for (k + length rs) (length es) (length cs))
    (filled (Ok (k + length rs)) (sets es k (epochs_of rs)) (sets cs k (counts_of rs)))
    (filled (Err (fault_at NoRoom end)) es cs)

-- the judgement of records whose bytes end at end
abbrev pub scan_of : ℕ → Option Fault → ℕ → Result ℕ Fault
scan_of end (Some f) n = Err f
scan_of end None n = cond (eqb n 0) (Err (fault_at WrongSize end)) (Ok n)

-- n records stand behind the head of flags of a kind, without a fault
pub record Complete (k : Kind) (src : List ℕ) (n : ℕ) : Type 0 where
  pub head_inside : head_size k ≤ length src
  pub no_fault : (records_in k src).fault ≡ None
  pub all_there : length (records_in k src).records ≡ n
