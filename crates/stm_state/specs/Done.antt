-- The states that workers reach, and what holds once they are done.
use Rattle.std.specs.Prelude.{◌≡◌, ◌<◌, ◌≤◌, ℕ, suc, true, List, length, map, Option, None, Some, slice_get, Ok, Err}
use Rattle.std.specs.Option.{option_map}
use Rattle.std.specs.FinMap.{get}
use Rattle.rv_ledger.specs.Key.{Storage}
use Rattle.rv_ledger.specs.Call.{Invocation}
use Rattle.rv_ledger.specs.declared.receipt.Receipt.{Receipt}
use Rattle.rv_step.specs.Moment.{Reply}
use Rattle.rv_step.specs.Chain.{AreFrom, borne_out}
use Rattle.rv_ledger.specs.Applied.{apply_writes}
use Rattle.rv_step.specs.Fold.{receipts_of, store_after}
use Rattle.mvmap.specs.Versions.{HasNoEstimate, entry_at}
use Rattle.mvmap.specs.Reading.{value_seen, reading}
use Rattle.stm_state.specs.declared.state.CallState.{CallState}
use Rattle.stm_state.specs.State.{State, start_state, call_at, is_done}
use Rattle.stm_state.specs.Steps.{Block, Step, Limit, worker_step}

-- some list of worker steps leads from the start state of a block to this state
pub data Reached (block : Block) (workers : ℕ) : State → Type 0 where
  started : Reached block workers (start_state block.count workers)
  stepped : {s t : State} (w : ℕ) (step : Step) → Reached block workers s → w < workers → worker_step block w step s ≡ Some (Ok t) → Reached block workers t

-- some list of worker steps leads to a state in which a worker's step is refused for this limit
pub record MeetsLimit (block : Block) (workers : ℕ) (limit : Limit) : Type 0 where
  pub state : State
  pub reached : Reached block workers state
  pub worker : ℕ
  pub within : worker < workers
  pub step : Step
  pub refused : worker_step block worker step state ≡ Some (Err limit)

-- the receipt of a call's last recorded run
abbrev pub last_receipt : CallState → Option Receipt
last_receipt call = option_map (λ run. run.receipt) call.last

-- the result is that of running the calls one after another. `before` gives the storage before each call, and `receipt` gives its
-- receipt, which answers of that storage bear out. The storage after a call is the one before it with the receipt's writes
-- applied
pub record IsSerial (block : Block) (s : State) : Type 0 where
  pub before : ℕ → Storage
  pub receipt : ℕ → Receipt
  pub first : before 0 ≡ block.base
  pub has : (i : ℕ) → i < block.count → last_receipt (call_at s i) ≡ Some (receipt i)
  pub ends : (i : ℕ) → i < block.count → (replies : List Reply) × AreFrom (before i) replies × (block.borne_out i replies ≡ Some (receipt i))
  pub next : (i : ℕ) → i < block.count → before (suc i) ≡ apply_writes (before i) (receipt i).writes
  pub last : (key : List ℕ) → value_seen (get block.base key) (reading s.versions key block.count) ≡ get (before block.count) key

-- no call past the last one has an entry, and no entry is an estimate
abbrev pub HasVersionsAlone : Block → State → Type 0
HasVersionsAlone block s = ((key : List ℕ) (w : ℕ) → block.count ≤ w → entry_at s.versions key w ≡ None) × HasNoEstimate s.versions

-- once workers are done, only calls of the block have entries, and no entry is an estimate
abbrev pub DoneHasVersionsAlone : Type 0
DoneHasVersionsAlone = (block : Block) (workers : ℕ) (s : State) → Reached block workers s → is_done s ≡ true → HasVersionsAlone block s

-- once workers are done, the result is that of running the calls one after another
abbrev pub DoneIsSerial : Type 0
DoneIsSerial = (block : Block) (workers : ℕ) (s : State) → Reached block workers s → is_done s ≡ true → IsSerial block s

-- the receipt of a call that replies bear out, or None
abbrev pub borne_out_by : Option Invocation → List Reply → Option Receipt
borne_out_by None replies = None
borne_out_by (Some call) replies = borne_out call replies

-- the block of some calls on a storage
abbrev pub block_of : List Invocation → Storage → Block
block_of calls store = record { count = length calls; base = store; borne_out = λ i replies. borne_out_by (slice_get calls i) replies }

-- once workers are done with a job, the receipts and the storage are those of running its calls one after another
abbrev pub DoneIsInOrder : Type 0
DoneIsInOrder = (calls : List Invocation) (store : Storage) (workers : ℕ) (s : State) → Reached (block_of calls store) workers s → is_done s ≡ true
    → (map last_receipt s.calls ≡ map Some (receipts_of calls store)) × ((key : List ℕ) → value_seen (get store key) (reading s.versions key (length calls)) ≡ get (store_after calls store) key)
