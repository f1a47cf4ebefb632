-- What one worker does on a job, counted in steps.
use Rattle.std.specs.Prelude.{◌≡◌, ◌≢◌, ◌<◌, ◌≤◌, ◌+◌, ◌-◌, ◌*◌, ℕ, true, List, [], ◌∷◌, length, get_or, replicate, Option, Some, slice_get, Result, Ok, Err}
use Rattle.std.specs.FinMap.{len}
use Rattle.rv_ledger.specs.Key.{Storage}
use Rattle.rv_ledger.specs.Call.{Invocation}
use Rattle.rv_step.specs.Moment.{Reply}
use Rattle.rv_step.specs.Chain.{AreFrom, borne_out, ends}
use Rattle.rv_step.specs.Fold.{store_before}
use Rattle.rv_step.specs.declared.answer.StorageAnswer.{StorageAnswer}
use Rattle.stm_state.specs.declared.state.Task.TheVariants.{Running}
use Rattle.stm_state.specs.State.{State, start_state, call_at, task_at, is_done}
use Rattle.stm_state.specs.Steps.{Block, Limit}
use Rattle.stm_state.specs.Done.{Reached}
use Rattle.stm_state.specs.Drive.{NotDone, due_result, drive_of}

-- the work of a call: the number of its storage answers, and the number of its writes
pub record Work : Type 0 where
  pub reads : ℕ
  pub writes : ℕ

abbrev pub no_work : Work
no_work = record { reads = 0; writes = 0 }

-- `work.reads` answers of a storage bear a call's receipt out, and the receipt has `work.writes` writes
pub record IsWork (call : Invocation) (store : Storage) (work : Work) : Type 0 where
  pub replies : List Reply
  pub size : length replies ≡ work.reads
  pub from : AreFrom store replies
  pub borne_out : borne_out call replies ≡ Some (ends call store)
  pub writes : len (ends call store).writes ≡ work.writes

-- the work of each call, on the storage that the calls before it left
pub record AreWorks (calls : List Invocation) (store : Storage) (works : List Work) : Type 0 where
  pub size : length works ≡ length calls
  pub each : (i : ℕ) (call : Invocation) → slice_get calls i ≡ Some call → IsWork call (store_before calls i store) (get_or works i no_work)

-- the number of steps for all calls. For each call there are two `Ask` steps, a record, a finish and a decision. There is also a
-- step for each read, one for each key that it moves, and one for each read that it checks
abbrev pub rounds : List Work → ℕ
rounds [] = 0
rounds (work ∷ works) = 5 + 2 * work.reads + work.writes + rounds works

-- no run is blocked on an estimate
abbrev pub MeetsNoEstimate : State → Type 0
MeetsNoEstimate s = (w i b : ℕ) (answers : List StorageAnswer) → task_at s w ≢ Running i answers (Some b)

-- P holds of the state after a step, if the step is made
abbrev pub HoldsAfter : (State → Type 0) → Option (Result State Limit) → Type 0
HoldsAfter P (Some (Ok s)) = P s
HoldsAfter P _ = Unit {0}

-- no run is blocked on an estimate in any state that a list of worker numbers passes through from a state on
unfoldable pub NeverMeetsEstimate : List Invocation → Storage → List ℕ → State → Type 0
NeverMeetsEstimate calls store [] s = MeetsNoEstimate s
NeverMeetsEstimate calls store (w ∷ ws) s = MeetsNoEstimate s × HoldsAfter (λ t. NeverMeetsEstimate calls store ws t) (due_result calls store w s)

-- what the one worker did: `steps` steps, `asks` of them `Ask` steps, and one execution and one decision for each call. Each call
-- is at incarnation 0, and `told` of the `Ask` steps were answered Done
pub record OneWorkerDid (calls steps asks told : ℕ) (s : State) : Type 0 where
  pub counts : s.counts ≡ record { steps = steps; asks = asks; executions = calls; validations = calls } ∷ []
  pub dones : s.dones ≡ told ∷ []
  pub incarnations : (i : ℕ) → (call_at s i).incarnation ≡ 0

-- if the one worker of a block is done, it made one execution and one decision for each call, and each call is at incarnation 0.
-- It asked twice for each call, apart from the `Ask` steps that were answered Done. This holds for every list of steps that leads
-- there
abbrev pub OneWorkerCountsWhereReached : Type 0
OneWorkerCountsWhereReached = (block : Block) (s : State) → Reached block 1 s → is_done s ≡ true → (steps told : ℕ) × OneWorkerDid block.count steps (2 * block.count + told) told s

-- one worker is done after the rounds of all calls and not before. Each further step is an `Ask` step that is answered Done, and
-- no read meets an estimate
pub record HasOneWorkerCounts (calls : List Invocation) (store : Storage) : Type 0 where
  pub works : List Work
  pub are_works : AreWorks calls store works
  pub before : (k : ℕ) → k < rounds works → drive_of calls store 1 (replicate k 0) ≡ Err NotDone
  pub after : (k : ℕ) → rounds works ≤ k → (s : State) × (drive_of calls store 1 (replicate k 0) ≡ Ok s) × OneWorkerDid (length calls) k (2 * length calls + k - rounds works) (k - rounds works) s
  pub free : (k : ℕ) → NeverMeetsEstimate calls store (replicate k 0) (start_state (length calls) 1)
