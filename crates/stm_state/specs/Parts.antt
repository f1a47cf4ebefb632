-- The four parts of the scheduler's invariant (Block-STM), stated for a `State`: what holds of each state that worker steps lead
-- to. A call past the last one is as at the start, and a worker past the last one has no task.
use Rattle.std.specs.Prelude.{◌≡◌, ◌<◌, ◌≤◌, ◌≢◌, ◌⊎◌, ◌+◌, ℕ, Bool, true, false, List, [], ◌∷◌, length, map, slice_get, Option, Some}
use Rattle.std.specs.List.{AllByRecursion, list_any}
use Rattle.std.specs.Ordering.{eq_by_cmp}
use Rattle.std.specs.Option.{option_map}
use Rattle.std.specs.FinMap.{get}
use Rattle.rv_ledger.specs.Key.{key_cmp}
use Rattle.rv_ledger.specs.Change.{Content, ContentChange, apply_change}
use Rattle.read_set.specs.Origin.{Origin, named}
use Rattle.read_set.specs.declared.origin.Version.{Version}
use Rattle.read_set.specs.declared.Read.{Read}
use Rattle.rv_step.specs.Replies.{replies_of}
use Rattle.rv_step.specs.declared.answer.StorageAnswer.{StorageAnswer}
use Rattle.mvmap.specs.Versions.{Entry, Stands, entry_at}
use Rattle.mvmap.specs.Reading.{stands}
use Rattle.stm_state.specs.declared.state.Status.TheVariants.{Ready, Executing, Executed, Aborting}
use Rattle.stm_state.specs.declared.state.CallState.{CallState}
use Rattle.stm_state.specs.declared.state.Recorded.{Recorded}
use Rattle.stm_state.specs.declared.state.Task.TheVariants.{Running, Moving, Validating, Marking}
use Rattle.stm_state.specs.State.{State, call_at, task_at}
use Rattle.stm_state.specs.Steps.{Block, read_of, recorded_reads, write_of}
use Rattle.stm_state.specs.Done.{Reached}

-- P holds of each state that some list of worker steps leads to
abbrev pub HoldsWhereReached : (Block → State → Type 0) → Type 0
HoldsWhereReached P = (block : Block) (workers : ℕ) (s : State) → Reached block workers s → P block s

-- the number of calls and the number of workers stay the same
pub record IsStateSized (count workers : ℕ) (s : State) : Type 0 where
  pub calls : length s.calls ≡ count
  pub tasks : length s.tasks ≡ workers
  pub counts : length s.counts ≡ workers
  pub dones : length s.dones ≡ workers

-- in each state that is reached, these numbers are those of the start
abbrev pub SizesStay : Type 0
SizesStay = (block : Block) (workers : ℕ) (s : State) → Reached block workers s → IsStateSized block.count workers s

-- some worker runs a call, or moves the keys of its run
pub data IsExecutingRun (s : State) (i : ℕ) : Type 0 where
  runs : (w : ℕ) (answers : List StorageAnswer) (waits : Option ℕ) → task_at s w ≡ Running i answers waits → IsExecutingRun s i
  moves : (w : ℕ) (keys : List (List ℕ)) (new : Bool) → task_at s w ≡ Moving i keys new → IsExecutingRun s i

-- a call is parked on a lower call that is not EXECUTED
pub record IsParked (s : State) (i : ℕ) : Type 0 where
  pub on : ℕ
  pub parked : (call_at s i).parked ≡ Some on
  pub lower : on < i
  pub not_done : (call_at s on).status ≢ Executed

-- some worker aborts a call: it marks the keys that the call wrote
pub record IsTakenBack (s : State) (i : ℕ) : Type 0 where
  pub worker : ℕ
  pub keys : List (List ℕ)
  pub task : task_at s worker ≡ Marking i keys

-- part 1: a READY call is at or above the execution index, and an EXECUTING call is some worker's task. An ABORTING call is
-- aborted by some worker, or is parked on a lower call that is not EXECUTED
pub record CallsAreAttended (block : Block) (s : State) : Type 0 where
  pub ready : (i : ℕ) → (call_at s i).status ≡ Ready → s.execution ≤ i
  pub executing : (i : ℕ) → (call_at s i).status ≡ Executing → IsExecutingRun s i
  pub aborting : (i : ℕ) → (call_at s i).status ≡ Aborting → IsTakenBack s i ⊎ IsParked s i

-- whether a key is among some keys
abbrev pub has_key : List ℕ → List (List ℕ) → Bool
has_key key keys = list_any (eq_by_cmp key_cmp key) keys

-- a version that the unfinished record of a call has published. Some worker moves the keys of the call's run, the run wrote this
-- key, and the key is not among those that are left
pub record IsOfUnfinishedRecord (s : State) (i : ℕ) (key : List ℕ) (n : ℕ) (c : ContentChange) : Type 0 where
  pub worker : ℕ
  pub keys : List (List ℕ)
  pub new : Bool
  pub task : task_at s worker ≡ Moving i keys new
  pub incarnation : n ≡ (call_at s i).incarnation
  pub written : write_of (call_at s i).last key ≡ Some c
  pub published : has_key key keys ≡ false

-- a version that the unfinished abort of a call must still turn into an estimate: some worker marks the call's keys, and this key
-- is among those that are left
pub record IsOfUnfinishedAbort (s : State) (i : ℕ) (key : List ℕ) (n : ℕ) : Type 0 where
  pub worker : ℕ
  pub keys : List (List ℕ)
  pub task : task_at s worker ≡ Marking i keys
  pub incarnation : n ≡ (call_at s i).incarnation
  pub left : has_key key keys ≡ true

-- part 2: a call that is not EXECUTED has only estimates, apart from versions that its unfinished record has published and
-- versions that its unfinished abort must still turn into estimates
abbrev pub OthersHaveEstimates : Block → State → Type 0
OthersHaveEstimates block s = (i : ℕ) → (call_at s i).status ≢ Executed → (key : List ℕ) (n : ℕ) (c : ContentChange) → entry_at s.versions key i ≡ Some (Stands n c)
    → IsOfUnfinishedRecord s i key n c ⊎ IsOfUnfinishedAbort s i key n

-- some worker validates a call at its incarnation and must still meet the read at a place. Either a read that it checked did not
-- stand, or this read is among the last ones, which are left to check
pub record IsValidated (s : State) (i place : ℕ) : Type 0 where
  pub worker : ℕ
  pub left : ℕ
  pub failed : Bool
  pub task : task_at s worker ≡ Validating i (call_at s i).incarnation left failed
  pub meets : (failed ≡ true) ⊎ (length (recorded_reads (call_at s i).last) ≤ place + left)

-- some worker moves the keys of a lower call's run, and that run wrote a new key
pub record IsBehindNewKey (s : State) (i : ℕ) : Type 0 where
  pub worker : ℕ
  pub call : ℕ
  pub keys : List (List ℕ)
  pub task : task_at s worker ≡ Moving call keys true
  pub lower : call < i

-- some worker aborts a lower call
pub record IsBehindAbort (s : State) (i : ℕ) : Type 0 where
  pub call : ℕ
  pub taken_back : IsTakenBack s call
  pub lower : call < i

-- some worker's task must still meet the read at a place of a call, or will have the call validated again
abbrev pub IsToBeMet : State → ℕ → ℕ → Type 0
IsToBeMet s i place = IsValidated s i place ⊎ (IsBehindNewKey s i ⊎ IsBehindAbort s i)

-- part 3: an EXECUTED call is at or above the validation index, or each of its recorded reads stands or must still be met. A read
-- is met by a validation of the call, by an unfinished record of a lower call with a new key, or by an unfinished abort of a
-- lower call
abbrev pub ReadsAreWatched : Block → State → Type 0
ReadsAreWatched block s = (i : ℕ) → (call_at s i).status ≡ Executed
    → (s.validation ≤ i) ⊎ ((place : ℕ) (read : Read) → slice_get (recorded_reads (call_at s i).last) place ≡ Some read → (stands s.versions i read ≡ true) ⊎ IsToBeMet s i place)

-- all these versions of a key stand, each with the change at the same place in the other list
abbrev pub StandWith : (ℕ → Option Entry) → List Version → List ContentChange → Type 0
StandWith entries [] [] = Unit {0}
StandWith entries (version ∷ versions) (c ∷ changes) = (entries version.writer ≡ Some (Stands version.incarnation c)) × StandWith entries versions changes
StandWith entries [] (c ∷ changes) = ⊥
StandWith entries (version ∷ versions) [] = ⊥

-- a content after some changes; the last change of the list is applied first
abbrev pub apply_all : List ContentChange → Content → Content
apply_all [] content = content
apply_all (c ∷ changes) content = apply_change c (apply_all changes content)

-- if all versions that an origin names stand, a value is what their changes make of the starting storage
abbrev pub IsContent : Block → State → List ℕ → Content → Origin → Type 0
IsContent block s key value origin =
    (changes : List ContentChange) → StandWith (entry_at s.versions key) (named origin) changes → value ≡ apply_all changes (get block.base key)

-- a version of a call may be gone: it is older than the call's incarnation, or the call is ABORTING at that incarnation
abbrev pub IsPast : CallState → ℕ → Type 0
IsPast call n = (n < call.incarnation) ⊎ ((n ≡ call.incarnation) × (call.status ≡ Aborting))

-- a version that call i was answered with is a version of a lower call. It stands, or its incarnation is below its writer's, or
-- its writer is ABORTING at that incarnation
abbrev pub IsKnownVersion : State → ℕ → List ℕ → Version → Type 0
IsKnownVersion s i key version = (version.writer < i)
    × (((c : ContentChange) × (entry_at s.versions key version.writer ≡ Some (Stands version.incarnation c))) ⊎ IsPast (call_at s version.writer) version.incarnation)

-- each version that an origin names is known
abbrev pub IsKnown : State → ℕ → List ℕ → Origin → Type 0
IsKnown s i key origin = AllByRecursion (IsKnownVersion s i key) (named origin)

-- an answer to call i is true: `IsContent` holds of its value, and `IsKnown` of its origin
abbrev pub IsTrueAnswer : Block → State → ℕ → StorageAnswer → Type 0
IsTrueAnswer block s i answer = IsContent block s answer.key answer.value answer.origin × IsKnown s i answer.key answer.origin

-- answers with the keys and origins of a recorded run's reads bear it out
pub record IsBorne (block : Block) (s : State) (i : ℕ) (run : Recorded) : Type 0 where
  pub answers : List StorageAnswer
  pub reads : map read_of answers ≡ run.reads
  pub borne_out : block.borne_out i (replies_of answers) ≡ Some run.receipt
  pub true_answers : AllByRecursion (IsTrueAnswer block s i) answers

-- an EXECUTED call has a recorded run. Its entries are exactly the writes of that run, as versions at its incarnation
pub record IsPublished (s : State) (i : ℕ) : Type 0 where
  pub run : Recorded
  pub last : (call_at s i).last ≡ Some run
  pub entries : (key : List ℕ) → entry_at s.versions key i ≡ option_map (λ c. Stands (call_at s i).incarnation c) (get run.receipt.writes key)

-- part 4: true answers bear out each recorded run, and each run in progress got true answers. The entries of an EXECUTED call are
-- exactly the writes of its receipt, as versions at its incarnation
pub record RunsAreBorneOut (block : Block) (s : State) : Type 0 where
  pub recorded : (i : ℕ) (run : Recorded) → (call_at s i).last ≡ Some run → IsBorne block s i run
  pub going_on : (w i : ℕ) (answers : List StorageAnswer) (waits : Option ℕ) → task_at s w ≡ Running i answers waits → AllByRecursion (IsTrueAnswer block s i) answers
  pub published : (i : ℕ) → (call_at s i).status ≡ Executed → IsPublished s i
