-- What holds of each state that worker steps lead to (Block-STM), stated for functions of indices. A call past the last one is as
-- at the start, and a worker past the last one has no task.
use Rattle.std.specs.Prelude.{◌≡◌, ◌<◌, ◌≤◌, ◌+◌, ◌-◌, ◌≢◌, ◌⊎◌, ℕ, Bool, true, false, List, [], ◌∷◌, length, map, slice_get, Option, None, Some}
use Rattle.std.specs.List.{AllByRecursion}
use Rattle.std.specs.Option.{option_map}
use Rattle.std.specs.FinMap.{get}
use Rattle.rv_ledger.specs.Change.{Content, ContentChange}
use Rattle.read_set.specs.Origin.{Origin, named}
use Rattle.read_set.specs.declared.origin.Version.{Version}
use Rattle.read_set.specs.declared.Read.{Read}
use Rattle.rv_step.specs.Replies.{replies_of}
use Rattle.rv_step.specs.declared.answer.StorageAnswer.{StorageAnswer}
use Rattle.mvmap.specs.Versions.{Entry, Stands, Estimate, entry_at}
use Rattle.mvmap.specs.Reading.{stands_among}
use Rattle.stm_state.specs.declared.state.Status.TheVariants.{Ready, Executing, Executed, Aborting}
use Rattle.stm_state.specs.declared.state.CallState.{CallState}
use Rattle.stm_state.specs.declared.state.Recorded.{Recorded}
use Rattle.stm_state.specs.declared.state.Task.{Task}
use Rattle.stm_state.specs.declared.state.Task.TheVariants.{Idle, Running, Moving, Validating, Marking}
use Rattle.stm_state.specs.Limits.{incarnation_limit}
use Rattle.stm_state.specs.State.{State, call_at, task_at, is_executed}
use Rattle.stm_state.specs.Steps.{Block, read_of, recorded_reads, version_of, write_of}
use Rattle.stm_state.specs.Parts.{IsPast, IsStateSized, StandWith, apply_all, has_key}

-- a state as functions of indices: each call, each worker's task, and the entry of each writer at each key
pub record View : Type 0 where
  pub calls : ℕ → CallState
  pub tasks : ℕ → Task
  pub entries : List ℕ → ℕ → Option Entry
  pub execution : ℕ
  pub validation : ℕ

abbrev pub view_of : State → View
view_of s = record {
  calls = call_at s;
  tasks = task_at s;
  entries = entry_at s.versions;
  execution = s.execution;
  validation = s.validation;
}

-- the call that a task runs, or whose keys it moves
abbrev pub run_by : Task → Option ℕ
run_by (Running i answers blocked) = Some i
run_by (Moving i keys new) = Some i
run_by _ = None

-- the call whose versions a task turns into estimates
abbrev pub marked_by : Task → Option ℕ
marked_by (Marking i keys) = Some i
marked_by _ = None

-- the call that a task owns: it runs the call, moves its keys or marks its keys
abbrev pub owned_by : Task → Option ℕ
owned_by (Running i answers blocked) = Some i
owned_by (Moving i keys new) = Some i
owned_by (Marking i keys) = Some i
owned_by _ = None

-- the call whose entries a task changes: it moves or marks its keys
abbrev pub turned_by : Task → Option ℕ
turned_by (Moving i keys new) = Some i
turned_by (Marking i keys) = Some i
turned_by _ = None

-- the call of an unfinished record with a new key or of an unfinished abort. At the end of such a task the validation index is
-- lowered to at most the next call
abbrev pub lowered_by : Task → Option ℕ
lowered_by (Moving i keys true) = Some i
lowered_by (Marking i keys) = Some i
lowered_by _ = None

abbrev pub named_by : Task → Option ℕ
named_by Idle = None
named_by (Running i answers blocked) = Some i
named_by (Moving i keys new) = Some i
named_by (Validating i n left failed) = Some i
named_by (Marking i keys) = Some i

-- the entry for what a call wrote: a version at its incarnation if the call is EXECUTED, and an estimate otherwise
abbrev pub entry_by : Bool → ℕ → Option ContentChange → Option Entry
entry_by true n change = option_map (λ c. Stands n c) change
entry_by false n change = option_map (λ c. Estimate) change

abbrev pub entry_of : CallState → List ℕ → Option Entry
entry_of call key = entry_by (is_executed call.status) call.incarnation (write_of call.last key)

-- a call waits for a lower call that is not EXECUTED
pub record IsWaiting (v : View) (i : ℕ) : Type 0 where
  pub on : ℕ
  pub parked : (v.calls i).parked ≡ Some on
  pub lower : on < i
  pub not_done : (v.calls on).status ≢ Executed

-- a version that call i was answered with is of a lower call; it stands, or may be gone
abbrev pub IsKnown : View → ℕ → List ℕ → Version → Type 0
IsKnown v i key version = (version.writer < i)
    × (((c : ContentChange) × (v.entries key version.writer ≡ Some (Stands version.incarnation c))) ⊎ IsPast (v.calls version.writer) version.incarnation)

-- an answer to call i is right. The versions that it names are known. If all of them stand, its value is what their changes make
-- of the storage before the block
pub record IsRight (block : Block) (v : View) (i : ℕ) (key : List ℕ) (value : Content) (origin : Origin) : Type 0 where
  pub known : AllByRecursion (IsKnown v i key) (named origin)
  pub value_is : (changes : List ContentChange) → StandWith (v.entries key) (named origin) changes → value ≡ apply_all changes (get block.base key)

abbrev pub IsRightAnswer : Block → View → ℕ → StorageAnswer → Type 0
IsRightAnswer block v i answer = IsRight block v i answer.key answer.value answer.origin

-- right answers to the reads of a recorded run bear it out
pub record IsBorneOut (block : Block) (v : View) (i : ℕ) (run : Recorded) : Type 0 where
  pub answers : List StorageAnswer
  pub reads : map read_of answers ≡ run.reads
  pub borne_out : block.borne_out i (replies_of answers) ≡ Some run.receipt
  pub right : AllByRecursion (IsRightAnswer block v i) answers

-- no key is in the list twice
abbrev pub AreDistinct : List (List ℕ) → Type 0
AreDistinct [] = Unit {0}
AreDistinct (key ∷ keys) = (has_key key keys ≡ false) × AreDistinct keys

-- the entries of a call during a task that takes them to their targets, one key after another. Each entry is at its target, or
-- its key is still to come and the entry is one that may be there until then
abbrev pub AreUnderWay : (target : List ℕ → Option Entry) (before : List ℕ → Option Entry → Type 0) (entries : List ℕ → Option Entry) (keys : List (List ℕ)) → Type 0
AreUnderWay target before entries keys = (key : List ℕ) → (entries key ≡ target key) ⊎ ((has_key key keys ≡ true) × before key (entries key))

-- what may be at a key that is still to be moved: an estimate, or nothing if the run wrote a new key
abbrev pub IsUnmovedEntry : Bool → Option Entry → Type 0
IsUnmovedEntry new entry = (entry ≡ Some Estimate) ⊎ ((entry ≡ None) × (new ≡ true))

-- a call whose keys a worker moves: it has a recorded run, and its incarnation is below the limit. Its entries are on their way
-- to that run's versions, and no key that is left has been moved
pub record IsMoved (call : CallState) (entries : List ℕ → Option Entry) (keys : List (List ℕ)) (new : Bool) : Type 0 where
  pub run : (run : Recorded) × (call.last ≡ Some run)
  pub below : call.incarnation ≤ incarnation_limit - 1
  pub amid : AreUnderWay (version_of call) (λ key entry. IsUnmovedEntry new entry) entries keys
  pub distinct : AreDistinct keys
  pub unmoved : (key : List ℕ) → has_key key keys ≡ true → IsUnmovedEntry new (entries key)

-- an estimate if a call's recorded run wrote the key, and no entry otherwise
abbrev pub estimate_of : CallState → List ℕ → Option Entry
estimate_of call key = option_map (λ change. Estimate) (write_of call.last key)

-- what is at a key that is still to be marked: a version at the call's incarnation, with any change
abbrev pub IsUnmarkedEntry : ℕ → Option Entry → Type 0
IsUnmarkedEntry n entry = (c : ContentChange) × (entry ≡ Some (Stands n c))

-- a call whose keys a worker marks: it is ABORTING and not parked, its recorded run wrote the keys, and its entries are on
-- their way to that run's estimates
pub record IsMarked (call : CallState) (entries : List ℕ → Option Entry) (keys : List (List ℕ)) : Type 0 where
  pub aborting : call.status ≡ Aborting
  pub unparked : call.parked ≡ None
  pub written : (key : List ℕ) → has_key key keys ≡ true → (c : ContentChange) × (write_of call.last key ≡ Some c)
  pub amid : AreUnderWay (estimate_of call) (λ key entry. IsUnmarkedEntry call.incarnation entry) entries keys

-- no worker moves or marks the keys of a call
abbrev pub IsUnturned : View → ℕ → Type 0
IsUnturned v i = (w : ℕ) → turned_by (v.tasks w) ≢ Some i

-- a worker moves the keys of a lower call's run that wrote a new key, or marks the keys of a lower call. When that task ends, the
-- validation index is at most the call after the lower one
pub record IsToBeLowered (tasks : ℕ → Task) (i : ℕ) : Type 0 where
  pub worker : ℕ
  pub call : ℕ
  pub task : lowered_by (tasks worker) ≡ Some call
  pub lower : call < i

-- a validation of a call's incarnation, with `left` reads left to check: the call is EXECUTED and has at least that many
-- reads, or it is ABORTING and not parked
abbrev pub IsChecked : CallState → ℕ → Type 0
IsChecked call left = ((call.status ≡ Executed) × (left ≤ length (recorded_reads call.last))) ⊎ ((call.status ≡ Aborting) × (call.parked ≡ None))

-- a read of a call, by its place, must still be met in two cases. A validation of the call at its incarnation failed or has not
-- checked the read yet. Or an unfinished record with a new key, or an unfinished abort, of a lower call will have the call
-- validated again
pub data IsCovered (v : View) (i place : ℕ) : Type 0 where
  validated : (w left : ℕ) (failed : Bool) → v.tasks w ≡ Validating i (v.calls i).incarnation left failed → (failed ≡ true) ⊎ (length (recorded_reads (v.calls i).last) ≤ place + left) → IsCovered v i place
  ahead : IsToBeLowered v.tasks i → IsCovered v i place

-- each read of a call stands, or must still be met
abbrev pub AreSafe : View → ℕ → Type 0
AreSafe v i = (place : ℕ) (read : Read) → slice_get (recorded_reads (v.calls i).last) place ≡ Some read → (stands_among v.entries i read ≡ true) ⊎ IsCovered v i place

pub record ViewInvariant (block : Block) (v : View) : Type 0 where
  -- the indices are at most the number of calls
  pub execution_within : v.execution ≤ block.count
  pub validation_within : v.validation ≤ block.count
  -- a task names a call of the block
  pub named : (w i : ℕ) → named_by (v.tasks w) ≡ Some i → i < block.count
  -- a READY call is at or above the execution index
  pub ready : (i : ℕ) → (v.calls i).status ≡ Ready → v.execution ≤ i
  -- some worker runs an EXECUTING call or moves its keys. A call that a worker runs or whose keys it moves is EXECUTING. At most
  -- one worker runs a call, moves its keys or marks its keys
  pub executing : (i : ℕ) → (v.calls i).status ≡ Executing → (w : ℕ) × (run_by (v.tasks w) ≡ Some i)
  pub running : (w i : ℕ) → run_by (v.tasks w) ≡ Some i → (v.calls i).status ≡ Executing
  pub alone : (w u i : ℕ) → owned_by (v.tasks w) ≡ Some i → owned_by (v.tasks u) ≡ Some i → w ≡ u
  -- a run is blocked on a lower call
  pub blocked : (w i b : ℕ) (answers : List StorageAnswer) → v.tasks w ≡ Running i answers (Some b) → b < i
  -- an ABORTING call waits for a lower call that is not EXECUTED, or a worker marks its keys; no other call is parked
  pub aborting : (i : ℕ) → (v.calls i).status ≡ Aborting → IsWaiting v i ⊎ ((w : ℕ) × (marked_by (v.tasks w) ≡ Some i))
  pub unparked : (i : ℕ) → (v.calls i).status ≢ Aborting → (v.calls i).parked ≡ None
  -- no incarnation is above the limit; that of an EXECUTED or ABORTING call is below it, since the call may become READY again
  pub limit : (i : ℕ) → (v.calls i).incarnation ≤ incarnation_limit
  pub executed_limit : (i : ℕ) → (v.calls i).status ≡ Executed → (v.calls i).incarnation ≤ incarnation_limit - 1
  pub aborting_limit : (i : ℕ) → (v.calls i).status ≡ Aborting → (v.calls i).incarnation ≤ incarnation_limit - 1
  -- these hold if no worker moves or marks a call's keys. The entries of an EXECUTED call are the writes of its receipt at its
  -- incarnation. Any other call has estimates, at exactly the keys that its last recorded run wrote
  pub entries : (i : ℕ) (key : List ℕ) → IsUnturned v i → v.entries key i ≡ entry_of (v.calls i) key
  -- if a worker moves the keys, the entries are on their way to the run's versions; if a worker marks them, to its estimates
  pub moving : (w i : ℕ) (keys : List (List ℕ)) (new : Bool) → v.tasks w ≡ Moving i keys new → IsMoved (v.calls i) (λ key. v.entries key i) keys new
  pub marking : (w i : ℕ) (keys : List (List ℕ)) → v.tasks w ≡ Marking i keys → IsMarked (v.calls i) (λ key. v.entries key i) keys
  -- an EXECUTED call has a recorded run
  pub executed : (i : ℕ) → (v.calls i).status ≡ Executed → (run : Recorded) × ((v.calls i).last ≡ Some run)
  -- each recorded run is borne out by right answers
  pub recorded : (i : ℕ) (run : Recorded) → (v.calls i).last ≡ Some run → IsBorneOut block v i run
  -- each answer that a run got is right
  pub answered : (w i : ℕ) (answers : List StorageAnswer) (waits : Option ℕ) → v.tasks w ≡ Running i answers waits → AllByRecursion (IsRightAnswer block v i) answers
  -- a validation is of an incarnation that the call had or has. If the call still has it, the call is EXECUTED and has at least
  -- as many reads as are left to check, or it is ABORTING and not parked
  pub validating : (w i n left : ℕ) (failed : Bool) → v.tasks w ≡ Validating i n left failed → n ≤ (v.calls i).incarnation
  pub current : (w i left : ℕ) (failed : Bool) → v.tasks w ≡ Validating i (v.calls i).incarnation left failed → IsChecked (v.calls i) left
  -- each read of an EXECUTED call below the validation index stands, or must still be met
  pub safe : (i : ℕ) → (v.calls i).status ≡ Executed → i < v.validation → AreSafe v i

-- the invariant of a block's run
pub record Invariant (block : Block) (workers : ℕ) (s : State) : Type 0 where
  pub sized : IsStateSized block.count workers s
  pub facts : ViewInvariant block (view_of s)
