-- The steps of a worker, as functions of the state (Block-STM). Each step reads or changes the entry of at most one key.
use Rattle.std.specs.Prelude.{ℕ, zero, suc, ◌+◌, ◌-◌, ◌==◌, nat_lt, nat_le, min, Bool, true, false, not, ◌&&◌, if◌then◌else◌, List, [], ◌∷◌, ◌++◌, map, length, get_or, set, slice_get, Option, None, Some, Result, Ok, Err}
use Rattle.std.specs.List.{list_any, filter}
use Rattle.std.specs.Option.{option_map}
use Rattle.std.specs.FinMap.{get, entries, contains_key, len}
use Rattle.rv_ledger.specs.Key.{Storage, WriteMap}
use Rattle.rv_ledger.specs.declared.receipt.Receipt.{Receipt}
use Rattle.rv_ledger.specs.declared.outcome.Counts.{Counts}
use Rattle.read_set.specs.declared.Read.{Read}
use Rattle.rv_step.specs.Moment.{Reply}
use Rattle.rv_step.specs.Replies.{replies_of}
use Rattle.rv_step.specs.declared.answer.StorageAnswer.{StorageAnswer}
use Rattle.rv_ledger.specs.Change.{ContentChange}
use Rattle.mvmap.specs.Versions.{Entry, Versions, Stands, Estimate, changed}
use Rattle.mvmap.specs.Reading.{Visible, blocker, origin_in, reading, stands, value_seen}
use Rattle.stm_state.specs.declared.state.Status.TheVariants.{Ready, Executing, Executed, Aborting}
use Rattle.stm_state.specs.declared.state.CallState.{CallState}
use Rattle.stm_state.specs.declared.state.Recorded.{Recorded}
use Rattle.stm_state.specs.declared.state.Task.{Task}
use Rattle.stm_state.specs.declared.state.Task.TheVariants.{Idle, Running, Moving, Validating, Marking}
use Rattle.stm_state.specs.Limits.{record_limit, incarnation_limit}
use Rattle.stm_state.specs.State.{State, call_at, task_at, with_call, with_task, no_counts, is_ready, is_executed, is_aborting, is_done}

-- a block as the workers see it: the number of its calls, the storage before it, and the receipt of the call at an index that
-- replies bear out, or None
pub record Block : Type 0 where
  pub count : ℕ
  pub base : Storage
  pub borne_out : ℕ → List Reply → Option Receipt

-- a state after a change to a worker's counts
abbrev pub counted : (Counts → Counts) → ℕ → State → State
counted add w s = record s { counts = set s.counts w (add (get_or s.counts w no_counts)) }

abbrev pub one_step : Counts → Counts
one_step c = record c { steps = c.steps + 1 }

abbrev pub one_asking : Counts → Counts
one_asking c = record c { steps = c.steps + 1; asks = c.asks + 1 }

abbrev pub one_execution : Counts → Counts
one_execution c = record c { steps = c.steps + 1; executions = c.executions + 1 }

abbrev pub one_validation : Counts → Counts
one_validation c = record c { steps = c.steps + 1; validations = c.validations + 1 }

-- the reads of a recorded run, and the writes of its receipt; empty if there is no run
abbrev pub recorded_reads : Option Recorded → List Read
recorded_reads None = []
recorded_reads (Some run) = run.reads

abbrev pub written_by : Option Recorded → List (List ℕ × ContentChange)
written_by None = []
written_by (Some run) = entries run.receipt.writes

-- a call that is made READY again: it is at the next incarnation, and not parked
abbrev pub next_incarnation : CallState → CallState
next_incarnation call = record call { status = Ready; incarnation = call.incarnation + 1; parked = None }

-- ask: the worker is answered Done
abbrev pub count_done : ℕ → State → State
count_done w s = record s { dones = set s.dones w (get_or s.dones w 0 + 1) }

-- ask: the validation index goes up by one, and the worker validates its call if that call is EXECUTED
unfoldable pub ask_validation : ℕ → State → State
ask_validation w s =
    let i = s.validation in
    let call = call_at s i in
    let t = record s { validation = i + 1 } in
    if is_executed call.status then with_task w (Validating i call.incarnation (length (recorded_reads call.last)) false) t else t

-- ask: the execution index goes up by one, and the worker runs its call if that call is READY
unfoldable pub ask_execution : ℕ → State → State
ask_execution w s =
    let i = s.execution in
    let call = call_at s i in
    let t = record s { execution = i + 1 } in
    if is_ready call.status then with_task w (Running i [] None) (with_call i (record call { status = Executing }) t) else t

-- ask: the worker is answered Done if all is done. Otherwise the validation index goes up if it is below the execution index.
-- Otherwise the execution index goes up if a call is left. Otherwise nothing happens
abbrev pub after_ask : ℕ → State → State
after_ask w s =
    if is_done s then count_done w s
    else if nat_lt s.validation s.execution then ask_validation w s
    else if nat_lt s.execution (length s.calls) then ask_execution w s
    else s

-- read: the answer that a run gets for a key if no estimate is met
abbrev pub given : Storage → List ℕ → Visible → StorageAnswer
given base key seen = record { key = key; value = value_seen (get base key) seen; origin = origin_in seen }

-- read: the run gets its answer, or it is blocked on the writer of the estimate that it met
abbrev pub answered_by : Storage → List ℕ → ℕ → List StorageAnswer → Visible → Option ℕ → Task
answered_by base key i answers seen None = Running i (answers ++ given base key seen ∷ []) None
answered_by base key i answers seen (Some writer) = Running i answers (Some writer)

abbrev pub answered_with : Storage → List ℕ → ℕ → List StorageAnswer → Visible → Task
answered_with base key i answers seen = answered_by base key i answers seen (blocker seen)

abbrev pub after_read_key : Storage → List ℕ → ℕ → ℕ → List StorageAnswer → State → State
after_read_key base key w i answers s = with_task w (answered_with base key i answers (reading s.versions key i)) s

-- park: if the call whose estimate blocked the run is EXECUTED by now, the run starts again. Otherwise the call of the run is
-- parked on that call
unfoldable pub after_park : ℕ → ℕ → ℕ → State → State
after_park w i b s =
    if is_executed (call_at s b).status then with_task w (Running i [] None) s
    else with_task w Idle (with_call i (record (call_at s i) { status = Aborting; parked = Some b }) s)

-- the read of an answer: its key and its origin
abbrev pub read_of : StorageAnswer → Read
read_of answer = record { key = answer.key; origin = answer.origin }

-- the writes of the last recorded run whose keys this run did not write
abbrev pub left_over : Option Recorded → WriteMap → List (List ℕ × ContentChange)
left_over last writes = filter (λ write. not (contains_key writes write.0)) (written_by last)

-- whether the last recorded run wrote a key; and whether a run wrote a key that the last recorded run did not write. In a first
-- run each key is new
abbrev pub wrote : Option Recorded → List ℕ → Bool
wrote None key = false
wrote (Some run) key = contains_key run.receipt.writes key

abbrev pub has_new_key : Option Recorded → WriteMap → Bool
has_new_key last writes = list_any (λ write. not (wrote last write.0)) (entries writes)

abbrev pub keys_of : List (List ℕ × ContentChange) → List (List ℕ)
keys_of writes = map (λ write. write.0) writes

-- record: the keys that a run must move, first those that it wrote, then those that only the previous run wrote
abbrev pub keys_to_move : Option Recorded → WriteMap → List (List ℕ)
keys_to_move last writes = keys_of (entries writes) ++ keys_of (left_over last writes)

-- the change that a recorded run wrote at a key, or None
abbrev pub write_of : Option Recorded → List ℕ → Option ContentChange
write_of None key = None
write_of (Some run) key = get run.receipt.writes key

-- move key: a version at the call's incarnation if its recorded run wrote the key, and no entry otherwise
abbrev pub version_of : CallState → List ℕ → Option Entry
version_of call key = option_map (λ change. Stands call.incarnation change) (write_of call.last key)

-- whether an optional number is Some of this number
abbrev pub is_some_of : Option ℕ → ℕ → Bool
is_some_of None i = false
is_some_of (Some j) i = j == i

-- whether a call is parked on call i
abbrev pub is_parked_on : ℕ → CallState → Bool
is_parked_on i call = is_aborting call.status && is_some_of call.parked i

-- a call that is parked on call i becomes READY, and any other stays as it is
abbrev pub resume_if_parked : ℕ → CallState → CallState
resume_if_parked i call = if is_parked_on i call then next_incarnation call else call

-- an index lowered to the lowest call that is parked on call i; the first call of the list has number p
abbrev pub least_parked_call : ℕ → ℕ → ℕ → List CallState → ℕ
least_parked_call i x p [] = x
least_parked_call i x p (call ∷ calls) = least_parked_call i (if is_parked_on i call then min x p else x) (p + 1) calls

-- finish execution: all calls that are parked on call i become READY, and the execution index is lowered to the lowest of them
unfoldable pub resume_dependents : ℕ → State → State
resume_dependents i s = record s { calls = map (resume_if_parked i) s.calls; execution = least_parked_call i s.execution 0 s.calls }

-- finish execution: what is validated again. If the validation index is past call i, it is all calls from i on if the run wrote a
-- new key, and otherwise call i, by this worker. If the index is not past call i, nothing is, since the index still reaches it
unfoldable pub to_validate : ℕ → ℕ → Bool → Task → State → State
to_validate w i new task s =
    if nat_lt i s.validation then (if new then with_task w Idle (record s { validation = i }) else with_task w task s)
    else with_task w Idle s

-- record: the run that is kept
abbrev pub recorded_run : List StorageAnswer → Receipt → Recorded
recorded_run answers receipt = record { receipt = receipt; reads = map read_of answers }

-- record: the run is kept, and its keys must be moved
abbrev pub after_record : ℕ → ℕ → List StorageAnswer → Receipt → State → State
after_record w i answers receipt s =
    let call = call_at s i in
    with_task w (Moving i (keys_to_move call.last receipt.writes) (has_new_key call.last receipt.writes))
    (with_call i (record call { last = Some (recorded_run answers receipt) }) (record s { record_count = s.record_count + len receipt.writes }))

-- move key: the next key is published or withdrawn
abbrev pub after_move_key : ℕ → ℕ → List ℕ → List (List ℕ) → Bool → State → State
after_move_key w i key keys new s = with_task w (Moving i keys new) (record s { versions = changed s.versions (key, i) (version_of (call_at s i) key) })

-- finish execution: the call becomes EXECUTED
abbrev pub after_finish_execution : ℕ → ℕ → Bool → State → State
after_finish_execution w i new s =
    let call = call_at s i in
    to_validate w i new (Validating i call.incarnation (length (recorded_reads call.last)) false)
    (resume_dependents i (with_call i (record call { status = Executed }) s))

-- check read, decide: whether a call is EXECUTED at an incarnation
abbrev pub is_executed_at : ℕ → CallState → Bool
is_executed_at n call = is_executed call.status && call.incarnation == n

-- check read: whether the next read of a call stands, if `left` of its reads are left to check
abbrev pub read_stands : Versions → ℕ → Option Read → Bool
read_stands versions i None = true
read_stands versions i (Some read) = stands versions i read

abbrev pub next_stands : ℕ → ℕ → State → Bool
next_stands i left s = let reads = recorded_reads (call_at s i).last in read_stands s.versions i (slice_get reads (length reads - left))

-- check read: if the call is no longer EXECUTED at the incarnation, the task ends. Otherwise the next read is checked, and the
-- validation fails if the read does not stand
unfoldable pub after_check_read : ℕ → ℕ → ℕ → ℕ → State → State
after_check_read w i n left s =
    if is_executed_at n (call_at s i) then (if next_stands i (suc left) s then with_task w (Validating i n left false) s else with_task w (Validating i n (suc left) true) s)
    else with_task w Idle s

-- decide: if a read did not stand and the call is EXECUTED at the incarnation, the call becomes ABORTING, and the keys that it
-- wrote must become estimates. Otherwise the task ends
unfoldable pub after_decide : ℕ → ℕ → ℕ → Bool → State → State
after_decide w i n failed s =
    let call = call_at s i in
    if failed && is_executed_at n call then with_task w (Marking i (keys_of (written_by call.last))) (with_call i (record call { status = Aborting }) s)
    else with_task w Idle s

-- mark estimate: the next key becomes an estimate
abbrev pub after_mark_estimate : ℕ → ℕ → List ℕ → List (List ℕ) → State → State
after_mark_estimate w i key keys s = with_task w (Marking i keys) (record s { versions = changed s.versions (key, i) (Some Estimate) })

-- finish abort: the call becomes READY, and the validation index is lowered to at most the next call. If the execution index is
-- past the call, the worker runs the call at once
unfoldable pub after_finish_abort : ℕ → ℕ → State → State
after_finish_abort w i s =
    let call = call_at s i in
    let t = record s { validation = min s.validation (i + 1) } in
    if nat_lt i s.execution then with_task w (Running i [] None) (with_call i (record (next_incarnation call) { status = Executing }) t)
    else with_task w Idle (with_call i (next_incarnation call) t)

-- the kinds of steps; a read names its key
pub data Step : Type 0 where
  Ask : Step
  ReadKey : List ℕ → Step
  Park : Step
  Record : Step
  MoveKey : Step
  FinishExecution : Step
  CheckRead : Step
  Decide : Step
  MarkEstimate : Step
  FinishAbort : Step

-- why a step is refused
pub data Limit : Type 0 where
  ArenaFull : Limit
  IncarnationLimit : Limit

-- record: due if the answers bear a receipt out. It is refused as ArenaFull if the arena has no room for the writes, and
-- otherwise as IncarnationLimit if the incarnation is at the limit
abbrev pub record_within : ℕ → List StorageAnswer → ℕ → Option Receipt → State → Option (Result State Limit)
record_within i answers w None s = None
record_within i answers w (Some receipt) s =
    if nat_lt record_limit (s.record_count + len receipt.writes) then Some (Err ArenaFull)
    else if nat_le incarnation_limit (call_at s i).incarnation then Some (Err IncarnationLimit)
    else Some (Ok (counted one_execution w (after_record w i answers receipt s)))

-- the result of a worker's step, by its task; None if the step is not due
abbrev pub step_with : Block → ℕ → Task → Step → State → Option (Result State Limit)
step_with block w Idle Ask s = Some (Ok (counted one_asking w (after_ask w s)))
step_with block w (Running i answers None) (ReadKey key) s = Some (Ok (counted one_step w (after_read_key block.base key w i answers s)))
step_with block w (Running i answers (Some b)) Park s =
    if nat_le incarnation_limit (call_at s i).incarnation then Some (Err IncarnationLimit) else Some (Ok (counted one_step w (after_park w i b s)))
step_with block w (Running i answers None) Record s = record_within i answers w (block.borne_out i (replies_of answers)) s
step_with block w (Moving i (key ∷ keys) new) MoveKey s = Some (Ok (counted one_step w (after_move_key w i key keys new s)))
step_with block w (Moving i [] new) FinishExecution s = Some (Ok (counted one_step w (after_finish_execution w i new s)))
step_with block w (Validating i n left true) Decide s = Some (Ok (counted one_validation w (after_decide w i n true s)))
step_with block w (Validating i n (suc left) false) CheckRead s = Some (Ok (counted one_step w (after_check_read w i n left s)))
step_with block w (Validating i n zero false) Decide s = Some (Ok (counted one_validation w (after_decide w i n false s)))
step_with block w (Marking i (key ∷ keys)) MarkEstimate s = Some (Ok (counted one_step w (after_mark_estimate w i key keys s)))
step_with block w (Marking i []) FinishAbort s = Some (Ok (counted one_step w (after_finish_abort w i s)))
step_with block w task step s = None

-- the result of a worker's step in a state; None if the step is not due
abbrev pub worker_step : Block → ℕ → Step → State → Option (Result State Limit)
worker_step block w step s = step_with block w (task_at s w) step s
