-- A core with the first fault that was written, the share of a worker, and what the step calls owe.
use Rattle.std.specs.Prelude.{⊤, Result, Ok, Err, ◌≡◌, ◌<◌, ◌+◌, ◌≤◌, ◌⊎◌, ℕ, zero, suc, true, false, List, [], ◌∷◌, ◌++◌, length, get_or, min, Option, None, Some}
use Rattle.rv_ledger.specs.declared.outcome.Counts.{Counts}
use Rattle.mvmap.specs.Reading.{reading}
use Rattle.stm_state.specs.State.{task_at, no_counts, is_done}
use Rattle.stm_state.specs.Steps.{Step, Ask, ReadKey}
use Rattle.stm_state.specs.Steps as steps
use Rattle.stm_core.specs.CoreState.{CoreState, HasReadRoom, IsRefused, IsWithin, Makes, block_in, next_step_of, read_result_of, step_of}
use Rattle.stm_core.specs.Passed.{ReachedPassing, passed_by_step}
use Rattle.stm_core.specs.declared.next_step.NextStep.{NextStep}
use Rattle.stm_core.specs.declared.next_step.NextStep.TheVariants as next_step
use Rattle.stm_core.specs.declared.next_step.ReadResult.{ReadResult}
use Rattle.stm_core.specs.declared.next_step.StepKind.{StepKind}
use Rattle.stm_core.specs.declared.fault.RecordFault.{RecordFault}
use Rattle.stm_core.specs.declared.fault.RecordFault.TheVariants as record_faults
use Rattle.workers.specs.declared.book.asked.Asked.{Asked}
use Rattle.workers.specs.declared.book.asked.Asked.TheVariants as asked
use Rattle.workers.specs.declared.book.share.Share.{Share}
use Rattle.workers.specs.declared.fault.OutsideFault.{OutsideFault}
use Rattle.workers.specs.declared.fault.OutsideFault.TheVariants as outside
use Rattle.workers.specs.declared.fault.RunFault.{RunFault}
use Rattle.workers.specs.declared.fault.RunFault.TheVariants as faults

-- a core; the first fault that was written, if any; how many versions the steps of all workers passed; and the limit of work, if
-- there is one: of the steps of each worker that are no asks, and of those versions
pub record BookState : Type 0 where
  pub core : CoreState
  pub fault : Option RunFault
  pub passed : ℕ
  pub work_limit : Option ℕ

-- ---- what a written fault says of the core beside it

-- a due step of some worker is refused for a limit
pub record IsAtLimit (limit : steps.Limit) (b : CoreState) : Type 0 where
  pub worker : ℕ
  pub within : worker < length b.state.tasks
  pub step : Step
  pub refused : IsRefused worker step limit b

-- a worker makes no further step: it has made 2^64 - 1 steps, or at least as many steps that are not asks as the limit, if there
-- is one
abbrev pub IsSpent : Option ℕ → Counts → Type 0
IsSpent None counts = counts.steps ≡ 18446744073709551615
IsSpent (Some limit) counts = (counts.steps ≡ 18446744073709551615) ⊎ (limit + counts.asks ≤ counts.steps)

-- a worker has made no more steps, not counting asks, than its limit allows, if there is one
abbrev pub KeepsLimit : Option ℕ → Counts → Type 0
KeepsLimit None counts = Unit {0}
KeepsLimit (Some limit) counts = counts.steps ≤ limit + counts.asks

-- some worker makes no further step
pub record HasSpentWorker (limit : Option ℕ) (b : CoreState) : Type 0 where
  pub worker : ℕ
  pub within : worker < length b.state.tasks
  pub spent : IsSpent limit (get_or b.state.counts worker no_counts)

-- at least as many versions were passed as the limit, if there is one
abbrev pub AreAllPassed : Option ℕ → ℕ → Type 0
AreAllPassed None passed = ⊥
AreAllPassed (Some limit) passed = limit ≤ passed

-- the number of versions passed after this many more: it stays at 2^64 - 1
abbrev pub passed_with : ℕ → ℕ → ℕ
passed_with passed more = min (passed + more) 18446744073709551615

-- some list of worker steps leads to a core's state, and passes at least this number of versions
abbrev pub IsOnTheWay : ℕ → CoreState → Type 0
IsOnTheWay passed b = (all : ℕ) × ReachedPassing (block_in b) (length b.state.tasks) b.state all × (passed ≤ all)

-- a fault that may be written beside a core
abbrev pub MayWrite : RunFault → Option ℕ → ℕ → CoreState → Type 0
MayWrite faults.BadCount limit passed b = ⊥
MayWrite faults.Foreign limit passed b = Unit {0}
MayWrite faults.ArenaFull limit passed b = IsAtLimit steps.ArenaFull b
MayWrite faults.IncarnationLimit limit passed b = IsAtLimit steps.IncarnationLimit b
MayWrite faults.Memory limit passed b = Unit {0}
MayWrite faults.Spawn limit passed b = Unit {0}
MayWrite faults.StepLimit limit passed b = HasSpentWorker limit b ⊎ AreAllPassed limit passed

abbrev pub FaultFits : Option ℕ → ℕ → CoreState → Option RunFault → Type 0
FaultFits limit passed b None = Unit {0}
FaultFits limit passed b (Some fault) = MayWrite fault limit passed b

-- the fault of a record that was refused
abbrev pub run_fault : RecordFault → RunFault
run_fault record_faults.Foreign = faults.Foreign
run_fault record_faults.ArenaFull = faults.ArenaFull
run_fault record_faults.Memory = faults.Memory
run_fault record_faults.IncarnationLimit = faults.IncarnationLimit

-- the fault that is written for one that was met outside the lock
abbrev pub outside_fault : OutsideFault → RunFault
outside_fault outside.Memory = faults.Memory
outside_fault outside.Spawn = faults.Spawn

-- the fault after one is written: the first one that was written
abbrev pub first_fault : Option RunFault → RunFault → RunFault
first_fault None fault = fault
first_fault (Some first) fault = first

-- ---- shares

-- what a share says: its worker, the worker's counts, and how many of its `ask` calls were answered Done
pub record ShareCounts : Type 0 where
  pub worker : ℕ
  pub counts : Counts
  pub dones : ℕ

abbrev pub counts_of_share : Share → ShareCounts
counts_of_share share = record { worker = share.worker; counts = share.counts; dones = share.dones }

-- the share of a worker that has done nothing yet
abbrev pub zero_counts : ℕ → ShareCounts
zero_counts worker = record { worker = worker; counts = no_counts; dones = 0 }

-- the same for each of n workers, in their order
unfoldable pub zero_counts_of_all : ℕ → List ShareCounts
zero_counts_of_all zero = []
zero_counts_of_all (suc n) = zero_counts_of_all n ++ zero_counts n ∷ []

-- a share agrees with the core on the counts of its worker
pub record AgreesWith (share : Share) (b : CoreState) : Type 0 where
  pub within : share.worker < length b.state.tasks
  pub counts : share.counts ≡ get_or b.state.counts share.worker no_counts
  pub dones : share.dones ≡ get_or b.state.dones share.worker 0

-- the same, and the worker owes this step
pub record Owes (next : NextStep) (share : Share) (b : CoreState) : Type 0 where
  pub agrees : AgreesWith share b
  pub owed : next_step_of b.state (task_at b.state share.worker) ≡ next

-- ---- step calls

-- the limit of a worker's steps before it makes this one; asks have none
abbrev pub limit_before : NextStep → Option ℕ → Option ℕ
limit_before next_step.Ask limit = None
limit_before next limit = limit

-- a share's worker may count one step more, and more versions may be passed
abbrev pub MayCountStep : NextStep → Share → BookState → Type 0
MayCountStep owed share b = (IsSpent (limit_before owed b.work_limit) share.counts → ⊥) × (AreAllPassed b.work_limit b.passed → ⊥)

-- it counts no further step, or no more versions may be passed
abbrev pub CountsNoStep : NextStep → Share → BookState → Type 0
CountsNoStep owed share b = IsSpent (limit_before owed b.work_limit) share.counts ⊎ AreAllPassed b.work_limit b.passed

-- the share's worker owed this step and could count it, and the step was made. No fault is written, the share agrees with the core
-- before and after the step, and its pass stays
pub record IsMade (owed : NextStep) (step : Step) (before after : BookState) (share counted : Share) : Type 0 where
  pub none_before : before.fault ≡ None
  pub owes : Owes owed share before.core
  pub may : MayCountStep owed share before
  pub makes : Makes share.worker step before.core after.core
  pub none_after : after.fault ≡ None
  pub worker : counted.worker ≡ share.worker
  pub pass : counted.pass ≡ share.pass
  pub agrees : AgreesWith counted after.core
  pub passed : after.passed ≡ passed_with before.passed (passed_by_step share.worker step before.core.state)

-- a step call that is refused writes its fault, and leaves the core and the share as they were
pub record LeavesWritten (fault : RunFault) (before after : BookState) (share left : Share) : Type 0 where
  pub core : after.core ≡ before.core
  pub written : after.fault ≡ Some fault
  pub kept : left ≡ share

-- why a step call is refused: the first of these that applies. The fault that was written before; Foreign if the worker does not
-- owe the step; StepLimit if it can't count another one, or if as many versions were passed as the limit; Foreign if the run is
-- not its own; a limit that the step meets; Memory if `Wants` holds
abbrev pub IsCauseAfter : Option RunFault → NextStep → Share → (Own : Type 0) → (Wants : Type 0) → Step → BookState → RunFault → Type 0
IsCauseAfter (Some first) owed share Own Wants step b fault = fault ≡ first
IsCauseAfter None owed share Own Wants step b faults.BadCount = ⊥
IsCauseAfter None owed share Own Wants step b faults.Foreign = (Owes owed share b.core → ⊥) ⊎ (Owes owed share b.core × MayCountStep owed share b × (Own → ⊥))
IsCauseAfter None owed share Own Wants step b faults.ArenaFull = Owes owed share b.core × MayCountStep owed share b × Own × IsRefused share.worker step steps.ArenaFull b.core
IsCauseAfter None owed share Own Wants step b faults.IncarnationLimit = Owes owed share b.core × MayCountStep owed share b × Own × IsRefused share.worker step steps.IncarnationLimit b.core
IsCauseAfter None owed share Own Wants step b faults.Memory = Owes owed share b.core × MayCountStep owed share b × Own × Wants
IsCauseAfter None owed share Own Wants step b faults.Spawn = ⊥
IsCauseAfter None owed share Own Wants step b faults.StepLimit = Owes owed share b.core × CountsNoStep owed share b

abbrev pub IsCause : NextStep → Share → (Own : Type 0) → (Wants : Type 0) → Step → BookState → RunFault → Type 0
IsCause owed share Own Wants step b fault = IsCauseAfter b.fault owed share Own Wants step b fault

-- the result of a step call: its step was made and `Tells` holds of what it returns, or its refusal is written for a cause
abbrev pub IsStepCall : {X : Type 0} → NextStep → Step → (Own : Type 0) → (Wants : Type 0) → (Tells : X → Type 0) → (before after : BookState) → (share counted : Share) → Result X RunFault → Type 0
IsStepCall owed step Own Wants Tells before after share counted (Ok x) = IsMade owed step before after share counted × Tells x
IsStepCall owed step Own Wants Tells before after share counted (Err fault) = LeavesWritten fault before after share counted × IsCause owed share Own Wants step before fault

-- a call returns the step that its worker owes now; no asking was answered Done
abbrev pub TellsNext : BookState → Share → Share → NextStep → Type 0
TellsNext after share counted next = (next ≡ next_step_of after.core.state (task_at after.core.state counted.worker)) × (counted.dones ≡ share.dones)

-- the result of a step call for a step of a task by its kind
abbrev pub IsMakeCall : StepKind → ℕ → ℕ → (before after : BookState) → (share counted : Share) → Result NextStep RunFault → Type 0
IsMakeCall kind call n before after share counted result = IsStepCall (next_step.Make kind call n) (step_of kind) ⊤ ⊥ (TellsNext after share counted) before after share counted result

-- the same for a read of a key by a run
abbrev pub IsReadCall : List ℕ → ℕ → ℕ → (before after : BookState) → (share counted : Share) → Result ReadResult RunFault → Type 0
IsReadCall key call n before after share counted result =
    IsStepCall (next_step.Run call n) (ReadKey key) ⊤ (HasReadRoom share.worker before.core → ⊥)
    (λ answer. (answer ≡ read_result_of before.core.job.store key (reading before.core.state.versions key call)) × (counted.dones ≡ share.dones)) before after share counted result

-- why a worker may not make a step that it should owe, whatever the step
abbrev pub IsUnready : Option RunFault → NextStep → Share → BookState → RunFault → Type 0
IsUnready (Some first) next share b fault = fault ≡ first
IsUnready None next share b faults.BadCount = ⊥
IsUnready None next share b faults.Foreign = Owes next share b.core → ⊥
IsUnready None next share b faults.ArenaFull = ⊥
IsUnready None next share b faults.IncarnationLimit = ⊥
IsUnready None next share b faults.Memory = ⊥
IsUnready None next share b faults.Spawn = ⊥
IsUnready None next share b faults.StepLimit = Owes next share b.core × CountsNoStep next share b

-- the answer to an asking: Done if all was done, with one more answer Done in the share; otherwise the step that is owed now
abbrev pub IsAsked : Asked → CoreState → CoreState → Share → Share → Type 0
IsAsked (asked.Done all) before after share counted = (is_done before.state ≡ true) × (is_done after.state ≡ true) × (counted.dones ≡ share.dones + 1)
IsAsked (asked.Owes next) before after share counted = (is_done before.state ≡ false) × (counted.dones ≡ share.dones) × (next ≡ next_step_of after.state (task_at after.state share.worker))

-- a step that the answer names is of a call with an index below `count`
abbrev pub IsAskWithin : ℕ → Asked → Type 0
IsAskWithin count (asked.Done all) = Unit {0}
IsAskWithin count (asked.Owes next) = IsWithin count next

-- the step that the worker owes then; none if all is done
abbrev pub owed_by : Asked → Option NextStep
owed_by (asked.Done all) = None
owed_by (asked.Owes next) = Some next
