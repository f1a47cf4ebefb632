-- What a worker's thread is answered by a book under the lock, which step it makes next, and why it ends with a fault.
use Rattle.std.specs.Prelude.{⊤, ◌≡◌, ◌+◌, ◌⊎◌, ℕ, List, [], ◌∷◌, Option, None, Some, Result, Ok, Err, IfOk, length}
use Rattle.std.specs.declared.thread.PromisedHandle.{PromisedHandle}
use Rattle.rv_ledger.specs.declared.job.Job.{Job}
use Rattle.rv_step.specs.declared.ended_run.EndedRun.{EndedRun}
use Rattle.stm_state.specs.Done.{Reached}
use Rattle.stm_state.specs.Steps.{Ask, Record}
use Rattle.stm_core.specs.CoreState.{IsOwn, IsTaken, block_in}
use Rattle.stm_core.specs.declared.next_step.NextStep.{NextStep}
use Rattle.stm_core.specs.declared.next_step.NextStep.TheVariants as next_step
use Rattle.stm_core.specs.declared.next_step.ReadResult.{ReadResult}
use Rattle.stm_core.specs.declared.next_step.ReadResult.TheVariants as read_result
use Rattle.stm_core.specs.declared.next_step.StepKind.{StepKind}
use Rattle.stm_core.specs.declared.next_step.StepKind.TheVariants as kinds
use Rattle.workers.specs.declared.book.asked.Asked.{Asked}
use Rattle.workers.specs.declared.book.share.Share.{Share}
use Rattle.workers.specs.declared.book.written.MetFault.{MetFault}
use Rattle.workers.specs.declared.fault.OutsideFault.TheVariants as outside
use Rattle.workers.specs.declared.fault.RunFault.{RunFault}
use Rattle.workers.specs.declared.fault.RunFault.TheVariants as faults
use Rattle.workers.specs.declared.worker.ended.WorkFault.{WorkFault}
use Rattle.workers.specs.declared.worker.ended.WorkFault.TheVariants.{Met, Refused}
use Rattle.workers.specs.Book.{BookState, FaultFits, IsAsked, IsMakeCall, IsReadCall, IsStepCall, KeepsLimit, TellsNext, counts_of_share, first_fault, owed_by}
use Rattle.workers.specs.Settle.{IsGivenBack}

-- a book is of a job with a limit of work: it has both, some list of worker steps leads to its state, and its fault is true of its
-- core
pub record IsBookOf (job : Job) (limit : Option ℕ) (b : BookState) : Type 0 where
  pub same_job : b.core.job ≡ job
  pub same_limit : b.work_limit ≡ limit
  pub reached : Reached (block_in b.core) (length b.core.state.tasks) b.core.state
  pub fits : FaultFits b.work_limit b.passed b.core b.fault

-- ---- what a worker is answered: it made a call of some book of the job, and this is its answer

abbrev pub IsAskAnswer : Job → Option ℕ → Share → Share → Result Asked RunFault → Type 0
IsAskAnswer job limit share counted answer = (before : BookState) × (after : BookState) × IsBookOf job limit before
    × IsStepCall next_step.Ask Ask ⊤ ⊥ (λ asked. IsAsked asked before.core after.core share counted) before after share counted answer

abbrev pub IsMakeAnswer : Job → Option ℕ → StepKind → ℕ → ℕ → Share → Share → Result NextStep RunFault → Type 0
IsMakeAnswer job limit kind call n share counted answer = (before : BookState) × (after : BookState) × IsBookOf job limit before × IsMakeCall kind call n before after share counted answer

abbrev pub IsReadAnswer : Job → Option ℕ → List ℕ → ℕ → ℕ → Share → Share → Result ReadResult RunFault → Type 0
IsReadAnswer job limit key call n share counted answer = (before : BookState) × (after : BookState) × IsBookOf job limit before × IsReadCall key call n before after share counted answer

-- for some run that was handed in
abbrev pub IsRecordAnswer : Job → Option ℕ → ℕ → ℕ → Share → Share → Result NextStep RunFault → Type 0
IsRecordAnswer job limit call n share counted answer = (run : EndedRun) × (before : BookState) × (after : BookState) × IsBookOf job limit before
    × IsStepCall (next_step.Run call n) Record (IsOwn share.worker run before.core) (IsTaken share.worker Record before.core) (TellsNext after share counted) before after share counted answer

-- ---- what a step leaves of the share

-- it is the same worker's, and this many asks were answered Done; if the limit was kept, it still is
pub record IsLeftShare (limit : Option ℕ) (count : ℕ) (share left : Share) : Type 0 where
  pub worker : left.worker ≡ share.worker
  pub dones : left.dones ≡ count
  pub keeps : KeepsLimit limit share.counts → KeepsLimit limit left.counts

-- the share after steps: what the steps return says how many asks were answered Done; if they are refused, only the worker stays
abbrev pub LeavesShare : {X E : Type 0} → Option ℕ → (X → ℕ) → Share → Share → Result X E → Type 0
LeavesShare limit dones share left (Ok x) = IsLeftShare limit (dones x) share left
LeavesShare limit dones share left (Err fault) = left.worker ≡ share.worker

-- the share after steps of which no ask is answered Done
abbrev pub Steps : {X E : Type 0} → Option ℕ → Share → Share → Result X E → Type 0
Steps limit share left result = LeavesShare limit (λ _. share.dones) share left result

-- the number of asks answered Done after a step that may be an ask: it was answered Done if no step is owed then
abbrev pub dones_by : ℕ → Option NextStep → ℕ
dones_by n None = n + 1
dones_by n (Some next) = n

abbrev pub StepsOrEnds : {E : Type 0} → Option ℕ → Share → Share → Result (Option NextStep) E → Type 0
StepsOrEnds limit share left result = LeavesShare limit (dones_by share.dones) share left result

-- a look at the cell changes only the pass
abbrev pub Looks : Share → Share → Type 0
Looks share left = left ≡ record share { pass = left.pass }

-- ---- the step that a worker makes next

-- the last read of the run of a call at an incarnation met an estimate
abbrev pub IsBlocked : Job → Option ℕ → ℕ → ℕ → Share → Type 0
IsBlocked job limit call n counted = (share : Share) × (key : List ℕ) × IsReadAnswer job limit key call n share counted (Ok read_result.Blocked)

-- what a worker owes after a run: a park if a read met an estimate, otherwise what a book answered to the record
abbrev pub IsRunAnswer : Job → Option ℕ → ℕ → ℕ → Share → NextStep → Type 0
IsRunAnswer job limit call n counted next = ((next ≡ next_step.Make kinds.Park call n) × IsBlocked job limit call n counted)
    ⊎ ((share : Share) × IsRecordAnswer job limit call n share counted (Ok next))

-- what a worker owes after it asked: what a book answered. The worker may look at the cell before and after it asks, and then its
-- share has another pass
abbrev pub IsAsking : Job → Option ℕ → Share → Share → Option NextStep → Type 0
IsAsking job limit share counted next = (asking : Share) × (told : Share) × (asked : Asked)
    × (counts_of_share asking ≡ counts_of_share share) × (counts_of_share counted ≡ counts_of_share told) × IsAskAnswer job limit asking told (Ok asked) × (next ≡ owed_by asked)

-- what a worker owes after a step, by the step; none if all was done
abbrev pub IsStepAnswer : Job → Option ℕ → NextStep → Share → Share → Option NextStep → Type 0
IsStepAnswer job limit next_step.Ask share counted next = IsAsking job limit share counted next
IsStepAnswer job limit (next_step.Run call n) share counted (Some next) = IsRunAnswer job limit call n counted next
IsStepAnswer job limit (next_step.Make kind call n) share counted (Some next) = IsMakeAnswer job limit kind call n share counted (Ok next)
IsStepAnswer job limit step share counted None = ⊥

-- the step that a worker makes next: at first it asks. After a step that it made by this rule, it makes the step that it owes
-- then
pub data IsNext (job : Job) (limit : Option ℕ) (first : Share) : Share → NextStep → Type 0 where
  asks_first : IsNext job limit first first next_step.Ask
  after_step : {share counted : Share} {step next : NextStep} → IsNext job limit first share step → IsStepAnswer job limit step share counted (Some next) → IsNext job limit first counted next

-- ---- why a worker ends with a fault

-- some book of the job refused its call for a step with this fault
abbrev pub IsRefusedBy : Job → Option ℕ → NextStep → Share → RunFault → Type 0
IsRefusedBy job limit next_step.Ask left fault = IsAskAnswer job limit left left (Err fault)
IsRefusedBy job limit (next_step.Make kind call n) left fault = IsMakeAnswer job limit kind call n left left (Err fault)
IsRefusedBy job limit (next_step.Run call n) left fault = ((key : List ℕ) × IsReadAnswer job limit key call n left left (Err fault)) ⊎ IsRecordAnswer job limit call n left left (Err fault)

-- some book of the job got a fault of its own, and this one is written in it then
abbrev pub IsWrittenOver : Job → Option ℕ → RunFault → RunFault → Type 0
IsWrittenOver job limit own fault = (book : BookState) × IsBookOf job limit book × (fault ≡ first_fault book.fault own)

-- why a worker ends in place of making a step, by the share that it has then: its call was refused, or memory ran out outside the
-- lock
abbrev pub IsStepFault : Job → Option ℕ → NextStep → Share → WorkFault → Type 0
IsStepFault job limit step left (Refused written) = IsRefusedBy job limit step left written
IsStepFault job limit step left (Met fault) = (fault.met ≡ outside.Memory) × IsWrittenOver job limit faults.Memory fault.written

-- the fault that the book has
abbrev pub run_fault_of : WorkFault → RunFault
run_fault_of (Refused written) = written
run_fault_of (Met fault) = fault.written

-- why a worker ends with a fault in place of its share: the step that it had to make, with the share that it had before it, and
-- what it met, with the share that it had then
pub record IsWorkersEnd (job : Job) (limit : Option ℕ) (first : Share) (fault : RunFault) : Type 0 where
  pub step : NextStep
  pub before : Share
  pub next : IsNext job limit first before step
  pub left : Share
  pub worker : left.worker ≡ first.worker
  pub met : WorkFault
  pub is : fault ≡ run_fault_of met
  pub ends : IsStepFault job limit step left met

-- ---- what the thread of a worker promises

-- a fact holds of each element with its index; the first element has this index
abbrev pub HoldFrom : {X : Type 0} → (ℕ → X → Type 0) → ℕ → List X → Type 0
HoldFrom Holds n [] = Unit {0}
HoldFrom Holds n (x ∷ xs) = Holds n x × HoldFrom Holds (n + 1) xs

-- a thread that promised to give back the share of a worker, whose number the promise is; or why the system refused it
abbrev pub Started : Type 0
Started = Result (PromisedHandle (Result Share RunFault) ℕ) MetFault

-- if the thread was started, it promised to give back the share of this worker
abbrev pub HasPromised : ℕ → Started → Type 0
HasPromised w thread = IfOk thread (λ started. started.promise ≡ w)

-- the thread was started, and this share is one that it promised to give back
abbrev pub IsGivenBy : Option ℕ → Started → Share → Type 0
IsGivenBy limit (Ok started) back = IsGivenBack limit started.promise back
IsGivenBy limit (Err met) back = ⊥

-- the same for each thread and its share, in their order
abbrev pub AreGivenBy : Option ℕ → List Started → List Share → Type 0
AreGivenBy limit [] [] = Unit {0}
AreGivenBy limit [] (back ∷ rest) = ⊥
AreGivenBy limit (thread ∷ threads) [] = ⊥
AreGivenBy limit (thread ∷ threads) (back ∷ rest) = IsGivenBy limit thread back × AreGivenBy limit threads rest
