-- The answer to a job, by its book and the shares that came back.
use Rattle.std.specs.Prelude.{◌≡◌, ◌≢◌, ◌⊎◌, ℕ, true, List, [], length, Option, None, Some, Result, Ok, Err, slice_get, get_or}
use Rattle.rv_ledger.specs.declared.job.Job.{Job}
use Rattle.rv_ledger.specs.declared.outcome.Outcome.{Outcome}
use Rattle.rv_ledger.specs.declared.outcome.Counts.{Counts}
use Rattle.rv_step.specs.Fold.{receipts_of, store_after}
use Rattle.stm_state.specs.State.{is_done, no_counts}
use Rattle.stm_core.specs.CoreState.{CoreState}
use Rattle.stm_core.specs.declared.outcome.Finished.{Finished}
use Rattle.workers.specs.declared.book.share.Share.{Share}
use Rattle.workers.specs.declared.fault.RunFault.{RunFault}
use Rattle.workers.specs.declared.fault.RunFault.TheVariants as faults
use Rattle.workers.specs.Book.{BookState, AgreesWith, KeepsLimit, counts_of_share}

-- a share is that of a worker, agrees with the core on its counts, and has exactly one ask that was answered Done
pub record IsShareOf (w : ℕ) (b : CoreState) (share : Share) : Type 0 where
  pub worker : share.worker ≡ w
  pub agrees : AgreesWith share b
  pub once : share.dones ≡ 1

-- workers are done, and there is one share of each, in their order, which agrees with the core
pub record AreSettled (b : CoreState) (shares : List Share) : Type 0 where
  pub done : is_done b.state ≡ true
  pub count : length shares ≡ length b.state.tasks
  pub each : (w : ℕ) (share : Share) → slice_get shares w ≡ Some share → IsShareOf w b share

-- there is one share of each worker, in their order, with its counts and exactly one ask that was answered Done
pub record AreSharesOf (counts : List Counts) (shares : List Share) : Type 0 where
  pub count : length shares ≡ length counts
  pub each : (w : ℕ) (share : Share) → slice_get shares w ≡ Some share → counts_of_share share ≡ record { worker = w; counts = get_or counts w no_counts; dones = 1 }

-- a share that a thread gives back: it is this worker's, with exactly one ask that was answered Done, and with no more steps, not
-- counting asks, than the limit allows, if there is one
abbrev pub IsGivenBack : Option ℕ → ℕ → Share → Type 0
IsGivenBack limit w share = (share.worker ≡ w) × (share.dones ≡ 1) × KeepsLimit limit share.counts

-- the shares that the threads of a block gave back: one of each worker, in their order
pub record AreGivenBack (limit : Option ℕ) (workers : ℕ) (shares : List Share) : Type 0 where
  pub count : length shares ≡ workers
  pub each : (w : ℕ) (share : Share) → slice_get shares w ≡ Some share → IsGivenBack limit w share

-- the shares that a block leaves: none, or those that its threads gave back
abbrev pub AreLeft : Option ℕ → ℕ → List Share → Type 0
AreLeft limit workers shares = (shares ≡ []) ⊎ AreGivenBack limit workers shares

-- the outcome of a core that is done
pub record IsOutcomeOf (b : CoreState) (outcome : Outcome) : Type 0 where
  pub job : outcome.job ≡ b.job
  pub receipts : outcome.receipts.items ≡ receipts_of b.job.block b.job.store
  pub store : outcome.store ≡ store_after b.job.block b.job.store
  pub counts : outcome.counts.items ≡ b.state.counts

-- what a core that is done leaves apart from the storage
pub record IsFinishedOf (b : CoreState) (finished : Finished) : Type 0 where
  pub receipts : finished.receipts.items ≡ receipts_of b.job.block b.job.store
  pub counts : finished.counts.items ≡ b.state.counts

-- an answer of which a fact holds, or Memory
abbrev pub IsThatOrMemory : {X : Type 0} → (X → Type 0) → Result X RunFault → Type 0
IsThatOrMemory That (Ok x) = That x
IsThatOrMemory That (Err fault) = fault ≡ faults.Memory

-- the core's outcome, or Memory
abbrev pub IsOutcomeOrMemory : CoreState → Result Outcome RunFault → Type 0
IsOutcomeOrMemory b answer = IsThatOrMemory (IsOutcomeOf b) answer

-- the fault that answers a job, whatever memory there is: the written one, if any; otherwise Foreign if the shares are not
-- settled
abbrev pub IsFaultAfter : Option RunFault → CoreState → List Share → RunFault → Type 0
IsFaultAfter (Some fault) b shares found = found ≡ fault
IsFaultAfter None b shares found = (AreSettled b shares → ⊥) × (found ≡ faults.Foreign)

-- the written fault, if any; otherwise `That` or Memory if the shares are settled, and Foreign if they are not
abbrev pub IsThatAfter : {X : Type 0} → (X → Type 0) → Option RunFault → CoreState → List Share → Result X RunFault → Type 0
IsThatAfter That (Some fault) b shares answer = answer ≡ Err fault
IsThatAfter That None b shares answer = (AreSettled b shares × IsThatOrMemory That answer) ⊎ ((AreSettled b shares → ⊥) × (answer ≡ Err faults.Foreign))

-- the written fault, if any; otherwise the outcome or Memory if the shares are settled, and Foreign if they are not
abbrev pub IsSettledAfter : Option RunFault → CoreState → List Share → Result Outcome RunFault → Type 0
IsSettledAfter first b shares answer = IsThatAfter (IsOutcomeOf b) first b shares answer

-- the same without the storage
abbrev pub IsFinishedAfter : Option RunFault → CoreState → List Share → Result Finished RunFault → Type 0
IsFinishedAfter first b shares answer = IsThatAfter (IsFinishedOf b) first b shares answer

-- the answer to a job: Foreign if the core has another job, in any case; otherwise as above
abbrev pub IsSettled : Job → List Share → BookState → Result Outcome RunFault → Type 0
IsSettled job shares b answer = ((b.core.job ≡ job) × IsSettledAfter b.fault b.core shares answer) ⊎ ((b.core.job ≢ job) × (answer ≡ Err faults.Foreign))
