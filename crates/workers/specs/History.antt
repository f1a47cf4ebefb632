-- The history of a block's run: one list of worker steps.
use Rattle.std.specs.Prelude.{◌≡◌, ◌<◌, ◌≤◌, ◌+◌, ◌*◌, ◌/◌, ◌⊎◌, ℕ, true, List, [], ◌∷◌, get_or, length, Option, None, Some}
use Rattle.std.specs.List.{count_by, sum_by}
use Rattle.rv_ledger.specs.declared.job.Job.{Job}
use Rattle.rv_ledger.specs.declared.outcome.Counts.{Counts}
use Rattle.stm_state.specs.State.{State, is_done, no_counts}
use Rattle.stm_state.specs.Steps.{Step, Limit}
use Rattle.stm_state.specs.Done.{MeetsLimit, Reached, block_of}
use Rattle.stm_state.specs.Walk.{LeadsTo}
use Rattle.stm_state.specs.Dones.{EndsAtDone}
use Rattle.stm_core.specs.CoreState.{is_read}
use Rattle.stm_core.specs.Passed.{ReachedPassing}
use Rattle.always_ends.specs.Work.{incarnations, most_work, work_by_incarnation, work_of_list}
use Rattle.workers.specs.Book.{IsSpent}
use Rattle.workers.specs.Settle.{AreSharesOf}
use Rattle.workers.specs.declared.book.share.Share.{Share}

-- some list of worker steps leads from a job's start to a state in which workers are done, with these counts; the last entry of
-- each worker is an ask that is answered Done, its only one
pub record HasHistory (job : Job) (workers : ℕ) (found : List Counts) : Type 0 where
  pub entries : List (ℕ × Step)
  pub state : State
  pub leads : LeadsTo (block_of job.block job.store) workers entries state
  pub done : is_done state ≡ true
  pub counts : found ≡ state.counts
  pub ends : (w : ℕ) → w < workers → EndsAtDone (block_of job.block job.store) workers w entries 0

-- such a list with bounded work; the work is the steps that are neither reads nor idle askings. If no call has more gas than
-- `gas`, the work is at most a fixed amount for each call and for each further incarnation, and at most `most_work` in all. The
-- steps of all shares are no more than their askings, the reads of the list and its work
pub record IsBoundedHistory (job : Job) (workers gas : ℕ) (found : List Counts) : Type 0 where
  pub history : HasHistory job workers found
  pub work : ℕ
  pub counted : work ≡ work_of_list (block_of job.block job.store) workers history.entries
  pub by_incarnations : work ≤ (length job.block + incarnations history.state) * work_by_incarnation workers (length job.block) (gas / 200 + 1) 256
  pub in_all : work ≤ most_work workers (length job.block) gas
  pub steps : sum_by (λ did. did.steps) found ≤ sum_by (λ did. did.asks) found + count_by (λ entry. is_read entry.1) history.entries + work

-- a job is run by this number of workers: some list of their steps leads from its start to a state in which they are done
pub record IsRunBy (job : Job) (workers : ℕ) : Type 0 where
  pub counts : List Counts
  pub history : HasHistory job workers counts

-- some list of steps of this number of workers leads from a job's start to a step that is refused for a limit
abbrev pub HasLimit : Job → ℕ → Limit → Type 0
HasLimit job workers limit = MeetsLimit (block_of job.block job.store) workers limit

-- some list of steps of this number of workers leads from a job's start to a state in which a worker makes no further step: it
-- has made 2^64 - 1 steps, or there is a limit and it has made at least this many steps that are not asks
pub record HasStepLimit (job : Job) (workers : ℕ) (limit : Option ℕ) : Type 0 where
  pub state : State
  pub reached : Reached (block_of job.block job.store) workers state
  pub worker : ℕ
  pub within : worker < workers
  pub spent : IsSpent limit (get_or state.counts worker no_counts)

-- some list of steps of this number of workers leads from a job's start to a state, and passes at least as many versions as
-- the limit
pub record HasPassedLimit (job : Job) (workers limit : ℕ) : Type 0 where
  pub state : State
  pub passed : ℕ
  pub reached : ReachedPassing (block_of job.block job.store) workers state passed
  pub all : limit ≤ passed

-- one of both; without a limit no number of versions ends a run
abbrev pub HasWorkLimit : Job → ℕ → Option ℕ → Type 0
HasWorkLimit job workers None = HasStepLimit job workers None
HasWorkLimit job workers (Some limit) = HasStepLimit job workers (Some limit) ⊎ HasPassedLimit job workers limit

-- what a single worker did: per call one execution, one validation and two asks, and one last ask that is answered Done
pub record AreOneWorkerCounts (calls : ℕ) (found : List Counts) : Type 0 where
  pub steps : ℕ
  pub counts : found ≡ record { steps = steps; asks = 2 * calls + 1; executions = calls; validations = calls } ∷ []

-- a job is run by this number of workers, and these shares of theirs have the counts
pub record IsRunWithShares (job : Job) (workers : ℕ) (shares : List Share) : Type 0 where
  pub counts : List Counts
  pub history : HasHistory job workers counts
  pub those : AreSharesOf counts shares
  pub one_worker : workers ≡ 1 → AreOneWorkerCounts (length job.block) counts
