-- What the workers of a run did, and what `--counts` prints of it.
use Rattle.std.specs.Prelude.{◌≡◌, ◌+◌, ◌-◌, ◌++◌, ℕ, List, [], ◌∷◌, Ok, codes, length}
use Rattle.std.specs.Fmt.{decimal}
use Rattle.std.specs.List.{sum_by}
use Rattle.rv_ledger.specs.declared.job.Job.{Job}
use Rattle.rv_ledger.specs.declared.outcome.Counts.{Counts}
use Rattle.stm_state.specs.Drive.{drive_of}
use Rattle.stm_state.specs.State.{State}
use Rattle.workers.specs.History.{HasHistory}
use Rattle.engines.specs.declared.counts.RunCounts.{RunCounts}

-- these are the number of a job's calls and the counts of its run by workers
pub record AreCountsOfRun (job : Job) (workers : ℕ) (counts : RunCounts) : Type 0 where
  pub calls : counts.calls ≡ length job.block
  pub history : HasHistory job workers counts.workers.items

-- these are the number of a job's calls and the counts of its run along a list of worker numbers
pub record AreCountsAlong (job : Job) (workers : ℕ) (entries : List ℕ) (counts : RunCounts) : Type 0 where
  pub calls : counts.calls ≡ length job.block
  pub state : State
  pub leads : drive_of job.block job.store workers entries ≡ Ok state
  pub found : counts.workers.items ≡ state.counts

-- how often each kind of work was done, by a worker or by all, before the rest of a line
abbrev pub counts_before : ℕ → ℕ → ℕ → ℕ → List ℕ → List ℕ
counts_before steps asks executions validations rest =
    codes " steps " ++ (decimal steps ++ (codes " asks " ++ (decimal asks
    ++ (codes " executions " ++ (decimal executions ++ (codes " validations " ++ (decimal validations ++ rest)))))))

abbrev pub worker_line : ℕ → Counts → List ℕ
worker_line worker c = codes "worker " ++ (decimal worker ++ counts_before c.steps c.asks c.executions c.validations (codes "\n"))

-- the lines of workers, the first of which has this number
abbrev pub worker_lines : ℕ → List Counts → List ℕ
worker_lines worker [] = []
worker_lines worker (c ∷ rest) = worker_line worker c ++ worker_lines (worker + 1) rest

-- the line of their sums, with the number of executions above that of the calls: work that was done again
abbrev pub sums_line : ℕ → List Counts → List ℕ
sums_line calls found =
    codes "all" ++ counts_before (sum_by (λ c. c.steps) found) (sum_by (λ c. c.asks) found) (sum_by (λ c. c.executions) found) (sum_by (λ c. c.validations) found)
    (codes " repeated " ++ (decimal (sum_by (λ c. c.executions) found - calls) ++ codes "\n"))

-- all lines
abbrev pub counts_text : RunCounts → List ℕ
counts_text counts = worker_lines 0 counts.workers.items ++ sums_line counts.calls counts.workers.items
