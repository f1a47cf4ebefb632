-- What threads answer to a job. Private help of proofs; no public clause cites it.
use Rattle.std.specs.Prelude.{◌≡◌, ◌≢◌, ℕ, All, List, length, Option, Result, Ok, Err}
use Rattle.rv_ledger.specs.declared.job.Job.{Job}
use Rattle.rv_step.specs.Fold.{receipts_of}
use Rattle.stm_state.specs.Steps as steps
use Rattle.stm_core.specs.declared.outcome.Finished.{Finished}
use Rattle.workers.specs.Book.{KeepsLimit}
use Rattle.workers.specs.History.{AreOneWorkerCounts, HasHistory, HasLimit, HasWorkLimit}
use Rattle.workers.specs.Settle.{AreLeft, AreSharesOf}
use Rattle.workers.specs.declared.book.share.Share.{Share}
use Rattle.workers.specs.declared.fault.RunFault.{RunFault}
use Rattle.workers.specs.declared.fault.RunFault.TheVariants as faults

-- the answer of this number of workers to a job, and the shares that they leave, with a limit for their steps, not counting asks,
-- if there is one. A limit is the answer only if some list of worker steps meets it
abbrev pub IsRun : Job → ℕ → Option ℕ → List Share → Result Finished RunFault → Type 0
IsRun job workers limit shares (Ok finished) =
    (finished.receipts.items ≡ receipts_of job.block job.store) × HasHistory job workers finished.counts.items
    × (workers ≡ 1 → AreOneWorkerCounts (length job.block) finished.counts.items) × AreSharesOf finished.counts.items shares
    × All (λ share. KeepsLimit limit share.counts) shares × AreLeft limit workers shares
IsRun job workers limit shares (Err fault) =
    (fault ≡ faults.ArenaFull → HasLimit job workers steps.ArenaFull) × (fault ≡ faults.IncarnationLimit → HasLimit job workers steps.IncarnationLimit)
    × (fault ≡ faults.StepLimit → HasWorkLimit job workers limit) × (fault ≢ faults.BadCount → AreLeft limit workers shares)
