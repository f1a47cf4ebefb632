-- What the engine of `rvstm run` refuses. What it writes is what the engine of `rvstm seq` writes.
use Rattle.std.specs.Prelude.{ℕ, List, ◌≡◌, ◌⊎◌, ◌<◌, ⊤, Option, None}
use Rattle.byte_streams.specs.declared.fault.WriteFault.{WriteFault}
use Rattle.rv_ledger.specs.declared.job.Job.{Job}
use Rattle.stm_state.specs.Steps as steps
use Rattle.workers.specs.History.{HasLimit, HasStepLimit}
use Rattle.workers.specs.declared.fault.RunFault.{RunFault}
use Rattle.workers.specs.declared.fault.RunFault.TheVariants as run
use Rattle.engines.specs.Engine.{text_of, IsOutputFault}
use Rattle.engines.specs.declared.fault.Refusal.{Refusal}
use Rattle.engines.specs.declared.fault.Refusal.TheVariants.{Run}

-- what a refusal of a job's run by workers says. BadCount: the number of workers is not 1 to 32. A limit: some list of
-- steps of the job meets it, or by StepLimit fills the count of a worker. Any other refusal says nothing
abbrev pub IsRefusalOf : Job → ℕ → RunFault → Type 0
IsRefusalOf job workers run.BadCount = (workers ≡ 0) ⊎ (32 < workers)
IsRefusalOf job workers run.ArenaFull = HasLimit job workers steps.ArenaFull
IsRefusalOf job workers run.IncarnationLimit = HasLimit job workers steps.IncarnationLimit
IsRefusalOf job workers run.StepLimit = HasStepLimit job workers None
IsRefusalOf job workers fault = ⊤

-- a refusal of a run by workers: one that the job may meet, and then nothing was written, or one of the output
abbrev pub IsWorkersFault : (WriteFault → Type 0) → ℕ → Option (List ℕ) → Option (List ℕ) → Job → Refusal → Type 0
IsWorkersFault may_refuse workers old new job (Run fault) = (new ≡ old) × IsRefusalOf job workers fault
IsWorkersFault may_refuse workers old new job e = IsOutputFault may_refuse (text_of job) old new e
