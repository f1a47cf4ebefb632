-- What the engine of `rvstm conflicts` writes, and what it refuses.
use Rattle.std.specs.Prelude.{ℕ, List, ◌≡◌, Option, length}
use Rattle.std.specs.Io.KnownBytes.{Appends}
use Rattle.byte_streams.specs.declared.fault.WriteFault.{WriteFault}
use Rattle.conflicts.specs.ByKey.{calls_by_key}
use Rattle.conflicts.specs.Paths.{ArePaths}
use Rattle.conflicts.specs.Sums.{keys_of_calls}
use Rattle.conflicts.specs.Text.{conflicts_text}
use Rattle.conflicts.specs.Waits.{calls_of}
use Rattle.rv_ledger.specs.declared.job.Job.{Job}
use Rattle.engines.specs.Engine.{IsCommandRefused, IsOutputFault}
use Rattle.engines.specs.declared.fault.Refusal.{Refusal}
use Rattle.engines.specs.declared.fault.Refusal.TheVariants.{Seq}
use Rattle.engines.specs.declared.fault.SeqFault.TheVariants.{Memory}

-- the text of a job's conflicts; each call has one path, so there is one such text
pub record IsConflictsText (job : Job) (text : List ℕ) : Type 0 where
  pub paths : List ℕ
  pub are_paths : ArePaths (calls_of job.block job.store) paths
  pub count : length paths ≡ length job.block
  pub is : text ≡ conflicts_text (calls_by_key job.block job.store) paths (keys_of_calls job.block job.store)

-- the known bytes grow by the text of a job's conflicts
abbrev pub AppendsConflicts : Job → Option (List ℕ) → Option (List ℕ) → Type 0
AppendsConflicts job old new = (text : List ℕ) × IsConflictsText job text × Appends old new text

-- a refusal of finding the conflicts of a job and writing them: Memory, or one of the output of their text
abbrev pub IsConflictsFault : (WriteFault → Type 0) → Option (List ℕ) → Option (List ℕ) → Job → Refusal → Type 0
IsConflictsFault may_refuse old new job = IsCommandRefused old new (λ e. e ≡ Seq Memory) (IsConflictsText job) (λ text. IsOutputFault may_refuse text old new)
