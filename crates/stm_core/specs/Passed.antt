-- How many versions the steps of workers pass: versions that add an amount, which a read looks through and a check compares.
use Rattle.std.specs.Prelude.{◌≡◌, ◌<◌, ◌+◌, ◌-◌, ℕ, length, Option, None, Some, Ok, slice_get}
use Rattle.read_set.specs.declared.Read.{Read}
use Rattle.mvmap.specs.Reading.{Visible, blocker, passed_in, reading}
use Rattle.stm_state.specs.declared.state.Task.{Task}
use Rattle.stm_state.specs.declared.state.Task.TheVariants.{Validating}
use Rattle.stm_state.specs.State.{State, call_at, start_state, task_at}
use Rattle.stm_state.specs.Steps.{Block, Step, ReadKey, CheckRead, recorded_reads, worker_step}
use Rattle.stm_core.specs.CoreState.{index_run}

-- the versions that a recorded read passed; 0 if there is no read
abbrev pub passed_by_read : Option Read → ℕ
passed_by_read None = 0
passed_by_read (Some read) = length read.origin.passed

-- the call that a task validates, and the number of its reads that are left to check
abbrev pub check_of : Task → Option (ℕ × ℕ)
check_of (Validating i n left failed) = Some (i, left)
check_of task = None

-- those that the next check of a call passes: the ones of the first read that is left
abbrev pub passed_by_check_of : State → Option (ℕ × ℕ) → ℕ
passed_by_check_of s None = 0
passed_by_check_of s (Some c) = passed_by_read (slice_get (recorded_reads (call_at s c.0).last) (length (recorded_reads (call_at s c.0).last) - c.1))

abbrev pub passed_by_check : State → Task → ℕ
passed_by_check s task = passed_by_check_of s (check_of task)

-- those that an answer to a read names; a read that is blocked has no answer
abbrev pub passed_by_answer : Visible → Option ℕ → ℕ
passed_by_answer seen None = length (passed_in seen)
passed_by_answer seen (Some writer) = 0

abbrev pub passed_by_seen : Visible → ℕ
passed_by_seen seen = passed_by_answer seen (blocker seen)

-- those that a worker's step passes
abbrev pub passed_by_step : ℕ → Step → State → ℕ
passed_by_step w (ReadKey key) s = passed_by_seen (reading s.versions key (index_run (task_at s w)))
passed_by_step w CheckRead s = passed_by_check s (task_at s w)
passed_by_step w step s = 0

-- some list of worker steps leads from the start of a block to this state, and its steps pass this number of versions
pub data ReachedPassing (block : Block) (workers : ℕ) : State → ℕ → Type 0 where
  started : ReachedPassing block workers (start_state block.count workers) 0
  stepped : {s t : State} {passed : ℕ} (w : ℕ) (step : Step) → ReachedPassing block workers s passed → w < workers → worker_step block w step s ≡ Some (Ok t) → ReachedPassing block workers t (passed + passed_by_step w step s)
