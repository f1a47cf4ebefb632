use Rattle.std.proofs.Common.{◌≡◌, ◌≤◌, ℕ, None, length, get_or, drop}
use Rattle.stm_state.specs.Drive.{driven}
use Rattle.stm_state.specs.State.{no_counts, task_at}
use Rattle.stm_core.specs.Driving.{FitsTask}
use Rattle.stm_core.proofs.driving.step_along.Given as goal

abbrev pub invariant-loop-entry : goal.invariant-loop-entry
invariant-loop-entry l = record {
  job : l.core.job ≡ l.fn.core.job;
  driven : driven l.fn.core.job.block l.fn.core.job.store l.workers (drop l.entry-index l.schedule) l.core.state ≡ driven l.fn.core.job.block l.fn.core.job.store l.workers l.schedule l.fn.core.state;
  tasks : length l.core.state.tasks ≡ l.workers;
  runs : length l.runs.items ≡ l.workers;
  steps : (u : ℕ) → (get_or l.core.state.counts u no_counts).steps ≤ l.entry-index;
  fits : (u : ℕ) → FitsTask l.fn.core.job.block (get_or l.runs.items u None) (task_at l.core.state u);
}
