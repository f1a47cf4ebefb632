-- A run that is ready to be recorded.
use Rattle.std.proofs.Common.{◌≡◌, ◌∙◌, sym, Some}
use Rattle.rv_step.specs.declared.ended_run.EndedRun.{EndedRun}
use Rattle.stm_state.specs.declared.state.Recorded.{Recorded}
use Rattle.stm_state.specs.Steps.{recorded_run}
use Rattle.stm_core.specs.CoreState.{IsReadyOf}
use Rattle.stm_core.specs.declared.ready_record.ReadyRecord.{ReadyRecord}

module _ (run : EndedRun) (ready : ReadyRecord) (is : IsReadyOf run ready) (kept : Recorded) (has : ready.recorded ≡ Some kept) where
  -- the run that the record will keep
  pub kept_is : kept ≡ recorded_run run.answers.items run.receipt
  kept_is = let both : Some kept ≡ Some (recorded_run run.answers.items run.receipt) = sym has ∙ is.recorded in cc
