-- A step by its kind is not an asking.
use Rattle.std.proofs.Common.{◌≢◌}
use Rattle.stm_state.specs.Steps.{Ask}
use Rattle.stm_core.specs.CoreState.{step_of}
use Rattle.stm_core.specs.declared.next_step.StepKind.{StepKind}
use Rattle.stm_core.specs.declared.next_step.StepKind.TheVariants as kinds

pub no_asking : (kind : StepKind) → step_of kind ≢ Ask
no_asking kinds.Park e = cc
no_asking kinds.MoveKey e = cc
no_asking kinds.FinishExecution e = cc
no_asking kinds.CheckRead e = cc
no_asking kinds.Decide e = cc
no_asking kinds.MarkEstimate e = cc
no_asking kinds.FinishAbort e = cc
