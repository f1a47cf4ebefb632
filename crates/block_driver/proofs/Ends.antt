-- What the answers to steps say.
use Rattle.std.proofs.Common.{◌≡◌, ◌≢◌, ℕ, Bool, true, false, refl}
use Rattle.stm_state.specs.declared.state.Task.{Task}
use Rattle.stm_state.specs.declared.state.Task.TheVariants.{Idle, Running, Moving, Validating, Marking}
use Rattle.stm_core.specs.CoreState.{CoreState, ask_result_of}
use Rattle.stm_core.specs.declared.next_step.AskResult.{AskResult}
use Rattle.stm_core.specs.declared.next_step.AskResult.TheVariants as ask_result
use Rattle.block_driver.specs.declared.fault.StepFault.{StepFault}
use Rattle.block_driver.specs.declared.fault.StepFault.TheVariants as fault
use Rattle.block_driver.specs.declared.hold.Owed.{Owed}
use Rattle.block_driver.specs.declared.hold.Owed.TheVariants as owed
use Rattle.block_driver.specs.declared.progress.Progress.{Progress}
use Rattle.block_driver.specs.Owed.{IsFaultCause, IsEnd, IsOwed, IsLimitMet}

-- ---- an asking

nothing_is_not_done : ask_result.Nothing ≢ ask_result.Done
nothing_is_not_done e = cc

nothing_is_no_task : ask_result.Nothing ≢ ask_result.Task
nothing_is_no_task e = cc

-- one that gives no task leaves the worker without one
pub idle_where_nothing : (done : Bool) (task : Task) → ask_result.Nothing ≡ ask_result_of done task → task ≡ Idle
idle_where_nothing true task e = absurd (nothing_is_not_done e)
idle_where_nothing false Idle e = refl
idle_where_nothing false (Running i answers blocked) e = absurd (nothing_is_no_task e)
idle_where_nothing false (Moving i keys new) e = absurd (nothing_is_no_task e)
idle_where_nothing false (Validating i n left failed) e = absurd (nothing_is_no_task e)
idle_where_nothing false (Marking i keys) e = absurd (nothing_is_no_task e)

done_is_not_nothing : ask_result.Done ≢ ask_result.Nothing
done_is_not_nothing e = cc

done_is_no_task : ask_result.Done ≢ ask_result.Task
done_is_no_task e = cc

-- one that is answered Done comes when all is done
pub done_where_done : (done : Bool) (task : Task) → ask_result.Done ≡ ask_result_of done task → done ≡ true
done_where_done true task e = refl
done_where_done false Idle e = absurd (done_is_not_nothing e)
done_where_done false (Running i answers blocked) e = absurd (done_is_no_task e)
done_where_done false (Moving i keys new) e = absurd (done_is_no_task e)
done_where_done false (Validating i n left failed) e = absurd (done_is_no_task e)
done_where_done false (Marking i keys) e = absurd (done_is_no_task e)

-- ---- what ends the steps

-- it is what the worker owes
pub end_owed : (w most made : ℕ) (b : CoreState) (told : Owed) → IsEnd w b told → IsOwed w most made b told
end_owed w most made b (owed.Run call n) e = e
end_owed w most made b owed.Nothing e = e
end_owed w most made b owed.Done e = e
end_owed w most made b owed.Again e = absurd e

-- a limit that is met is a cause
pub limit_cause : (found : StepFault) (w : ℕ) (has : Progress) (b : CoreState) → IsLimitMet found w b → IsFaultCause found w has b
limit_cause fault.Foreign w has b met = absurd met
limit_cause fault.ArenaFull w has b met = met
limit_cause fault.IncarnationLimit w has b met = met
limit_cause fault.Memory w has b met = absurd met
limit_cause fault.StepLimit w has b met = met
limit_cause fault.GivenUp w has b met = absurd met
