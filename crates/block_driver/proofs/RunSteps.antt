-- The step that a run is at.
use Rattle.std.proofs.Common.{◌≡◌, ◌≢◌, ◌≤◌, ◌↔◌, ◌∙◌, ℕ, Option, List, Err, ap, inl, inr, refl, sym, arith}
use Rattle.rv_step.specs.declared.ended_run.EndedRun.{EndedRun}
use Rattle.stm_state.specs.Steps.{Record}
use Rattle.stm_state.specs.Steps as steps
use Rattle.stm_core.specs.CoreState.{CoreState, IsOwn, IsReadyOf, IsRefused, IsTaken}
use Rattle.stm_core.specs.declared.fault.RecordFault.{RecordFault}
use Rattle.stm_core.specs.declared.fault.RecordFault.TheVariants as record_fault
use Rattle.stm_core.specs.declared.ready_record.ReadyRecord.{ReadyRecord}
use Rattle.block_driver.specs.declared.fault.StepFault.{StepFault}
use Rattle.block_driver.specs.declared.fault.StepFault.TheVariants as fault
use Rattle.block_driver.specs.declared.progress.AskingRun.{AskingRun}
use Rattle.block_driver.specs.declared.progress.Progress.{Progress}
use Rattle.block_driver.specs.declared.progress.Progress.TheVariants as progress
use Rattle.block_driver.specs.Owed.{IsFaultCause, IsReadBase, run_steps, step_fault}

-- it is one at most
pub one_at_most : (has : Progress) → run_steps has ≤ 1
one_at_most (progress.Idle left) = omega arith
one_at_most (progress.Start call left) = omega arith
one_at_most (progress.Running run) = omega arith
one_at_most (progress.Asking asking) = omega arith
one_at_most (progress.Answered asking base) = omega arith
one_at_most (progress.Given asking value origin) = omega arith
one_at_most (progress.Ended run) = omega arith
one_at_most (progress.Ready ready) = omega arith

-- and none if the run is not at a step
pub no_run_step : (has : Progress) → ((asking : AskingRun) (base : Option (List ℕ)) → has ≡ progress.Answered asking base → ⊥) → ((ready : ReadyRecord) → has ≡ progress.Ready ready → ⊥) → run_steps has ≡ 0
no_run_step (progress.Answered asking base) answered ready = absurd (answered asking base refl)
no_run_step (progress.Ready run) answered ready = absurd (ready run refl)
no_run_step has answered ready = refl

-- a run that is ready in two ways is the same
pub same_ready : (run : EndedRun) (a b : ReadyRecord) → IsReadyOf run a → IsReadyOf run b → a ≡ b
same_ready run a b p q =
    ap (λ x. record a { call = x }) (p.call ∙ sym q.call)
    ∙ ap (λ x. record a { call = b.call; answers = x }) (p.answers ∙ sym q.answers)
    ∙ ap (λ x. record a { call = b.call; answers = b.answers; recorded = x }) (p.recorded ∙ sym q.recorded)

-- why a record is refused
pub record_cause : (w : ℕ) (ready : ReadyRecord) (b : CoreState) (found : RecordFault)
    → ((run : EndedRun) → IsReadyOf run ready → (found ≢ record_fault.Foreign) ↔ IsOwn w run b)
    → (found ≡ record_fault.ArenaFull → IsRefused w Record steps.ArenaFull b)
    → (found ≡ record_fault.IncarnationLimit → IsRefused w Record steps.IncarnationLimit b)
    → (found ≡ record_fault.Memory → IsTaken w Record b)
    → IsFaultCause (step_fault found) w (progress.Ready ready) b
record_cause w ready b record_fault.Foreign own full limit memory = inr (inr (λ run is has. (own run is).1 has refl))
record_cause w ready b record_fault.ArenaFull own full limit memory = full refl
record_cause w ready b record_fault.IncarnationLimit own full limit memory = (Record, limit refl)
record_cause w ready b record_fault.Memory own full limit memory = memory refl

-- why a read is refused
pub read_cause : (w : ℕ) (asking : AskingRun) (base : Option (List ℕ)) (old new : CoreState) (found : StepFault)
    → IsReadBase w old new (Err found) → (new ≡ old) × IsFaultCause found w (progress.Answered asking base) new
read_cause w asking base old new fault.Foreign h = (h.0, inr h.1)
read_cause w asking base old new fault.ArenaFull h = absurd h.1
read_cause w asking base old new fault.IncarnationLimit h = absurd h.1
read_cause w asking base old new fault.Memory h = h
read_cause w asking base old new fault.StepLimit h = h
read_cause w asking base old new fault.GivenUp h = absurd h.1
