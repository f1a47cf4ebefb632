use Rattle.std.proofs.Common.{◌∙◌, ap, refl, subst, sym}
use Rattle.stm_state.specs.Steps.{Record}
use Rattle.stm_core.specs.CoreState.{CoreState}
use Rattle.stm_core.specs.declared.ready_record.ReadyRecord.{ReadyRecord}
use Rattle.block_driver.specs.declared.fault.StepFault.{StepFault}
use Rattle.block_driver.specs.declared.progress.Progress.TheVariants as progress
use Rattle.block_driver.specs.Owed.{IsFaultCause}
use Rattle.block_driver.proofs.Leads.{led_by}
use Rattle.block_driver.proofs.RunSteps.{record_cause, same_ready}
use Rattle.block_driver.proofs.stepping.hand_in.Goals as goal

pub invariant_of-result : goal.invariant_of-result
invariant_of-result g c = (c.ready.invariant.0, c.in-Err-record_checked.ensures.kept c.ready.invariant.0 c.ready.invariant.1)

pub returns-in-Ok : goal.returns-in-Ok
returns-in-Ok g c = (led_by c.args.worker Record c.args.core.now c.record_checked.new.self c.in-Ok.ensures.makes, refl, λ e. cc)

pub returns-in-Err-record_checked : goal.returns-in-Err-record_checked
returns-in-Err-record_checked g c =
    let w = c.args.worker in
    let said = c.in-Err-record_checked.ensures in
    let run = c.ready.invariant.0 in
    let ready = same_ready run c.record_checked.new.ready c.ready.inside.ready (said.kept run c.ready.invariant.1) c.ready.invariant.1 in
    let cause = record_cause w c.ready.inside.ready c.args.core.now c.in-Err-record_checked.fault said.own said.full said.limit said.memory in (
      said.back,
      ap (λ (r : ReadyRecord). progress.Ready r) (ready ∙ c.ready.view_is),
      subst (λ (b : CoreState). IsFaultCause c.step_fault.result w (progress.Ready c.args.ready) b) (sym said.back)
          (subst (λ (r : ReadyRecord). IsFaultCause c.step_fault.result w (progress.Ready r) c.args.core.now) c.ready.view_is
          (subst (λ (f : StepFault). IsFaultCause f w (progress.Ready c.ready.inside.ready) c.args.core.now) (sym c.step_fault.ensures) cause)),
    )
