use Rattle.std.proofs.Common.{◌∙◌, ◌-◌, length, get_or, slice_get, ap, sym}
use Rattle.stm_state.specs.declared.state.CallState.{CallState}
use Rattle.stm_state.specs.declared.state.Task.TheVariants.{Idle}
use Rattle.stm_state.specs.State.{task_at}
use Rattle.stm_state.specs.Steps.{recorded_reads}
use Rattle.stm_core.specs.CoreState.{CoreState}
use Rattle.stm_core.specs.Inner.{state_in}
use Rattle.stm_core.specs.Passed.{passed_by_check, passed_by_check_of, passed_by_read}
use Rattle.stm_core.proofs.MadeSteps.{named_in}
use Rattle.stm_core.proofs.StepParts.{checks_named}
use Rattle.stm_core.proofs.state.Core.passed_by_check.Goals as goal

pub call-requires : goal.call-requires
call-requires g c =
    let task = get_or c.self.inside.scheduler.tasks c.args.worker Idle in
    named_in (g.H.JobSource.job c.self.inside.job) c.self.inside.map c.self.inside.promised c.self.inside.scheduler c.self.invariant c.args.worker c.in-Some.call
    (checks_named task c.in-Some.call c.in-Some.left (sym (c.check_of.ensures task c.task_kind.ensures) ∙ c.in-Some.is))

pub returns-in-Some : goal.returns-in-Some
returns-in-Some g c =
    let s = state_in c.self.inside.map c.self.inside.promised c.self.inside.scheduler in
    let task = get_or c.self.inside.scheduler.tasks c.args.worker Idle in
    c.next_passed.ensures
    ∙ ap (λ (x : CallState). passed_by_read (slice_get (recorded_reads x.last) (length (recorded_reads x.last) - c.in-Some.left))) c.call.ensures
    ∙ ap (passed_by_check_of s) (sym c.in-Some.is ∙ c.check_of.ensures task c.task_kind.ensures)
    ∙ ap (λ (b : CoreState). passed_by_check b.state (task_at b.state c.args.worker)) c.self.view_is

pub returns-in-None : goal.returns-in-None
returns-in-None g c =
    let s = state_in c.self.inside.map c.self.inside.promised c.self.inside.scheduler in
    let task = get_or c.self.inside.scheduler.tasks c.args.worker Idle in
    ap (passed_by_check_of s) (sym c.in-None.is ∙ c.check_of.ensures task c.task_kind.ensures)
    ∙ ap (λ (b : CoreState). passed_by_check b.state (task_at b.state c.args.worker)) c.self.view_is
