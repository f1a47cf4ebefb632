use Rattle.std.proofs.Common.{◌+◌, length, get_or, ap, sym, subst}
use Rattle.stm_state.specs.declared.state.Task.TheVariants.{Idle}
use Rattle.stm_state.proofs.Invariant.{named_by}
use Rattle.stm_core.specs.CoreState.{CoreState, IsWithin}
use Rattle.stm_core.specs.Inner.{state_in}
use Rattle.stm_core.proofs.StepParts.{within_doing}
use Rattle.stm_core.proofs.MadeSteps.{invariant_at, named_in}
use Rattle.stm_core.proofs.state.Core.doing.Goals as goal

pub next_step_of-requires-clause-running : goal.next_step_of-requires-clause-running
next_step_of-requires-clause-running g c = λ i answers blocked at. named_in (g.H.JobSource.job c.self.inside.job) c.self.inside.map c.self.inside.promised c.self.inside.scheduler c.self.invariant c.args.worker i (ap named_by at)

pub next_step_of-requires-clause-moving : goal.next_step_of-requires-clause-moving
next_step_of-requires-clause-moving g c = λ i keys new at. named_in (g.H.JobSource.job c.self.inside.job) c.self.inside.map c.self.inside.promised c.self.inside.scheduler c.self.invariant c.args.worker i (ap named_by at)

pub next_step_of-requires-clause-marking : goal.next_step_of-requires-clause-marking
next_step_of-requires-clause-marking g c = λ i keys at. named_in (g.H.JobSource.job c.self.inside.job) c.self.inside.map c.self.inside.promised c.self.inside.scheduler c.self.invariant c.args.worker i (ap named_by at)

pub returns-clause-within : goal.returns-clause-within
returns-clause-within g c =
    subst (λ (b : CoreState). IsWithin (length b.job.block) c.next_step_of.result) c.self.view_is
    (subst (IsWithin (length (g.H.JobSource.job c.self.inside.job).block)) (sym (c.next_step_of.ensures c.self.inside.map.versions (length c.self.inside.map.arena.records + c.self.inside.promised)))
    (within_doing (length (g.H.JobSource.job c.self.inside.job).block) (state_in c.self.inside.map c.self.inside.promised c.self.inside.scheduler) (get_or c.self.inside.scheduler.tasks c.args.worker Idle) (λ i named. (invariant_at (g.H.JobSource.job c.self.inside.job) c.self.inside.map c.self.inside.promised c.self.inside.scheduler c.self.invariant).facts.named c.args.worker i named)))
