use Rattle.std.proofs.Common.{◌<◌, ◌+◌, ◌∙◌, length, get_or, Some, Ok, arith, sym, ap, refl}
use Rattle.stm_state.specs.declared.state.Task.TheVariants.{Idle}
use Rattle.stm_state.specs.State.{fresh}
use Rattle.stm_state.specs.Steps.{Park}
use Rattle.stm_state.specs.Done.{block_of}
use Rattle.stm_state.specs.declared.state.CallState.{CallState}
use Rattle.stm_state.proofs.Invariant.{named_by}
use Rattle.scheduler.specs.declared.worker.TaskKind.TheVariants as task_kind
use Rattle.stm_core.specs.Inner.{state_in}
use Rattle.stm_core.proofs.StepParts.{running_at}
use Rattle.stm_core.proofs.MadeSteps.{blocked_in, goes_on_quietly, limit_at, may_count, named_in, park_made}
use Rattle.stm_core.proofs.state.Core.park.Goals as goal

pub call-requires : goal.call-requires
call-requires g c =
    let runs = running_at (get_or c.self.inside.scheduler.tasks c.args.worker Idle) c.in-Running-default-Some.call (Some c.in-Running-default-Some.on) (ap (λ b. task_kind.Running c.in-Running-default-Some.call b) (sym c.in-Running-default-Some.blocked-is) ∙ c.in-Running-default-Some.ensures) in
    named_in (g.H.JobSource.job c.self.inside.job) c.self.inside.map c.self.inside.promised c.self.inside.scheduler c.self.invariant c.args.worker c.in-Running-default-Some.call (ap named_by runs.1)

pub add_dependency-requires-clause-counts : goal.add_dependency-requires-clause-counts
add_dependency-requires-clause-counts g c = may_count (g.H.JobSource.job c.self.inside.job) c.self.inside.map c.self.inside.promised c.self.inside.scheduler c.self.invariant c.args.self.now c.self.view_is c.args.worker Park c.requires

pub add_dependency-requires-clause-within : goal.add_dependency-requires-clause-within
add_dependency-requires-clause-within g c =
    let runs = running_at (get_or c.self.inside.scheduler.tasks c.args.worker Idle) c.in-Running-default-Some.call (Some c.in-Running-default-Some.on) (ap (λ b. task_kind.Running c.in-Running-default-Some.call b) (sym c.in-Running-default-Some.blocked-is) ∙ c.in-Running-default-Some.ensures) in
    (named_in (g.H.JobSource.job c.self.inside.job) c.self.inside.map c.self.inside.promised c.self.inside.scheduler c.self.invariant c.args.worker c.in-Running-default-Some.call (ap named_by runs.1), blocked_in (g.H.JobSource.job c.self.inside.job) c.self.inside.map c.self.inside.promised c.self.inside.scheduler c.self.invariant c.args.worker c.in-Running-default-Some.call c.in-Running-default-Some.on runs.0 runs.1)

pub invariant_of-self : goal.invariant_of-self
invariant_of-self g c =
    let runs = running_at (get_or c.self.inside.scheduler.tasks c.args.worker Idle) c.in-Running-default-Some.call (Some c.in-Running-default-Some.on) (ap (λ b. task_kind.Running c.in-Running-default-Some.call b) (sym c.in-Running-default-Some.blocked-is) ∙ c.in-Running-default-Some.ensures) in
    let most = limit_at (g.H.JobSource.job c.self.inside.job) c.self.inside.map c.self.inside.promised c.self.inside.scheduler c.self.invariant c.in-Running-default-Some.call in
    let low : (get_or c.self.inside.scheduler.calls c.in-Running-default-Some.call fresh).incarnation < 65535 = let same = ap (λ (call : CallState). call.incarnation) c.call.ensures in omega (arith, most, same) in
    goes_on_quietly (g.H.JobSource.job c.self.inside.job) c.self.inside.map c.self.inside.promised c.self.inside.scheduler c.self.invariant c.args.self.now c.self.view_is c.args.worker Park c.requires c.self.inside.map c.add_dependency.new.self tt
    (park_made (block_of (g.H.JobSource.job c.self.inside.job).block (g.H.JobSource.job c.self.inside.job).store) c.args.worker (state_in c.self.inside.map c.self.inside.promised c.self.inside.scheduler) c.in-Running-default-Some.call c.in-Running-default-Some.on runs.0 runs.1 low
    ∙ ap (λ s. Some (Ok s)) (sym (c.add_dependency.ensures.state c.self.inside.map.versions (length c.self.inside.map.arena.records + c.self.inside.promised))))
    c.self.invariant.places refl refl
