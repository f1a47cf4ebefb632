use Rattle.std.proofs.Common.{◌≡◌, ◌+◌, ◌∙◌, length, get_or, Some, Ok, sym, ap, refl, arith}
use Rattle.stm_state.specs.declared.state.Task.TheVariants.{Idle}
use Rattle.stm_state.specs.Steps.{Ask}
use Rattle.stm_state.specs.Done.{block_of}
use Rattle.stm_core.specs.Inner.{state_in}
use Rattle.stm_core.proofs.StepParts.{asks_idle}
use Rattle.stm_core.proofs.MadeSteps.{ask_made, due_at, execution_in, goes_on_quietly, may_count}
use Rattle.stm_core.proofs.TaskChanges.{turn_workers}
use Rattle.stm_core.proofs.state.Core.ask.Goals as goal

pub ask-requires-clause-counts : goal.ask-requires-clause-counts
ask-requires-clause-counts g c = may_count (g.H.JobSource.job c.self.inside.job) c.self.inside.map c.self.inside.promised c.self.inside.scheduler c.self.invariant c.args.self.now c.self.view_is c.args.worker Ask c.requires

pub ask-requires-clause-execution : goal.ask-requires-clause-execution
ask-requires-clause-execution g c = execution_in (g.H.JobSource.job c.self.inside.job) c.self.inside.map c.self.inside.promised c.self.inside.scheduler c.self.invariant

-- the asking is the worker's due step
pub task_kind-requires : goal.task_kind-requires
task_kind-requires g c =
    let due = due_at (g.H.JobSource.job c.self.inside.job) c.self.inside.map c.self.inside.promised c.self.inside.scheduler c.self.invariant c.args.self.now c.self.view_is c.args.worker Ask c.requires in
    let idle : (get_or c.self.inside.scheduler.tasks c.args.worker Idle) ≡ Idle = asks_idle (get_or c.self.inside.scheduler.tasks c.args.worker Idle) due.due_step in
    let same = turn_workers (block_of (g.H.JobSource.job c.self.inside.job).block (g.H.JobSource.job c.self.inside.job).store) c.args.worker Ask (state_in c.self.inside.map c.self.inside.promised c.self.inside.scheduler) (state_in c.self.inside.map c.self.inside.promised c.ask.new.self)
    (ask_made (block_of (g.H.JobSource.job c.self.inside.job).block (g.H.JobSource.job c.self.inside.job).store) c.args.worker (state_in c.self.inside.map c.self.inside.promised c.self.inside.scheduler) idle ∙ ap (λ s. Some (Ok s)) (sym (c.ask.ensures.state c.self.inside.map.versions (length c.self.inside.map.arena.records + c.self.inside.promised)))) in
    let within = due.worker in
    omega (arith, same, within)

pub invariant_of-self : goal.invariant_of-self
invariant_of-self g c =
    let due = due_at (g.H.JobSource.job c.self.inside.job) c.self.inside.map c.self.inside.promised c.self.inside.scheduler c.self.invariant c.args.self.now c.self.view_is c.args.worker Ask c.requires in
    let idle : (get_or c.self.inside.scheduler.tasks c.args.worker Idle) ≡ Idle = asks_idle (get_or c.self.inside.scheduler.tasks c.args.worker Idle) due.due_step in
    goes_on_quietly (g.H.JobSource.job c.self.inside.job) c.self.inside.map c.self.inside.promised c.self.inside.scheduler c.self.invariant c.args.self.now c.self.view_is c.args.worker Ask c.requires c.self.inside.map c.ask.new.self tt
    (ask_made (block_of (g.H.JobSource.job c.self.inside.job).block (g.H.JobSource.job c.self.inside.job).store) c.args.worker (state_in c.self.inside.map c.self.inside.promised c.self.inside.scheduler) idle ∙ ap (λ s. Some (Ok s)) (sym (c.ask.ensures.state c.self.inside.map.versions (length c.self.inside.map.arena.records + c.self.inside.promised))))
    c.self.invariant.places refl refl
