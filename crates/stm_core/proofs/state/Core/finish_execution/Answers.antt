use Rattle.std.proofs.Common.{◌+◌, ◌∙◌, length, get_or, Some, Ok, ap, refl, sym}
use Rattle.stm_state.specs.declared.state.Task.TheVariants.{Idle}
use Rattle.stm_state.specs.Steps.{FinishExecution}
use Rattle.stm_state.specs.Done.{block_of}
use Rattle.stm_core.specs.Inner.{state_in}
use Rattle.stm_core.proofs.MadeSteps.{aborting_low, due_at, finish_made, goes_on_quietly, may_count, named_in}
use Rattle.stm_core.proofs.StepParts.{finishes_moving, names_moving}
use Rattle.stm_core.proofs.state.Core.finish_execution.Goals as goal

pub finish_execution-requires-clause-counts : goal.finish_execution-requires-clause-counts
finish_execution-requires-clause-counts g c = may_count (g.H.JobSource.job c.self.inside.job) c.self.inside.map c.self.inside.promised c.self.inside.scheduler c.self.invariant c.args.self.now c.self.view_is c.args.worker FinishExecution c.requires

pub finish_execution-requires-clause-within : goal.finish_execution-requires-clause-within
finish_execution-requires-clause-within g c = named_in (g.H.JobSource.job c.self.inside.job) c.self.inside.map c.self.inside.promised c.self.inside.scheduler c.self.invariant c.args.worker c.in-Moving.call (names_moving (get_or c.self.inside.scheduler.tasks c.args.worker Idle) c.in-Moving.call c.in-Moving.new_key c.in-Moving.ensures)

pub finish_execution-requires-clause-moving : goal.finish_execution-requires-clause-moving
finish_execution-requires-clause-moving g c =
    let due = due_at (g.H.JobSource.job c.self.inside.job) c.self.inside.map c.self.inside.promised c.self.inside.scheduler c.self.invariant c.args.self.now c.self.view_is c.args.worker FinishExecution c.requires in
    finishes_moving (get_or c.self.inside.scheduler.tasks c.args.worker Idle) c.in-Moving.call c.in-Moving.new_key due.due_step c.in-Moving.ensures

pub finish_execution-requires-clause-incarnations : goal.finish_execution-requires-clause-incarnations
finish_execution-requires-clause-incarnations g c = λ i at. aborting_low (g.H.JobSource.job c.self.inside.job) c.self.inside.map c.self.inside.promised c.self.inside.scheduler c.self.invariant i at

pub invariant_of-self : goal.invariant_of-self
invariant_of-self g c =
    let due = due_at (g.H.JobSource.job c.self.inside.job) c.self.inside.map c.self.inside.promised c.self.inside.scheduler c.self.invariant c.args.self.now c.self.view_is c.args.worker FinishExecution c.requires in
    let at = finishes_moving (get_or c.self.inside.scheduler.tasks c.args.worker Idle) c.in-Moving.call c.in-Moving.new_key due.due_step c.in-Moving.ensures in
    goes_on_quietly (g.H.JobSource.job c.self.inside.job) c.self.inside.map c.self.inside.promised c.self.inside.scheduler c.self.invariant c.args.self.now c.self.view_is c.args.worker FinishExecution c.requires c.self.inside.map c.finish_execution.new.self tt
    (finish_made (block_of (g.H.JobSource.job c.self.inside.job).block (g.H.JobSource.job c.self.inside.job).store) c.args.worker (state_in c.self.inside.map c.self.inside.promised c.self.inside.scheduler) c.in-Moving.call c.in-Moving.new_key at
    ∙ ap (λ s. Some (Ok s)) (sym (c.finish_execution.ensures.state c.self.inside.map.versions (length c.self.inside.map.arena.records + c.self.inside.promised))))
    c.self.invariant.places refl refl
