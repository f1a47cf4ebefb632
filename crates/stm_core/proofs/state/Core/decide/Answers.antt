use Rattle.std.proofs.Common.{◌+◌, ◌∙◌, length, get_or, Some, Ok, ap, refl, sym}
use Rattle.stm_state.specs.declared.state.Task.TheVariants.{Idle}
use Rattle.stm_state.specs.Steps.{Decide}
use Rattle.stm_state.specs.Done.{block_of}
use Rattle.stm_core.specs.Inner.{state_in}
use Rattle.stm_core.proofs.MadeSteps.{decide_made, due_at, goes_on_quietly, may_count, named_in}
use Rattle.stm_core.proofs.StepParts.{names_validating, validates_at}
use Rattle.stm_core.proofs.state.Core.decide.Goals as goal

pub try_abort-requires-clause-counts : goal.try_abort-requires-clause-counts
try_abort-requires-clause-counts g c = may_count (g.H.JobSource.job c.self.inside.job) c.self.inside.map c.self.inside.promised c.self.inside.scheduler c.self.invariant c.args.self.now c.self.view_is c.args.worker Decide c.requires

pub try_abort-requires-clause-within : goal.try_abort-requires-clause-within
try_abort-requires-clause-within g c = named_in (g.H.JobSource.job c.self.inside.job) c.self.inside.map c.self.inside.promised c.self.inside.scheduler c.self.invariant c.args.worker c.in-Validating.call (names_validating (get_or c.self.inside.scheduler.tasks c.args.worker Idle) c.in-Validating.call c.in-Validating.incarnation c.in-Validating.left c.in-Validating.failed c.in-Validating.ensures)

pub invariant_of-self : goal.invariant_of-self
invariant_of-self g c =
    let due = due_at (g.H.JobSource.job c.self.inside.job) c.self.inside.map c.self.inside.promised c.self.inside.scheduler c.self.invariant c.args.self.now c.self.view_is c.args.worker Decide c.requires in
    let at = validates_at (get_or c.self.inside.scheduler.tasks c.args.worker Idle) c.in-Validating.call c.in-Validating.incarnation c.in-Validating.left c.in-Validating.failed c.in-Validating.ensures in
    goes_on_quietly (g.H.JobSource.job c.self.inside.job) c.self.inside.map c.self.inside.promised c.self.inside.scheduler c.self.invariant c.args.self.now c.self.view_is c.args.worker Decide c.requires c.self.inside.map c.try_abort.new.self tt
    (decide_made (block_of (g.H.JobSource.job c.self.inside.job).block (g.H.JobSource.job c.self.inside.job).store) c.args.worker (state_in c.self.inside.map c.self.inside.promised c.self.inside.scheduler) c.in-Validating.call c.in-Validating.incarnation c.in-Validating.left c.in-Validating.failed at due.due_step
    ∙ ap (λ s. Some (Ok s)) (sym (c.try_abort.ensures.state c.self.inside.map.versions (length c.self.inside.map.arena.records + c.self.inside.promised))))
    c.self.invariant.places refl refl
