use Rattle.std.proofs.Common.{◌+◌, ◌∙◌, length, get_or, Some, Ok, ap, refl, sym}
use Rattle.stm_state.specs.declared.state.Task.TheVariants.{Idle}
use Rattle.stm_state.specs.Steps.{FinishAbort}
use Rattle.stm_state.specs.Done.{block_of}
use Rattle.stm_core.specs.Inner.{state_in}
use Rattle.stm_core.proofs.MadeSteps.{abort_made, due_at, goes_on_quietly, marked_low, may_count, named_in}
use Rattle.stm_core.proofs.StepParts.{finishes_marking, names_marking}
use Rattle.stm_core.proofs.state.Core.finish_abort.Goals as goal

pub finish_abort-requires-clause-counts : goal.finish_abort-requires-clause-counts
finish_abort-requires-clause-counts g c = may_count (g.H.JobSource.job c.self.inside.job) c.self.inside.map c.self.inside.promised c.self.inside.scheduler c.self.invariant c.args.self.now c.self.view_is c.args.worker FinishAbort c.requires

pub finish_abort-requires-clause-within : goal.finish_abort-requires-clause-within
finish_abort-requires-clause-within g c = named_in (g.H.JobSource.job c.self.inside.job) c.self.inside.map c.self.inside.promised c.self.inside.scheduler c.self.invariant c.args.worker c.in-Marking.call (names_marking (get_or c.self.inside.scheduler.tasks c.args.worker Idle) c.in-Marking.call c.in-Marking.ensures)

pub finish_abort-requires-clause-incarnation : goal.finish_abort-requires-clause-incarnation
finish_abort-requires-clause-incarnation g c =
    let due = due_at (g.H.JobSource.job c.self.inside.job) c.self.inside.map c.self.inside.promised c.self.inside.scheduler c.self.invariant c.args.self.now c.self.view_is c.args.worker FinishAbort c.requires in
    marked_low (g.H.JobSource.job c.self.inside.job) c.self.inside.map c.self.inside.promised c.self.inside.scheduler c.self.invariant c.args.worker c.in-Marking.call _ (finishes_marking (get_or c.self.inside.scheduler.tasks c.args.worker Idle) c.in-Marking.call due.due_step c.in-Marking.ensures)

pub invariant_of-self : goal.invariant_of-self
invariant_of-self g c =
    let due = due_at (g.H.JobSource.job c.self.inside.job) c.self.inside.map c.self.inside.promised c.self.inside.scheduler c.self.invariant c.args.self.now c.self.view_is c.args.worker FinishAbort c.requires in
    let at = finishes_marking (get_or c.self.inside.scheduler.tasks c.args.worker Idle) c.in-Marking.call due.due_step c.in-Marking.ensures in
    goes_on_quietly (g.H.JobSource.job c.self.inside.job) c.self.inside.map c.self.inside.promised c.self.inside.scheduler c.self.invariant c.args.self.now c.self.view_is c.args.worker FinishAbort c.requires c.self.inside.map c.finish_abort.new.self tt
    (abort_made (block_of (g.H.JobSource.job c.self.inside.job).block (g.H.JobSource.job c.self.inside.job).store) c.args.worker (state_in c.self.inside.map c.self.inside.promised c.self.inside.scheduler) c.in-Marking.call at
    ∙ ap (λ s. Some (Ok s)) (sym (c.finish_abort.ensures.state c.self.inside.map.versions (length c.self.inside.map.arena.records + c.self.inside.promised))))
    c.self.invariant.places refl refl
