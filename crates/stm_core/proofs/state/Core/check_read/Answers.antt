use Rattle.std.proofs.Common.{◌≡◌, ◌-◌, ◌+◌, ◌∙◌, length, get_or, slice_get, false, Some, Ok, ap, arith, refl, sym}
use Rattle.stm_state.specs.declared.state.CallState.{CallState}
use Rattle.stm_state.specs.declared.state.Task.TheVariants.{Idle, Validating}
use Rattle.stm_state.specs.Steps.{CheckRead, after_check_read, counted, next_stands, one_step, read_stands, recorded_reads}
use Rattle.stm_state.specs.Done.{block_of}
use Rattle.stm_core.specs.Inner.{state_in}
use Rattle.stm_core.proofs.MadeSteps.{check_made, due_at, goes_on_quietly, may_count, named_in}
use Rattle.stm_core.proofs.StepParts.{checks_next, names_validating}
use Rattle.stm_core.proofs.state.Core.check_read.Goals as goal

pub call-requires : goal.call-requires
call-requires g c = named_in (g.H.JobSource.job c.self.inside.job) c.self.inside.map c.self.inside.promised c.self.inside.scheduler c.self.invariant c.args.worker c.in-Validating.call (names_validating (get_or c.self.inside.scheduler.tasks c.args.worker Idle) c.in-Validating.call c.in-Validating.incarnation c.in-Validating.left c.in-Validating.failed c.in-Validating.ensures)

pub finish_validation-requires-clause-counts : goal.finish_validation-requires-clause-counts
finish_validation-requires-clause-counts g c = may_count (g.H.JobSource.job c.self.inside.job) c.self.inside.map c.self.inside.promised c.self.inside.scheduler c.self.invariant c.args.self.now c.self.view_is c.args.worker CheckRead c.requires

pub finish_validation-requires-clause-within : goal.finish_validation-requires-clause-within
finish_validation-requires-clause-within g c = named_in (g.H.JobSource.job c.self.inside.job) c.self.inside.map c.self.inside.promised c.self.inside.scheduler c.self.invariant c.args.worker c.in-Validating.call (names_validating (get_or c.self.inside.scheduler.tasks c.args.worker Idle) c.in-Validating.call c.in-Validating.incarnation c.in-Validating.left c.in-Validating.failed c.in-Validating.ensures)

pub finish_validation-requires-clause-checking : goal.finish_validation-requires-clause-checking
finish_validation-requires-clause-checking g c =
    let due = due_at (g.H.JobSource.job c.self.inside.job) c.self.inside.map c.self.inside.promised c.self.inside.scheduler c.self.invariant c.args.self.now c.self.view_is c.args.worker CheckRead c.requires in
    let next = checks_next (get_or c.self.inside.scheduler.tasks c.args.worker Idle) c.in-Validating.call c.in-Validating.incarnation c.in-Validating.left c.in-Validating.failed due.due_step c.in-Validating.ensures in
    let left = next.1 in
    next.2 ∙ ap (λ x. Validating c.in-Validating.call c.in-Validating.incarnation x false) (omega (arith, left))

pub invariant_of-self : goal.invariant_of-self
invariant_of-self g c =
    let due = due_at (g.H.JobSource.job c.self.inside.job) c.self.inside.map c.self.inside.promised c.self.inside.scheduler c.self.invariant c.args.self.now c.self.view_is c.args.worker CheckRead c.requires in
    let next = checks_next (get_or c.self.inside.scheduler.tasks c.args.worker Idle) c.in-Validating.call c.in-Validating.incarnation c.in-Validating.left c.in-Validating.failed due.due_step c.in-Validating.ensures in
    let left = next.1 in
    let s = state_in c.self.inside.map c.self.inside.promised c.self.inside.scheduler in
    let whole : c.in-Validating.left - 1 + 1 ≡ c.in-Validating.left = omega (arith, left) in
    let less : next.0 ≡ c.in-Validating.left - 1 = omega (arith, left) in
    let stands : next_stands c.in-Validating.call (c.in-Validating.left - 1 + 1) s ≡ c.next_stands-stands.result =
    ap (λ x. next_stands c.in-Validating.call x s) whole
    ∙ ap (λ (x : CallState). read_stands s.versions c.in-Validating.call (slice_get (recorded_reads x.last) (length (recorded_reads x.last) - c.in-Validating.left))) (sym c.call.ensures)
    ∙ sym c.next_stands-stands.ensures in
    goes_on_quietly (g.H.JobSource.job c.self.inside.job) c.self.inside.map c.self.inside.promised c.self.inside.scheduler c.self.invariant c.args.self.now c.self.view_is c.args.worker CheckRead c.requires c.self.inside.map c.finish_validation.new.self tt
    (check_made (block_of (g.H.JobSource.job c.self.inside.job).block (g.H.JobSource.job c.self.inside.job).store) c.args.worker s c.in-Validating.call c.in-Validating.incarnation next.0 next.2
    ∙ ap (λ x. Some (Ok (counted one_step c.args.worker (after_check_read c.args.worker c.in-Validating.call c.in-Validating.incarnation x s)))) less
    ∙ ap (λ t. Some (Ok t)) (sym (c.finish_validation.ensures.state c.self.inside.map.versions (length c.self.inside.map.arena.records + c.self.inside.promised) stands)))
    c.self.invariant.places refl refl
