use Rattle.std.proofs.Common.{◌+◌, length, get_or, Some, subst, sym}
use Rattle.mvmap.specs.Table.{Table}
use Rattle.mvmap.specs.Versions.{Estimate, changed}
use Rattle.stm_state.specs.declared.state.Task.TheVariants.{Idle}
use Rattle.stm_state.specs.Steps.{MarkEstimate}
use Rattle.stm_core.specs.CoreState.{Makes}
use Rattle.stm_core.specs.Inner.{IsReached, core_state_of}
use Rattle.stm_core.proofs.HandedRuns.{mark_makes, mark_reached}
use Rattle.stm_core.proofs.MadeSteps.{due_at, mark_has_place, may_count}
use Rattle.stm_core.proofs.StepParts.{marking_has_keys, marks_key, marks_some_key}
use Rattle.stm_core.proofs.state.Core.mark_estimate.Goals as goal

pub next_key-requires-clause-keys : goal.next_key-requires-clause-keys
next_key-requires-clause-keys g c = marking_has_keys (get_or c.self.inside.scheduler.tasks c.args.worker Idle) c.in-Marking.call c.in-Marking.ensures

pub unreachable-requires-in_default-next_key : goal.unreachable-requires-in_default-next_key
unreachable-requires-in_default-next_key g c =
    let due = due_at (g.H.JobSource.job c.self.inside.job) c.self.inside.map c.self.inside.promised c.self.inside.scheduler c.self.invariant c.args.self.now c.self.view_is c.args.worker MarkEstimate c.requires in
    marks_some_key (get_or c.self.inside.scheduler.tasks c.args.worker Idle) due.due_step c.in_default-next_key.ensures.marking

pub mark_key-requires : goal.mark_key-requires
mark_key-requires g c =
    let due = due_at (g.H.JobSource.job c.self.inside.job) c.self.inside.map c.self.inside.promised c.self.inside.scheduler c.self.invariant c.args.self.now c.self.view_is c.args.worker MarkEstimate c.requires in
    let marks = marks_key (get_or c.self.inside.scheduler.tasks c.args.worker Idle) c.in-Marking.call c.in-Some.key.now due.due_step c.in-Marking.ensures c.in-Some.ensures.marking in
    mark_has_place (g.H.JobSource.job c.self.inside.job) c.self.inside.map c.self.inside.promised c.self.inside.scheduler c.self.invariant c.args.worker c.in-Marking.call c.in-Some.key.now marks.0 marks.1

pub drop_key-requires-clause-counts : goal.drop_key-requires-clause-counts
drop_key-requires-clause-counts g c = may_count (g.H.JobSource.job c.self.inside.job) c.self.inside.map c.self.inside.promised c.self.inside.scheduler c.self.invariant c.args.self.now c.self.view_is c.args.worker MarkEstimate c.requires

pub invariant_of-self : goal.invariant_of-self
invariant_of-self g c =
    let due = due_at (g.H.JobSource.job c.self.inside.job) c.self.inside.map c.self.inside.promised c.self.inside.scheduler c.self.invariant c.args.self.now c.self.view_is c.args.worker MarkEstimate c.requires in
    let marks = marks_key (get_or c.self.inside.scheduler.tasks c.args.worker Idle) c.in-Marking.call c.in-Some.key.now due.due_step c.in-Marking.ensures c.in-Some.ensures.marking in
    subst (λ (t : Table). IsReached (g.H.JobSource.job c.self.inside.job) t c.self.inside.promised c.drop_key.new.self) (sym c.mark_key.ensures)
    (mark_reached (g.H.JobSource.job c.self.inside.job) c.self.inside.map c.self.inside.promised c.self.inside.scheduler c.self.invariant c.args.self.now c.self.view_is c.args.worker c.in-Marking.call c.requires c.in-Some.key.now marks.0 marks.1 c.drop_key.new.self (c.drop_key.ensures.marking c.in-Marking.call c.in-Some.key.now marks.0 marks.1 (changed c.self.inside.map.versions (c.in-Some.key.now, c.in-Marking.call) (Some Estimate)) (length c.self.inside.map.arena.records + c.self.inside.promised)))

pub returns : goal.returns
returns g c =
    let due = due_at (g.H.JobSource.job c.self.inside.job) c.self.inside.map c.self.inside.promised c.self.inside.scheduler c.self.invariant c.args.self.now c.self.view_is c.args.worker MarkEstimate c.requires in
    let marks = marks_key (get_or c.self.inside.scheduler.tasks c.args.worker Idle) c.in-Marking.call c.in-Some.key.now due.due_step c.in-Marking.ensures c.in-Some.ensures.marking in
    subst (λ (t : Table). Makes c.args.worker MarkEstimate c.args.self.now (core_state_of (g.H.JobSource.job c.self.inside.job) t c.self.inside.promised c.drop_key.new.self c.self.inside.read_room)) (sym c.mark_key.ensures)
    (mark_makes (g.H.JobSource.job c.self.inside.job) c.self.inside.map c.self.inside.promised c.self.inside.scheduler c.self.invariant c.args.self.now c.self.view_is c.args.worker c.in-Marking.call c.requires c.in-Some.key.now marks.0 marks.1 c.drop_key.new.self (c.drop_key.ensures.marking c.in-Marking.call c.in-Some.key.now marks.0 marks.1 (changed c.self.inside.map.versions (c.in-Some.key.now, c.in-Marking.call) (Some Estimate)) (length c.self.inside.map.arena.records + c.self.inside.promised)) c.drop_key.ensures.rooms)
